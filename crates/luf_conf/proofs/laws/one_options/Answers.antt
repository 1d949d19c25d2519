use Rattle.luf_conf.proofs.OneAnswer as law
use Rattle.luf_conf.proofs.laws.one_options.Goals as goal

pub returns-clause-table : goal.returns-clause-table
returns-clause-table c = law.options_once

pub returns-clause-text : goal.returns-clause-text
returns-clause-text c = law.one_options

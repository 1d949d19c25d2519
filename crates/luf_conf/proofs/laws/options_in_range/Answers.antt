use Rattle.luf_conf.proofs.OneAnswer as law
use Rattle.luf_conf.proofs.laws.options_in_range.Goals as goal

pub returns : goal.returns
returns c = law.options_in_range

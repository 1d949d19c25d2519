use Rattle.luf_conf.proofs.OneAnswer as law
use Rattle.luf_conf.proofs.laws.options_not_refused.Goals as goal

pub returns : goal.returns
returns c = law.options_not_refused

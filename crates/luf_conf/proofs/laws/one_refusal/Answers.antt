use Rattle.luf_conf.proofs.OneAnswer as law
use Rattle.luf_conf.proofs.laws.one_refusal.Goals as goal

pub returns : goal.returns
returns c = law.one_refusal

use Rattle.luf_interf.proofs.Least as law
use Rattle.luf_interf.proofs.laws.least_is_free.Goals as goal

pub returns : goal.returns
returns c = law.least_is_free

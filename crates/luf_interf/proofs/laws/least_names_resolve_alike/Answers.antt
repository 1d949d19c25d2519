use Rattle.luf_interf.proofs.Resolve as law
use Rattle.luf_interf.proofs.laws.least_names_resolve_alike.Goals as goal

pub returns : goal.returns
returns c = law.least_names_resolve_alike

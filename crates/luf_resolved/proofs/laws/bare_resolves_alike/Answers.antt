use Rattle.luf_resolved.proofs.ResolvedAlike as law
use Rattle.luf_resolved.proofs.laws.bare_resolves_alike.Goals as goal

pub returns : goal.returns
returns c = law.bare_resolves_alike

use Rattle.luf_resolved.proofs.ResolvedAlike as law
use Rattle.luf_resolved.proofs.laws.written_resolves_alike.Goals as goal

pub returns : goal.returns
returns c = law.written_resolves_alike

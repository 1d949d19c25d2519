use Rattle.luf_resolved.proofs.ResolvedLemmas as law
use Rattle.luf_resolved.proofs.laws.one_meaning.Goals as goal

pub returns : goal.returns
returns c = law.one_meaning

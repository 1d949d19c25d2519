-- The law is a lemma on the definitions.
use Rattle.luf_undump.proofs.FirstWrong as first
use Rattle.luf_undump.proofs.laws.refused_is_first.Goals as goal

pub returns : goal.returns
returns c = first.refused_is_first

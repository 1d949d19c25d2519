-- The law is a lemma on the definitions.
use Rattle.luf_undump.proofs.Sound as sound
use Rattle.luf_undump.proofs.laws.refused_within.Goals as goal

pub returns : goal.returns
returns c = sound.refused_within

-- The law is two lemmas on the definitions.
use Rattle.luf_undump.proofs.Complete as complete
use Rattle.luf_undump.proofs.Sound as sound
use Rattle.luf_undump.proofs.laws.read_is_chunk.Goals as goal

pub returns : goal.returns
returns c = λ bytes f. (sound.chunk_sound bytes f, complete.chunk_complete bytes f)

-- The law is a lemma on the definitions.
use Rattle.luf_undump.proofs.Complete as complete
use Rattle.luf_undump.proofs.Written as written
use Rattle.luf_undump.proofs.laws.written_is_read.Goals as goal

pub returns-clause-chunk : goal.returns-clause-chunk
returns-clause-chunk c = written.chunk_is

pub returns-clause-read : goal.returns-clause-read
returns-clause-read c = λ f fits readable. complete.chunk_complete _ f (written.chunk_is f fits readable)

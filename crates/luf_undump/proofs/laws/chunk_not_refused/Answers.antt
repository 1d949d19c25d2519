-- The law is a lemma on the definitions.
use Rattle.luf_undump.proofs.OneAnswer as answer
use Rattle.luf_undump.proofs.laws.chunk_not_refused.Goals as goal

pub returns : goal.returns
returns c = answer.chunk_not_refused

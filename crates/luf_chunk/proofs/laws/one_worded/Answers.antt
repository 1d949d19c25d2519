-- The law follows from that of floats.
use Rattle.luf_chunk.proofs.OneWorded.{one_function}
use Rattle.luf_chunk.proofs.laws.one_worded.Goals as goal

pub returns : goal.returns
returns c = one_function c.one_float_word.ensures

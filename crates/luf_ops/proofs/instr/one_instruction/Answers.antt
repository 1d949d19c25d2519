use Rattle.luf_ops.proofs.Words.{word_of-same}
use Rattle.luf_ops.proofs.instr.one_instruction.Goals as goal

pub returns : goal.returns
returns c = word_of-same

-- The law is a lemma on the definitions.
use Rattle.luf_num.proofs.OneWord.{one_word}
use Rattle.luf_num.proofs.float.one_float_word.Goals as goal

pub returns : goal.returns
returns c = one_word

-- A float that has no word.
use Rattle.luf_chunk.proofs.Words.{no_word_first}
use Rattle.luf_chunk.proofs.constant.append_float.Goals as goal

pub returns-in_ok-spelling-in-None-clause-cause : goal.returns-in_ok-spelling-in-None-clause-cause
returns-in_ok-spelling-in-None-clause-cause c = no_word_first c.args.spelling.now c.in_ok-spelling-in-None.spelling c.in_ok-spelling-in-None.ensures c.in-None.ensures.none

-- A float that is spelled is written as its word, another constant as it is.
use Rattle.luf_chunk.proofs.Words.{float_cause, float_written, plain_written}
use Rattle.luf_chunk.proofs.constant.append_constant.Goals as goal

pub returns-in-Some-clause-ok : goal.returns-in-Some-clause-ok
returns-in-Some-clause-ok c =
    float_written c.append_float.result c.args.constant.now c.in-Some.spelling.now c.args.into.now.items c.append_float.new.into.items c.in-Some.ensures c.append_float.ensures.ok

pub returns-in-Some-clause-cause : goal.returns-in-Some-clause-cause
returns-in-Some-clause-cause c =
    float_cause c.append_float.result c.args.constant.now c.in-Some.spelling.now c.in-Some.ensures c.append_float.ensures.cause

-- One constant more.
use Rattle.std.proofs.Common.{add-one}
use Rattle.std.specs.List.{flat_map}
use Rattle.luf_chunk.specs.Worded.{HasCause, constant_floats}
use Rattle.luf_proto.specs.Chunk.{constant_bytes}
use Rattle.luf_chunk.proofs.Kept.{kept_behind, on_err, passed}
use Rattle.luf_chunk.proofs.Words.{constants_cause, constants_more}
use Rattle.luf_chunk.proofs.constant.append_each.Goals as goal

pub returns-in_err-append_constant-clause-err : goal.returns-in_err-append_constant-clause-err
returns-in_err-append_constant-clause-err c =
    on_err c.from_residual.result _ (kept_behind c.args.into.now.items c.loop-constant.into.items c.append_constant.new.into.items
    (flat_map constant_bytes c.loop-constant.invariant.worded) c.loop-constant.invariant.appended c.in_err-append_constant.ensures.err)

pub returns-in_err-append_constant-clause-cause : goal.returns-in_err-append_constant-clause-cause
returns-in_err-append_constant-clause-cause c =
    passed c.from_residual.result c.in_err-append_constant.field-0.0 (λ e. HasCause e (constant_floats c.args.constants.now)) c.from_residual.ensures.1
    (constants_cause c.in_err-append_constant.field-0.0 c.args.constants.now c.loop-constant.constant-index c.constant-item.result c.args.into.now.items c.loop-constant.into.items
    c.loop-constant-test.true c.constant-item.is c.loop-constant.invariant c.in_err-append_constant.ensures.cause)

pub loop-constant-preserved : goal.loop-constant-preserved
loop-constant-preserved c =
    rw add-one (constants_more c.args.constants.now c.loop-constant.constant-index c.constant-item.result c.args.into.now.items c.loop-constant.into.items c.append_constant.new.into.items
    c.loop-constant-test.true c.constant-item.is c.loop-constant.invariant c.in_ok-append_constant.ensures.ok)

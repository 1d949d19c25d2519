-- One more.
use Rattle.std.proofs.lemmas.Result.{err_from_is_err_and}
use Rattle.luf_undump.specs.Reading.{many_at, upvalue_at}
use Rattle.luf_undump.proofs.Loop.{goes_on, ends, is_done}
use Rattle.luf_undump.proofs.upvalue.upvalues.Goals as goal

pub returns-in_err-upvalue : goal.returns-in_err-upvalue
returns-in_err-upvalue c =
    let p = err_from_is_err_and c.from_residual.result c.from_residual.ensures.1 in
    rw (p.1, p.2) (ends upvalue_at c.in_err-upvalue.field-0.0 c.loop.upvalues.items c.args.count c.loop.counter c.loop.rest.now (many_at upvalue_at c.args.count c.args.bytes.now)
    c.loop-test.true c.in_err-upvalue.ensures c.loop.invariant)

pub loop-preserved : goal.loop-preserved
loop-preserved c =
    rw c.in_ok-push.ensures.items (goes_on upvalue_at c.loop.upvalues.items c.args.count c.loop.counter c.loop.rest.now c.in_ok-upvalue.upvalue c.in_ok-upvalue.after.now
    (many_at upvalue_at c.args.count c.args.bytes.now) c.loop-test.true c.in_ok-upvalue.ensures c.loop.invariant)

pub returns : goal.returns
returns c = is_done upvalue_at c.loop.upvalues.items c.args.count c.loop.counter c.loop.rest.now (many_at upvalue_at c.args.count c.args.bytes.now) c.loop-test.false c.loop.invariant

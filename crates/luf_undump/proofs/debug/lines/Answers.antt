-- One more is skipped.
use Rattle.std.proofs.lemmas.Result.{err_from_is_err_and}
use Rattle.luf_undump.specs.Reading.{skip_at, line_at}
use Rattle.luf_undump.proofs.Loop.{skips_on, skip_ends, skip_done}
use Rattle.luf_undump.proofs.debug.lines.Goals as goal

pub returns-in_err-after : goal.returns-in_err-after
returns-in_err-after c =
    let p = err_from_is_err_and c.from_residual.result c.from_residual.ensures.1 in
    rw (p.1, p.2) (skip_ends line_at c.in_err-after.field-0.0 c.args.count c.loop.counter c.loop.rest.now (skip_at line_at c.args.count c.args.bytes.now)
    c.loop-test.true c.in_err-after.ensures c.loop.invariant)

pub loop-preserved : goal.loop-preserved
loop-preserved c =
    skips_on line_at c.args.count c.loop.counter c.loop.rest.now c.in_ok-after.after.now (skip_at line_at c.args.count c.args.bytes.now) c.loop-test.true c.in_ok-after.ensures c.loop.invariant

pub returns : goal.returns
returns c = skip_done line_at c.args.count c.loop.counter c.loop.rest.now (skip_at line_at c.args.count c.args.bytes.now) c.loop-test.false c.loop.invariant

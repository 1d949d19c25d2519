-- One byte more.
use Rattle.std.proofs.Common.{add-one}
use Rattle.std.proofs.lemmas.Result.{err_from_is_err_and}
use Rattle.luf_undump.specs.Reading.{fixed_at}
use Rattle.luf_undump.proofs.Fixed.{fixed_done, fixed_ends, fixed_more}
use Rattle.luf_undump.proofs.field.fixed.Goals as goal

pub returns-in_err-after : goal.returns-in_err-after
returns-in_err-after c =
    let p = err_from_is_err_and c.from_residual.result c.from_residual.ensures.1 in
    rw (p.1, p.2) (fixed_ends c.args.wanted.now c.loop-want.want-index c.loop-want.rest.now (fixed_at c.args.wanted.now c.args.bytes.now) c.loop-want-test.true c.loop-want.invariant
    c.in_err-after.field-0.0 c.in_err-after.ensures)

pub loop-want-preserved : goal.loop-want-preserved
loop-want-preserved c =
    rw add-one (fixed_more c.args.wanted.now c.loop-want.want-index c.loop-want.rest.now (fixed_at c.args.wanted.now c.args.bytes.now) c.loop-want-test.true c.loop-want.invariant
    c.in_ok-after.after.now c.in_ok-after.ensures)

pub returns : goal.returns
returns c = fixed_done c.args.wanted.now c.loop-want.want-index c.loop-want.rest.now (fixed_at c.args.wanted.now c.args.bytes.now) c.loop-want-test.false c.loop-want.invariant

-- A power up makes an exact number, a power down a quotient and what is left over.
use Rattle.std.proofs.Common.{arith, ◌-◌, ◌*◌, ◌^◌, ◌<◌}
use Rattle.std.proofs.lemmas.Nat.{mul-le}
use Rattle.luf_num.proofs.Reach.{decimal_about, power_some, power_small, quotient_about, quotient_low, top_bit}
use Rattle.luf_num.proofs.float.decimal_nearest.Goals as goal

pub overflow_sub-spare : goal.overflow_sub-spare
overflow_sub-spare c = let small = top_bit c.args.digits c.ilog2-spare.result c.ilog2-spare.ensures.power_le c.requires.small in omega arith

pub nearest-requires-clause-some : goal.nearest-requires-clause-some
nearest-requires-clause-some c =
    let some : 0 < c.pow.result = rw c.pow.ensures (power_some (c.args.up - c.args.down)) in
    mul-le 1 1 c.args.digits c.pow.result c.requires.some some

pub returns-then-up-down-2 : goal.returns-then-up-down-2
returns-then-up-down-2 c = (
  omega arith,
  omega arith,
  c.nearest.ensures (c.args.digits * 10 ^ c.args.up) (10 ^ c.args.down) (power_some c.args.down)
      (decimal_about c.args.digits c.args.up c.args.down c.pow.result c.if-up-down-2.true c.pow.ensures),
)

pub nonzero_div-shifted : goal.nonzero_div-shifted
nonzero_div-shifted c = rw c.pow-power.ensures (power_some (c.args.down - c.args.up))

pub nonzero_rem-shifted : goal.nonzero_rem-shifted
nonzero_rem-shifted c = rw c.pow-power.ensures (power_some (c.args.down - c.args.up))

pub nearest-requires-2-clause-some : goal.nearest-requires-2-clause-some
nearest-requires-2-clause-some c =
    let small = top_bit c.args.digits c.ilog2-spare.result c.ilog2-spare.ensures.power_le c.requires.small in
    let low = quotient_low c.args.digits c.ilog2-spare.result c.pow-power.result small c.ilog2-spare.ensures.power_le c.ilog2-spare.ensures.next_power_gt
    (rw c.pow-power.ensures (power_small (c.args.down - c.args.up) (omega arith))) (rw c.pow-power.ensures (power_some (c.args.down - c.args.up))) in
    omega arith

pub nearest-requires-2-clause-enough : goal.nearest-requires-2-clause-enough
nearest-requires-2-clause-enough c = λ left.
    quotient_low c.args.digits c.ilog2-spare.result c.pow-power.result (top_bit c.args.digits c.ilog2-spare.result c.ilog2-spare.ensures.power_le c.requires.small)
    c.ilog2-spare.ensures.power_le c.ilog2-spare.ensures.next_power_gt
    (rw c.pow-power.ensures (power_small (c.args.down - c.args.up) (omega arith))) (rw c.pow-power.ensures (power_some (c.args.down - c.args.up)))

pub returns : goal.returns
returns c = (
  omega arith,
  omega arith,
  c.nearest-2.ensures (c.args.digits * 10 ^ c.args.up) (10 ^ c.args.down) (power_some c.args.down)
      (quotient_about c.args.digits c.ilog2-spare.result c.args.up c.args.down c.pow-power.result
      (top_bit c.args.digits c.ilog2-spare.result c.ilog2-spare.ensures.power_le c.requires.small) c.ilog2-spare.ensures.next_power_gt (omega arith) c.pow-power.ensures),
)

-- The power of 2 under a half.
use Rattle.std.proofs.Common.{◌≤◌, ◌-◌, ◌^◌, arith}
use Rattle.std.proofs.Math.Nat.{pow-le-pow_right}
use Rattle.luf_num.proofs.Rounding.{half_is, short_mantissa, split_power}
use Rattle.luf_num.proofs.word.mantissa.Goals as goal

pub rounded-requires-clause-small : goal.rounded-requires-clause-small
rounded-requires-clause-small c =
    let top = c.args.top in
    let most : 2 ^ (top - 53) ≤ 2 ^ 74 = pow-le-pow_right {n = 2} (omega arith) {i = top - 53} {j = 74} (omega arith) in
    rw (half_is top (omega arith) (omega arith)) most

pub rounded-requires-clause-low : goal.rounded-requires-clause-low
rounded-requires-clause-low c =
    let power = split_power 53 c.args.top (omega arith) in
    rw (half_is c.args.top (omega arith) (omega arith)) (omega arith)

pub rounded-requires-clause-high : goal.rounded-requires-clause-high
rounded-requires-clause-high c =
    let power = split_power 53 c.args.top (omega arith) in
    rw (half_is c.args.top (omega arith) (omega arith)) (omega arith)

pub returns-then-top-le-FRACTION_BITS : goal.returns-then-top-le-FRACTION_BITS
returns-then-top-le-FRACTION_BITS c = short_mantissa c.args.significand c.args.top c.args.left_over (omega arith) c.requires.low c.requires.high

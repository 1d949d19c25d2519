-- The number is exact.
use Rattle.std.proofs.Common.{arith, ◌+◌, ◌-◌, ◌*◌, ◌^◌, sym, ap, ◌∙◌}
use Rattle.std.proofs.lemmas.Nat.{pow_pos}
use Rattle.luf_num.proofs.Reach.{binary_about}
use Rattle.luf_num.proofs.float.binary_nearest.Goals as goal

pub returns : goal.returns
returns c = (
  omega arith,
  omega arith,
  c.nearest.ensures (c.args.digits * 2 ^ c.args.up) (2 ^ c.args.down) (pow_pos c.args.down)
      (binary_about c.args.digits c.args.up c.args.down (omega arith)
      ∙ ap (λ k. c.args.digits * 2 ^ (c.args.up + k - c.args.down) * 2 ^ c.args.down) (sym c.from.ensures)),
)

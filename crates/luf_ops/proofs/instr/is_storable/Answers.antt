use Rattle.std.proofs.Common.{◌≡◌, true, IsTrue, ◌≤◌, ◌+ℤ◌, pos, negsuc, to_z, of_z, w64, ℤ, ℕ, arith}
use Rattle.std.proofs.lemmas.Int.{ints}
use lib.Signed.{lt_z, le_z}
use Rattle.luf_ops.specs.Instruction.{IsStorable}
use Rattle.luf_ops.proofs.instr.is_storable.Goals as goal

within : (z : ℤ) (excess limit : ℕ) (sum most : ℤ) → sum ≡ z +ℤ pos excess → most ≡ pos limit → le_z (pos 0) sum ≡ true → IsTrue (lt_z sum most) → IsStorable excess limit z
within (pos n) excess limit sum most is limit_is least below = grind (arith, ints)
within (negsuc n) excess limit sum most is limit_is least below = grind (arith, ints)

below : (z : ℤ) (excess limit : ℕ) (sum most : ℤ) → excess ≤ limit → sum ≡ z +ℤ pos excess → most ≡ pos limit → le_z (pos 0) sum ≡ true → IsStorable excess limit z → IsTrue (lt_z sum most)
below (pos n) excess limit sum most room is limit_is least fits = grind (arith, ints)
below (negsuc n) excess limit sum most room is limit_is least fits = grind (arith, ints)

pub returns-then-stored-ge0 : goal.returns-then-stored-ge0
returns-then-stored-ge0 c =
    let sum : to_z w64 (of_z w64 (to_z w64 (of_z w64 c.from.result) +ℤ to_z w64 (of_z w64 c.from-2.result))) ≡ c.args.number +ℤ pos c.args.excess = omega (arith, ints) in
    let most : to_z w64 (of_z w64 c.from-then-stored-ge0.result) ≡ pos c.args.limit = omega (arith, ints) in (
      within c.args.number c.args.excess c.args.limit _ _ sum most c.if-stored-ge0.true,
      below c.args.number c.args.excess c.args.limit _ _ c.requires sum most c.if-stored-ge0.true,
    )

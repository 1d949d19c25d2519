-- The groups of a size, one by one.
use Rattle.std.proofs.Common.{◌≡◌, ℕ, suc, ◌*◌, ◌/◌, ◌%◌, ◌^◌, ◌<◌, ◌==◌, false, true, List, [], ◌∷◌, ◌++◌, refl, arith}
use Rattle.std.proofs.lemmas.Bool.Decides.{nat_tests}
use Rattle.luf_proto.specs.Chunk.{groups}

some_is_not_zero : (n : ℕ) → 0 < n → (n == 0) ≡ false
some_is_not_zero n some = grind (arith, nat_tests)

-- one group more is written
pub groups_more : (k left n : ℕ) → left ≡ suc k → 0 < n / 2 ^ (7 * k) → groups left n ≡ n / 2 ^ (7 * k) % 128 ∷ groups k n
unfolding groups
groups_more k left n is some = let test = some_is_not_zero (n / 2 ^ (7 * k)) some in rw (is, test) refl

-- or none, since it would be a zero in front
pub groups_skip : (k left n : ℕ) → left ≡ suc k → n / 2 ^ (7 * k) ≡ 0 → groups left n ≡ groups k n
unfolding groups
groups_skip k left n is none = rw (is, none) refl

pub groups_end : (left n : ℕ) → left ≡ 0 → groups left n ≡ []
unfolding groups
groups_end left n is = rw is refl

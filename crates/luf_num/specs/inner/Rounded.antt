-- What rounding a part of a number to 53 bits gives. Cited by private functions alone.
use Rattle.std.specs.Prelude.{◌≡◌, ℕ, ◌+◌, ◌-◌, ◌*◌, ◌%◌, ◌^◌, ◌<◌, ◌≤◌, Bool, IsTrue, not, MatchBool}

-- The value lies at significand units, where nothing is left over, and else above that and below the next. The value and the unit are
-- taken `denominator` times.
abbrev pub IsAbout : (value denominator significand unit : ℕ) → Bool → Type 0
IsAbout value denominator significand unit left_over =
    MatchBool left_over
    ((significand * unit * denominator < value) × (value < (significand + 1) * unit * denominator))
    (value ≡ significand * unit * denominator)

-- the number of `2 * half` that is nearest to the significand, ties to the even one; where something is left over there is no tie
pub record IsRounded (significand half : ℕ) (left_over : Bool) (rounded : ℕ) : Type 0 where
  pub not_below : 2 * rounded * half ≤ significand + half
  pub not_above : significand ≤ 2 * rounded * half + half
  pub tie_below : IsTrue (not left_over) → 2 * rounded * half ≡ significand + half → rounded % 2 ≡ 0
  pub tie_above : significand ≡ 2 * rounded * half + half → IsTrue (not left_over) × (rounded % 2 ≡ 0)

-- the 53 bits that a number begins with, of which the highest is bit `top`; times a power of 2 they are the number, or nearest to it
abbrev pub IsMantissa : (significand top : ℕ) → Bool → ℕ → Type 0
IsMantissa significand top left_over mantissa =
    (2 ^ 52 ≤ mantissa) × (mantissa ≤ 2 ^ 53)
    × ((top ≤ 52 → mantissa ≡ significand * 2 ^ (52 - top)) × (53 ≤ top → IsRounded significand (2 ^ (top - 53)) left_over mantissa))

-- The word of a float: the 64 bits of the IEEE 754 number nearest to its value, ties to the even word, by inequalities of whole numbers.
-- A word has a sign bit, which is 0 here, 11 bits of exponent and 52 bits of fraction.
use Rattle.std.specs.Prelude.{◌≡◌, ℕ, ◌+◌, ◌-◌, ◌*◌, ◌/◌, ◌%◌, ◌^◌, ◌<◌, ◌≤◌, ◌⊎◌, List}
use Rattle.luf_num.specs.Float.{Scaled, IsFloat, IsInReach}

-- the value of a word times 2 ^ 1075, for an exponent from 1 to 2046
abbrev pub scaled_value : ℕ → ℕ
scaled_value word = (2 ^ 52 + word % 2 ^ 52) * 2 ^ (word / 2 ^ 52)

-- 1, scaled so
unfoldable pub scaled_one : ℕ
scaled_one = 2 ^ 1075

-- twice the middle between a word and the one before it, and between a word and the next
abbrev pub middle_below : ℕ → ℕ
middle_below word = scaled_value (word - 1) + scaled_value word

abbrev pub middle_above : ℕ → ℕ
middle_above word = scaled_value word + scaled_value (word + 1)

-- the word is nearest to numerator / denominator: not below the one middle nor above the other, and in a middle only where it is even
pub record IsNearest (numerator denominator word : ℕ) : Type 0 where
  pub normal : 2 ^ 52 ≤ word
  pub finite : word < 2047 * 2 ^ 52
  pub not_below : middle_below word * denominator ≤ 2 * (numerator * scaled_one)
  pub not_above : 2 * (numerator * scaled_one) ≤ middle_above word * denominator
  pub tie_below : middle_below word * denominator ≡ 2 * (numerator * scaled_one) → word % 2 ≡ 0
  pub tie_above : 2 * (numerator * scaled_one) ≡ middle_above word * denominator → word % 2 ≡ 0

-- the word of a value: 0 for 0
abbrev pub IsWord : Scaled → ℕ → Type 0
IsWord v word = ((v.digits ≡ 0) × (word ≡ 0)) ⊎ ((0 < v.digits) × IsNearest (v.digits * v.base ^ v.up) (v.base ^ v.down) word)

-- the spelling is a float in reach, and this is its word
pub record IsFloatWord (s : List ℕ) (word : ℕ) : Type 0 where
  pub value : Scaled
  pub float : IsFloat s value
  pub in_reach : IsInReach value
  pub word_is : IsWord value word

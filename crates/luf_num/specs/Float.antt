-- The value of a float numeral (Lua 5.4 manual, 3.1) as whole numbers, and the floats whose words are made (a rule of our own).
use Rattle.std.specs.Prelude.{◌≡◌, ℕ, ◌+◌, ◌*◌, ◌^◌, ◌<◌, ◌≤◌, Bool, false, ◌==◌, ◌⊎◌, List, [], ◌∷◌, ◌++◌, length, if◌then◌else◌}
use Rattle.luf_byte.specs.Class.{is_digit, is_hex_digit}
use Rattle.std.specs.Str.{byte}
use Rattle.std.specs.Str.Parse.{digits_value}
use Rattle.luf_num.specs.Numeral.{IsHexPrefix, IsLargeInteger, HasFloatForm, is_decimal_mark, is_binary_mark, is_sign}

-- the value `digits * base ^ up / base ^ down`
pub record Scaled : Type 0 where
  pub base : ℕ
  pub digits : ℕ
  pub up : ℕ
  pub down : ℕ

-- the digits of an exponent, behind its optional sign
abbrev pub behind_sign : List ℕ → List ℕ
behind_sign [] = []
behind_sign (b ∷ bytes) = if is_sign b then bytes else b ∷ bytes

-- a `-` comes first
abbrev pub is_negative : List ℕ → Bool
is_negative [] = false
is_negative (b ∷ bytes) = b == byte "-"

-- by how much an exponent, or none, scales up and by how much it scales down
abbrev pub raised : List ℕ → ℕ
raised [] = 0
raised (letter ∷ scale) = if is_negative scale then 0 else digits_value 10 (behind_sign scale)

abbrev pub lowered : List ℕ → ℕ
lowered [] = 0
lowered (letter ∷ scale) = if is_negative scale then digits_value 10 (behind_sign scale) else 0

-- a numeral with a point or an exponent and its value: all its digits without the point, scaled by the exponent,
-- and scaled down by so many places for each digit behind the point
pub record IsScaled (digit mark : ℕ → Bool) (radix base places : ℕ) (s : List ℕ) (v : Scaled) : Type 0 where
  pub form : HasFloatForm digit mark s
  pub behind_point : form.point ≡ [] → form.fraction ≡ []
  pub base_is : v.base ≡ base
  pub digits : v.digits ≡ digits_value radix (form.whole ++ form.fraction)
  pub up : v.up ≡ raised form.exponent
  pub down : v.down ≡ lowered form.exponent + places * length form.fraction

-- a decimal integer from 2 ^ 63 on, which is a float without an exponent
pub record IsScaledInteger (s : List ℕ) (v : Scaled) : Type 0 where
  pub large : IsLargeInteger s
  pub base_is : v.base ≡ 10
  pub digits : v.digits ≡ digits_value 10 s
  pub up : v.up ≡ 0
  pub down : v.down ≡ 0

-- a hexadecimal float: its exponent is one of 2, and each digit behind the point is worth four places
pub record IsHexScaled (s : List ℕ) (v : Scaled) : Type 0 where
  pub prefix : List ℕ
  pub rest : List ℕ
  pub spelled : s ≡ prefix ++ rest
  pub prefixed : IsHexPrefix prefix
  pub scaled : IsScaled is_hex_digit is_binary_mark 16 2 4 rest v

-- the spelling is a decimal float, and this is its value
abbrev pub IsDecimalScaled : List ℕ → Scaled → Type 0
IsDecimalScaled s v = IsScaledInteger s v ⊎ IsScaled is_digit is_decimal_mark 10 10 1 s v

-- the spelling is a float, and this is its value
abbrev pub IsFloat : List ℕ → Scaled → Type 0
IsFloat s v = IsDecimalScaled s v ⊎ IsHexScaled s v

-- the power of the base is at most `power`, up or down, and the digits are below `limit`
pub record IsWithin (limit power : ℕ) (v : Scaled) : Type 0 where
  pub digits : v.digits < limit
  pub up : v.up ≤ v.down + power
  pub down : v.down ≤ v.up + power

-- the floats in reach: 0, and by base those whose digits and power are small enough
abbrev pub IsInReach : Scaled → Type 0
IsInReach v = (v.digits ≡ 0) ⊎ ((v.base ≡ 10) × IsWithin (2 ^ 64) 19 v) ⊎ ((v.base ≡ 2) × IsWithin (2 ^ 53) 900 v)

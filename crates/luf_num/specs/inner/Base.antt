-- The two bases of numerals, as tests of bytes.
use Rattle.std.specs.Prelude.{ℕ, ◌^◌, Bool}
use Rattle.luf_byte.specs.Class.{is_digit, is_hex_digit}
use Rattle.luf_num.specs.Numeral.{is_decimal_mark, is_binary_mark}
use Rattle.luf_num.specs.declared.form.Base.{Base}
use Rattle.luf_num.specs.declared.form.Base.TheVariants.{Decimal, Hexadecimal}

-- the digits of the base
abbrev pub is_digit_in : Base → ℕ → Bool
is_digit_in Decimal = is_digit
is_digit_in Hexadecimal = is_hex_digit

-- the mark of an exponent in the base
abbrev pub is_mark_in : Base → ℕ → Bool
is_mark_in Decimal = is_decimal_mark
is_mark_in Hexadecimal = is_binary_mark

-- how many digits the base has
abbrev pub radix_of : Base → ℕ
radix_of Decimal = 10
radix_of Hexadecimal = 16

-- the base of its exponents, and how many places of that a digit behind the point is worth
abbrev pub exponent_base_of : Base → ℕ
exponent_base_of Decimal = 10
exponent_base_of Hexadecimal = 2

abbrev pub places_of : Base → ℕ
places_of Decimal = 1
places_of Hexadecimal = 4

-- the digits of a float in reach are below this
abbrev pub digits_limit_of : Base → ℕ
digits_limit_of Decimal = 2 ^ 64
digits_limit_of Hexadecimal = 2 ^ 53

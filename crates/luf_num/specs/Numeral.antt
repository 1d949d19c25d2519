-- Numerals, after the Lua 5.4 manual, 3.1, and the number that each stands for. One with a point or an exponent is a float.
-- Of the others, a hexadecimal one is an integer, which wraps, and a decimal one an integer where it fits, and else a float.
use Rattle.std.specs.Prelude.{◌≡◌, ℕ, ℤ, pos, ◌%◌, ◌^◌, ◌<◌, ◌≤◌, Bool, ◌||◌, ◌==◌, ◌⊎◌, List, [], ◌∷◌, ◌++◌, length, IsTrue, codes}
use Rattle.std.specs.Int.{cast_signed, w64}
use Rattle.std.specs.List.{list_all}
use Rattle.std.specs.Str.{byte}
use Rattle.std.specs.Str.Parse.{digits_value}
use Rattle.luf_byte.specs.Class.{is_digit, is_hex_digit}
use Rattle.luf_num.specs.declared.Number.{Number}
use Rattle.luf_num.specs.declared.Number.TheVariants.{Int, Float}

-- digits, and at least one
pub record IsDigits (digit : ℕ → Bool) (s : List ℕ) : Type 0 where
  pub digits : IsTrue (list_all digit s)
  pub some : 0 < length s

-- `0x` or `0X`
abbrev pub IsHexPrefix : List ℕ → Type 0
IsHexPrefix s = (s ≡ codes "0x") ⊎ (s ≡ codes "0X")

-- the marks of a decimal exponent, `e` and `E`, and of a binary one, `p` and `P`
abbrev pub is_decimal_mark : ℕ → Bool
is_decimal_mark b = b == byte "e" || b == byte "E"

abbrev pub is_binary_mark : ℕ → Bool
is_binary_mark b = b == byte "p" || b == byte "P"

-- `+` or `-`
abbrev pub is_sign : ℕ → Bool
is_sign b = b == byte "+" || b == byte "-"

-- nothing, `+` or `-`
abbrev pub IsOptionalSign : List ℕ → Type 0
IsOptionalSign s = (s ≡ []) ⊎ (s ≡ codes "+") ⊎ (s ≡ codes "-")

-- an exponent: its mark, an optional sign and decimal digits, in both bases
pub record IsExponent (mark : ℕ → Bool) (s : List ℕ) : Type 0 where
  pub letter : ℕ
  pub sign : List ℕ
  pub digits : List ℕ
  pub spelled : s ≡ letter ∷ (sign ++ digits)
  pub marked : IsTrue (mark letter)
  pub signed : IsOptionalSign sign
  pub decimal : IsDigits is_digit digits

-- a numeral with a point or an exponent: digits with at most one point, at least one digit, and an optional exponent
pub record HasFloatForm (digit mark : ℕ → Bool) (s : List ℕ) : Type 0 where
  pub whole : List ℕ
  pub point : List ℕ
  pub fraction : List ℕ
  pub exponent : List ℕ
  pub spelled : s ≡ whole ++ point ++ fraction ++ exponent
  pub pointed : (point ≡ []) ⊎ (point ≡ codes ".")
  pub digits : IsDigits digit (whole ++ fraction)
  pub scaled : (exponent ≡ []) ⊎ IsExponent mark exponent
  pub not_integer : 0 < length (point ++ exponent)

-- a decimal integer below 2 ^ 63, which is an integer of 64 bits
pub record IsDecimalInteger (s : List ℕ) (n : ℤ) : Type 0 where
  pub digits : IsDigits is_digit s
  pub small : digits_value 10 s < 2 ^ 63
  pub value : n ≡ pos (digits_value 10 s)

-- a decimal integer from 2 ^ 63 on, which is a float
pub record IsLargeInteger (s : List ℕ) : Type 0 where
  pub digits : IsDigits is_digit s
  pub large : 2 ^ 63 ≤ digits_value 10 s

-- what follows the prefix of a hexadecimal integer, which wraps modulo 2 ^ 64 and is read as a signed number of 64 bits
pub record IsHexInteger (s : List ℕ) (n : ℤ) : Type 0 where
  pub digits : IsDigits is_hex_digit s
  pub value : n ≡ cast_signed w64 (digits_value 16 s % 2 ^ 64)

-- a decimal numeral, and its number
abbrev pub IsDecimal : List ℕ → Number → Type 0
IsDecimal s (Int n) = IsDecimalInteger s n
IsDecimal s Float = IsLargeInteger s ⊎ HasFloatForm is_digit is_decimal_mark s

-- what follows the prefix of a hexadecimal numeral, and its number
abbrev pub IsHexRest : List ℕ → Number → Type 0
IsHexRest s (Int n) = IsHexInteger s n
IsHexRest s Float = HasFloatForm is_hex_digit is_binary_mark s

-- a hexadecimal numeral, and its number
pub record IsHexadecimal (s : List ℕ) (n : Number) : Type 0 where
  pub prefix : List ℕ
  pub rest : List ℕ
  pub spelled : s ≡ prefix ++ rest
  pub prefixed : IsHexPrefix prefix
  pub number : IsHexRest rest n

-- the spelling is a numeral, and the number is what it stands for
abbrev pub IsNumber : List ℕ → Number → Type 0
IsNumber s n = IsDecimal s n ⊎ IsHexadecimal s n

-- the spelling is a numeral
abbrev pub HasNumeralForm : List ℕ → Type 0
HasNumeralForm s = (n : Number) × IsNumber s n

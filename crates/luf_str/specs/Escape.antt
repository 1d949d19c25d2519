-- The escapes of short strings (Lua 5.4 manual, 3.1).
use Rattle.std.specs.Prelude.{◌≡◌, ◌≢◌, ℕ, ◌+◌, ◌*◌, ◌/◌, ◌%◌, ◌^◌, ◌<◌, ◌≤◌, ◌==◌, nat_lt, List, [], ◌∷◌, ◌++◌, length, codes, Option, Some, None, IsTrue, if◌then◌else◌}
use Rattle.std.specs.Char.{digit_value}
use Rattle.std.specs.List.{AllByRecursion}
use Rattle.std.specs.Str.{byte}
use Rattle.std.specs.Str.Parse.{digits_value}
use Rattle.luf_byte.specs.Class.{is_whitespace, is_digit, is_hex_digit}
use Rattle.luf_byte.specs.Front.{NoneAtFront}
use Rattle.luf_byte.specs.LineEnd.{IsLineEndBefore}

-- what the escapes of one letter or sign stand for: \a \b \f \n \r \t \v \\ \" \'
abbrev pub letter_value : ℕ → Option ℕ
letter_value c = if c == byte "a" then Some 7
    else (if c == byte "b" then Some 8
    else (if c == byte "f" then Some 12
    else (if c == byte "n" then Some (byte "\n")
    else (if c == byte "r" then Some (byte "\r")
    else (if c == byte "t" then Some (byte "\t")
    else (if c == byte "v" then Some 11
    else (if c == byte "\\" then Some (byte "\\")
    else (if c == byte "\"" then Some (byte "\"")
    else (if c == byte "'" then Some (byte "'")
    else None)))))))))

-- a byte of UTF-8 behind the first: six bits of the code, those from the unit on
abbrev pub continuation : ℕ → ℕ → ℕ
continuation code unit = 128 + code / unit % 64

-- UTF-8 of one to six bytes, for codes below 2 ^ 31
abbrev pub utf8 : ℕ → List ℕ
utf8 n = if nat_lt n 0x80 then n ∷ []
    else (if nat_lt n 0x800 then (0xC0 + n / 64) ∷ continuation n 1 ∷ []
    else (if nat_lt n 0x10000 then (0xE0 + n / 64 ^ 2) ∷ continuation n 64 ∷ continuation n 1 ∷ []
    else (if nat_lt n 0x200000 then (0xF0 + n / 64 ^ 3) ∷ continuation n (64 ^ 2) ∷ continuation n 64 ∷ continuation n 1 ∷ []
    else (if nat_lt n 0x4000000 then (0xF8 + n / 64 ^ 4) ∷ continuation n (64 ^ 3) ∷ continuation n (64 ^ 2) ∷ continuation n 64 ∷ continuation n 1 ∷ []
    else (0xFC + n / 64 ^ 5) ∷ continuation n (64 ^ 4) ∷ continuation n (64 ^ 3) ∷ continuation n (64 ^ 2) ∷ continuation n 64 ∷ continuation n 1 ∷ []))))

-- The bytes behind the backslash of an escape, where next follows, and the bytes that the escape stands for.
pub data IsEscape : List ℕ → List ℕ → List ℕ → Type 0 where
  letter : (c value : ℕ) (next : List ℕ) → letter_value c ≡ Some value → IsEscape (c ∷ []) next (value ∷ [])
  line_end : (line next : List ℕ) → IsLineEndBefore line next → IsEscape line next (codes "\n")
  -- \z and all the white space behind it
  skip : (spaces next : List ℕ) → AllByRecursion (λ b. IsTrue (is_whitespace b)) spaces → NoneAtFront is_whitespace next → IsEscape (byte "z" ∷ spaces) next []
  -- \x and two hexadecimal digits
  hexadecimal : (high low : ℕ) (next : List ℕ) → IsTrue (is_hex_digit high) → IsTrue (is_hex_digit low)
      → IsEscape (byte "x" ∷ high ∷ low ∷ []) next ((16 * digit_value high + digit_value low) ∷ [])
  -- one to three decimal digits, as many as there are
  decimal : (digits next : List ℕ) → 1 ≤ length digits → length digits ≤ 3 → AllByRecursion (λ b. IsTrue (is_digit b)) digits
      → (length digits < 3 → NoneAtFront is_digit next) → digits_value 10 digits ≤ 255
      → IsEscape digits next (digits_value 10 digits ∷ [])
  -- \u{ and hexadecimal digits and }
  code : (digits next : List ℕ) → 1 ≤ length digits → AllByRecursion (λ b. IsTrue (is_hex_digit b)) digits → digits_value 16 digits < 2 ^ 31
      → IsEscape (codes "u{" ++ digits ++ codes "}") next (utf8 (digits_value 16 digits))

-- the text, which follows a backslash, begins with no escape
abbrev pub NoEscape : List ℕ → Type 0
NoEscape text = (escape next value : List ℕ) → text ≡ escape ++ next → ¬ IsEscape escape next value

-- the text, which follows a backslash, makes it a bad escape: it begins with no escape, and it is not empty, for a
-- backslash at a text's end begins nothing yet
abbrev pub IsBadEscape : List ℕ → Type 0
IsBadEscape text = (text ≢ []) × NoEscape text

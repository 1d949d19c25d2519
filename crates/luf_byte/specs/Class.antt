-- Classes of bytes (Lua 5.4 manual, 3.1). `byte "0"` is the byte of a character. What a digit is worth, and the number
-- that digits write in a base, are std's `digit_value` and `digits_value`.
use Rattle.std.specs.Prelude.{ℕ, Bool, not, ◌||◌, ◌==◌}
use Rattle.std.specs.Int.{is_in_range}
use Rattle.std.specs.Str.{byte}

-- a decimal digit
abbrev pub is_digit : ℕ → Bool
is_digit b = is_in_range (byte "0") (byte "9") b

-- a hexadecimal digit
abbrev pub is_hex_digit : ℕ → Bool
is_hex_digit b = is_digit b || is_in_range (byte "A") (byte "F") b || is_in_range (byte "a") (byte "f") b

-- a letter or `_`, with which a name begins
abbrev pub is_letter : ℕ → Bool
is_letter b = is_in_range (byte "a") (byte "z") b || (is_in_range (byte "A") (byte "Z") b || b == byte "_")

-- what a name goes on with
abbrev pub is_word_byte : ℕ → Bool
is_word_byte b = is_letter b || is_digit b

-- space, TAB, VT or FF
abbrev pub is_blank : ℕ → Bool
is_blank b = b == byte " " || (b == byte "\t" || (b == byte "\u{b}" || b == byte "\u{c}"))

-- LF or CR, of which line ends are made
abbrev pub is_line_byte : ℕ → Bool
is_line_byte b = b == byte "\n" || b == byte "\r"

-- a byte of no line end
abbrev pub in_line : ℕ → Bool
in_line b = not (is_line_byte b)

-- what stands between tokens: a blank or a byte of a line end
abbrev pub is_whitespace : ℕ → Bool
is_whitespace b = is_blank b || is_line_byte b

-- What the front of a text is, as functions.
use Rattle.std.specs.Prelude.{ℕ, ◌+◌, ◌*◌, ◌^◌, Bool, ◌&&◌, ◌==◌, nat_lt, nat_le, List, take, drop, slice_index, Option, Some, None, option_map, if◌then◌else◌}
use Rattle.std.specs.Char.{digit_value}
use Rattle.std.specs.List.{prefix_len}
use Rattle.std.specs.Str.{byte}
use Rattle.std.specs.Str.Parse.{digits_value}
use Rattle.luf_byte.specs.Class.{is_line_byte, is_whitespace, is_digit, is_hex_digit}
use Rattle.luf_byte.specs.LineEnd.{line_end_length}
use Rattle.luf_str.specs.declared.escapes.Meaning.{Meaning}
use Rattle.luf_str.specs.declared.escapes.Meaning.TheVariants.{Byte, Code, Nothing}
use Rattle.luf_str.specs.Bytes.{is_plain}
use Rattle.luf_str.specs.Escape.{letter_value}

-- a byte that stands for itself in a short string in either quotes
abbrev pub is_ordinary : ℕ → Bool
is_ordinary b = is_plain (byte "\"") b && is_plain (byte "'") b

-- how many bytes the unit of a short string at the front has
abbrev pub unit_length : List ℕ → ℕ
unit_length text = if slice_index text 0 == byte "\\"
    then (if slice_index text 1 == byte "z" then 2 + prefix_len is_whitespace (drop 2 text)
    else (if is_line_byte (slice_index text 1) then 1 + line_end_length (drop 1 text) else 2))
    else 1

-- each of these: how many bytes the escape behind a backslash has, and its meaning
unfoldable pub hexadecimal_at : List ℕ → Option (ℕ × Meaning)
hexadecimal_at text = let high = slice_index text 1 in let low = slice_index text 2 in
    if is_hex_digit high && is_hex_digit low then Some (3, Byte (16 * digit_value high + digit_value low)) else None

unfoldable pub decimal_at : List ℕ → Option (ℕ × Meaning)
decimal_at text = let first = digit_value (slice_index text 0) in let second = digit_value (slice_index text 1) in let third = digit_value (slice_index text 2) in
    if is_digit (slice_index text 1)
    then (if is_digit (slice_index text 2)
    then (if nat_le (100 * first + 10 * second + third) 255 then Some (3, Byte (100 * first + 10 * second + third)) else None)
    else Some (2, Byte (10 * first + second)))
    else Some (1, Byte first)

unfoldable pub code_at : List ℕ → Option (ℕ × Meaning)
code_at text = let count = prefix_len is_hex_digit (drop 2 text) in let number = digits_value 16 (take count (drop 2 text)) in
    if slice_index text 1 == byte "{" && (nat_lt 0 count && (nat_lt number (2 ^ 31) && (slice_index (drop 2 text) count == byte "}")))
    then Some (3 + count, Code number) else None

unfoldable pub letter_at : List ℕ → Option (ℕ × Meaning)
letter_at text = option_map (λ b. (1, Byte b)) (letter_value (slice_index text 0))

abbrev pub escape_at : List ℕ → Option (ℕ × Meaning)
escape_at text = let c = slice_index text 0 in
    if c == byte "x" then hexadecimal_at text
    else (if c == byte "z" then Some (1 + prefix_len is_whitespace (drop 1 text), Nothing)
    else (if c == byte "u" then code_at text
    else (if is_digit c then decimal_at text
    else (if is_line_byte c then Some (line_end_length text, Byte (byte "\n"))
    else letter_at text))))

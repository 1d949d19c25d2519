-- The kinds of bytes that short strings tell apart (Lua 5.4 manual, 3.1).
use Rattle.std.specs.Prelude.{ℕ, Bool, not, ◌||◌, ◌==◌}
use Rattle.std.specs.Str.{byte}
use Rattle.luf_byte.specs.Class.{is_line_byte}

abbrev pub is_quote : ℕ → Bool
is_quote b = b == byte "\"" || b == byte "'"

-- a byte that stands for itself in a short string in the quotes q: not the quote, not a backslash, in no line end
abbrev pub is_plain : ℕ → ℕ → Bool
is_plain q b = not (b == q || b == byte "\\" || is_line_byte b)

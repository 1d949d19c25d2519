-- How signs are spelled (Lua 5.4 manual, 3.1).
use Rattle.std.specs.Prelude.{◌≡◌, ℕ, List, length, take, codes}
use Rattle.luf_lex.specs.declared.token.Sign.{Sign}
use Rattle.luf_lex.specs.declared.token.Sign.TheVariants.{Plus, Minus, Star, Slash, Percent, Caret, Hash, Amp, Tilde, Bar, ShiftLeft, ShiftRight, SlashSlash, Equal, NotEqual, LessEqual, GreaterEqual, Less, Greater, Assign, LeftParen, RightParen, LeftBrace, RightBrace, LeftBracket, RightBracket, DoubleColon, Semicolon, Colon, Comma, Dot, DotDot, Dots}

abbrev pub sign_spelling : Sign → List ℕ
sign_spelling Plus = codes "+"
sign_spelling Minus = codes "-"
sign_spelling Star = codes "*"
sign_spelling Slash = codes "/"
sign_spelling Percent = codes "%"
sign_spelling Caret = codes "^"
sign_spelling Hash = codes "#"
sign_spelling Amp = codes "&"
sign_spelling Tilde = codes "~"
sign_spelling Bar = codes "|"
sign_spelling ShiftLeft = codes "<<"
sign_spelling ShiftRight = codes ">>"
sign_spelling SlashSlash = codes "//"
sign_spelling Equal = codes "=="
sign_spelling NotEqual = codes "~="
sign_spelling LessEqual = codes "<="
sign_spelling GreaterEqual = codes ">="
sign_spelling Less = codes "<"
sign_spelling Greater = codes ">"
sign_spelling Assign = codes "="
sign_spelling LeftParen = codes "("
sign_spelling RightParen = codes ")"
sign_spelling LeftBrace = codes "{"
sign_spelling RightBrace = codes "}"
sign_spelling LeftBracket = codes "["
sign_spelling RightBracket = codes "]"
sign_spelling DoubleColon = codes "::"
sign_spelling Semicolon = codes ";"
sign_spelling Colon = codes ":"
sign_spelling Comma = codes ","
sign_spelling Dot = codes "."
sign_spelling DotDot = codes ".."
sign_spelling Dots = codes "..."

-- the text begins with these bytes
abbrev pub StartsWith : List ℕ → List ℕ → Type 0
StartsWith text front = take (length front) text ≡ front

-- Operators (Lua 5.4 manual, 3.4.8).
use Rattle.std.specs.Prelude.{ℕ, Bool, true, false}
use Rattle.luf_lex.specs.declared.token.Tok.{Tok}
use Rattle.luf_lex.specs.declared.token.Tok.TheVariants as tok
use Rattle.luf_lex.specs.declared.token.Word.{Word}
use Rattle.luf_lex.specs.declared.token.Word.TheVariants as word
use Rattle.luf_lex.specs.declared.token.Sign.{Sign}
use Rattle.luf_lex.specs.declared.token.Sign.TheVariants as sign

abbrev pub word_precedence : Word → ℕ
word_precedence word.Or = 1
word_precedence word.And = 2
word_precedence _ = 0

abbrev pub sign_precedence : Sign → ℕ
sign_precedence sign.Less = 3
sign_precedence sign.Greater = 3
sign_precedence sign.LessEqual = 3
sign_precedence sign.GreaterEqual = 3
sign_precedence sign.NotEqual = 3
sign_precedence sign.Equal = 3
sign_precedence sign.Bar = 4
sign_precedence sign.Tilde = 5
sign_precedence sign.Amp = 6
sign_precedence sign.ShiftLeft = 7
sign_precedence sign.ShiftRight = 7
sign_precedence sign.DotDot = 8
sign_precedence sign.Plus = 9
sign_precedence sign.Minus = 9
sign_precedence sign.Star = 10
sign_precedence sign.Slash = 10
sign_precedence sign.SlashSlash = 10
sign_precedence sign.Percent = 10
sign_precedence _ = 0

-- the precedence of a binary operator other than `^`, from low to high; 0 is no such operator
abbrev pub binary_precedence : Tok → ℕ
binary_precedence (tok.Word w) = word_precedence w
binary_precedence (tok.Sign s) = sign_precedence s
binary_precedence _ = 0

abbrev pub is_unary_word : Word → Bool
is_unary_word word.Not = true
is_unary_word _ = false

abbrev pub is_unary_sign : Sign → Bool
is_unary_sign sign.Hash = true
is_unary_sign sign.Minus = true
is_unary_sign sign.Tilde = true
is_unary_sign _ = false

-- `not`, `#`, `-` and `~`
abbrev pub is_unary : Tok → Bool
is_unary (tok.Word w) = is_unary_word w
is_unary (tok.Sign s) = is_unary_sign s
is_unary _ = false

-- The tokens that may begin a part of the grammar (its first sets).
use Rattle.std.specs.Prelude.{Bool, true, false, Option, Some, None}
use Rattle.luf_lex.specs.declared.token.Tok.{Tok}
use Rattle.luf_lex.specs.declared.token.Tok.TheVariants as tok
use Rattle.luf_lex.specs.declared.token.Word.{Word}
use Rattle.luf_lex.specs.declared.token.Word.TheVariants as word
use Rattle.luf_lex.specs.declared.token.Sign.{Sign}
use Rattle.luf_lex.specs.declared.token.Sign.TheVariants as sign

abbrev pub word_starts_stat : Word → Bool
word_starts_stat word.Break = true
word_starts_stat word.Do = true
word_starts_stat word.For = true
word_starts_stat word.Function = true
word_starts_stat word.Goto = true
word_starts_stat word.If = true
word_starts_stat word.Local = true
word_starts_stat word.Repeat = true
word_starts_stat word.While = true
word_starts_stat _ = false

abbrev pub sign_starts_stat : Sign → Bool
sign_starts_stat sign.Semicolon = true
sign_starts_stat sign.DoubleColon = true
sign_starts_stat sign.LeftParen = true
sign_starts_stat _ = false

abbrev pub token_starts_stat : Tok → Bool
token_starts_stat tok.Name = true
token_starts_stat (tok.Word w) = word_starts_stat w
token_starts_stat (tok.Sign s) = sign_starts_stat s
token_starts_stat _ = false

-- A statement other than `return` begins with `;`, `::`, `(`, a name, or one of `break` `do` `for` `function` `goto` `if` `local`
-- `repeat` `while`. The end of the tokens begins none.
abbrev pub starts_stat : Option Tok → Bool
starts_stat None = false
starts_stat (Some t) = token_starts_stat t

abbrev pub word_starts_expr : Word → Bool
word_starts_expr word.False = true
word_starts_expr word.Function = true
word_starts_expr word.Nil = true
word_starts_expr word.Not = true
word_starts_expr word.True = true
word_starts_expr _ = false

abbrev pub sign_starts_expr : Sign → Bool
sign_starts_expr sign.Minus = true
sign_starts_expr sign.Hash = true
sign_starts_expr sign.Tilde = true
sign_starts_expr sign.Dots = true
sign_starts_expr sign.LeftParen = true
sign_starts_expr sign.LeftBrace = true
sign_starts_expr _ = false

abbrev pub token_starts_expr : Tok → Bool
token_starts_expr tok.Name = true
token_starts_expr tok.Number = true
token_starts_expr tok.Short = true
token_starts_expr tok.Long = true
token_starts_expr (tok.Word w) = word_starts_expr w
token_starts_expr (tok.Sign s) = sign_starts_expr s

-- An expression begins with a unary operator, a name, a numeral, a string, `nil`, `true`, `false`, `...`,
-- `function`, `(` or `{`.
abbrev pub starts_expr : Option Tok → Bool
starts_expr None = false
starts_expr (Some t) = token_starts_expr t

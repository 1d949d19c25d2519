-- What may stand behind a part, so that no part goes on there.
use Rattle.std.specs.Prelude.{◌≡◌, ℕ, ◌<◌, ◌⊎◌, Bool, true, false, ◌||◌, Option, Some, None, List, slice_get}
use Rattle.luf_lex.specs.declared.token.Tok.{Tok}
use Rattle.luf_lex.specs.declared.token.Tok.TheVariants as tok
use Rattle.luf_lex.specs.declared.token.Word.{Word}
use Rattle.luf_lex.specs.declared.token.Word.TheVariants as word
use Rattle.luf_lex.specs.declared.token.Sign.{Sign}
use Rattle.luf_lex.specs.declared.token.Sign.TheVariants as sign
use Rattle.luf_tree.specs.Grammar.{At, IsToken, IsString}
use Rattle.luf_tree.specs.Operator.{binary_precedence}
use Rattle.luf_tree.specs.First.{starts_stat}

-- another token stands there, or the end
abbrev pub NotAt : List Tok → ℕ → Tok → Type 0
NotAt toks i t = At toks i t → ⊥

abbrev pub sign_continues : Sign → Bool
sign_continues sign.Dot = true
sign_continues sign.LeftBracket = true
sign_continues sign.Colon = true
sign_continues sign.LeftBrace = true
sign_continues _ = false

-- a suffix other than arguments in parentheses begins with this token
abbrev pub continues_prefix : Option Tok → Bool
continues_prefix (Some tok.Short) = true
continues_prefix (Some tok.Long) = true
continues_prefix (Some (tok.Sign s)) = sign_continues s
continues_prefix _ = false

abbrev pub precedence_of : Option Tok → ℕ
precedence_of None = 0
precedence_of (Some t) = binary_precedence t

-- the precedence of the binary operator at a place; 0 where none stands
abbrev pub precedence_at : List Tok → ℕ → ℕ
precedence_at toks i = precedence_of (slice_get toks i)

-- no operand goes on there
pub record EndsOperand (toks : List Tok) (i : ℕ) : Type 0 where
  pub suffix : continues_prefix (slice_get toks i) ≡ false
  pub power : NotAt toks i (tok.Sign sign.Caret)

-- no expression of a precedence goes on there
pub record EndsExpr (toks : List Tok) (least i : ℕ) : Type 0 where
  pub precedence : precedence_at toks i < least
  pub operand : EndsOperand toks i

-- no list of expressions goes on there
pub record EndsExprs (toks : List Tok) (i : ℕ) : Type 0 where
  pub expr : EndsExpr toks 1 i
  pub comma : NotAt toks i (tok.Sign sign.Comma)

abbrev pub word_ends_block : Word → Bool
word_ends_block word.End = true
word_ends_block word.Else = true
word_ends_block word.ElseIf = true
word_ends_block word.Until = true
word_ends_block _ = false

-- a block ends before this token
abbrev pub ends_block : Option Tok → Bool
ends_block None = true
ends_block (Some (tok.Word w)) = word_ends_block w
ends_block _ = false

abbrev pub EndsBlock : List Tok → ℕ → Type 0
EndsBlock toks i = ends_block (slice_get toks i) ≡ true

-- no statement but a `return` may stand there: the end of a block, or a `return`
abbrev pub word_stops_stats : Word → Bool
word_stops_stats word.Return = true
word_stops_stats w = word_ends_block w

abbrev pub stops_stats : Option Tok → Bool
stops_stats None = true
stops_stats (Some (tok.Word w)) = word_stops_stats w
stops_stats _ = false

abbrev pub sign_ends_return : Sign → Bool
sign_ends_return sign.Semicolon = true
sign_ends_return _ = false

-- a `return` before this token has no values
abbrev pub ends_return : Option Tok → Bool
ends_return None = true
ends_return (Some (tok.Word w)) = word_stops_stats w
ends_return (Some (tok.Sign s)) = sign_ends_return s
ends_return _ = false

-- the end of a block, a `return`, or what begins a statement
abbrev pub follows_stat : Option Tok → Bool
follows_stat t = stops_stats t || starts_stat t

abbrev pub EndsStat : List Tok → ℕ → Type 0
EndsStat toks i = follows_stat (slice_get toks i) ≡ true

-- what stands behind the arms of an `if`
abbrev pub word_ends_arms : Word → Bool
word_ends_arms word.Else = true
word_ends_arms word.End = true
word_ends_arms _ = false

abbrev pub ends_arms : Option Tok → Bool
ends_arms (Some (tok.Word w)) = word_ends_arms w
ends_arms _ = false

abbrev pub EndsArms : List Tok → ℕ → Type 0
EndsArms toks i = ends_arms (slice_get toks i) ≡ true

abbrev pub sign_ends_field : Sign → Bool
sign_ends_field sign.Comma = true
sign_ends_field sign.Semicolon = true
sign_ends_field sign.RightBrace = true
sign_ends_field _ = false

-- what stands behind a field of a table
abbrev pub ends_field : Option Tok → Bool
ends_field (Some (tok.Sign s)) = sign_ends_field s
ends_field _ = false

abbrev pub EndsField : List Tok → ℕ → Type 0
EndsField toks i = ends_field (slice_get toks i) ≡ true

-- a name and a `=` stand there, and behind them a place
pub record IsAssigned (toks : List Tok) (i from : ℕ) : Type 0 where
  pub after : ℕ
  pub name : IsToken toks i tok.Name after
  pub sign : IsToken toks after (tok.Sign sign.Assign) from

-- a name and a `=` do not stand there
abbrev pub NotAssigned : List Tok → ℕ → Type 0
NotAssigned toks i = (from : ℕ) → IsAssigned toks i from → ⊥

-- no string stands there
abbrev pub NotString : List Tok → ℕ → Type 0
NotString toks i = (to : ℕ) → IsString toks i to → ⊥

-- a `,` or a `;` stands there
abbrev pub IsSeparator : List Tok → ℕ → ℕ → Type 0
IsSeparator toks i next = IsToken toks i (tok.Sign sign.Comma) next ⊎ IsToken toks i (tok.Sign sign.Semicolon) next

abbrev pub sign_begins_prefix : Sign → Bool
sign_begins_prefix sign.LeftParen = true
sign_begins_prefix _ = false

-- a prefix expression begins with this token
abbrev pub begins_prefix : Option Tok → Bool
begins_prefix (Some tok.Name) = true
begins_prefix (Some (tok.Sign s)) = sign_begins_prefix s
begins_prefix _ = false

-- What may stand behind a part does not go on with what stands before it.
use Rattle.std.proofs.Common.{◌≡◌, ℕ, ◌<◌, Bool, true, false, Option, Some, None, List, refl, ap, ◌∙◌, arith}
use Rattle.std.specs.Prelude.{slice_get}
use Rattle.luf_lex.specs.declared.token.Tok.{Tok}
use Rattle.luf_lex.specs.declared.token.Tok.TheVariants as tok
use Rattle.luf_lex.specs.declared.token.Word.{Word}
use Rattle.luf_lex.specs.declared.token.Word.TheVariants as word
use Rattle.luf_lex.specs.declared.token.Sign.{Sign}
use Rattle.luf_lex.specs.declared.token.Sign.TheVariants as sign
use Rattle.luf_tree.specs.Operator.{sign_precedence}
use Rattle.luf_tree.specs.Grammar.{At}
use Rattle.luf_descent.specs.Follow.{NotAt, sign_continues, continues_prefix, EndsOperand, EndsExpr, EndsExprs, word_ends_block, ends_block, EndsBlock, follows_stat, EndsStat, word_ends_arms, ends_arms, EndsArms, sign_ends_field, ends_field, EndsField, word_stops_stats, stops_stats, precedence_of, precedence_at}
use Rattle.luf_descent.specs.Reads.{sign_begins_suffix, token_begins_suffix, begins_suffix}

-- another token stands there, for a test tells them apart
pub not_at : (toks : List Tok) (i : ℕ) (test : Option Tok → Bool) {u : Tok} → test (slice_get toks i) ≡ true → test (Some u) ≡ false → NotAt toks i u
not_at toks i test yes_there no_here there = let here = ap test there in absurd cc

pub not_at_other : (toks : List Tok) (i : ℕ) (test : Option Tok → Bool) {u : Tok} → test (slice_get toks i) ≡ false → test (Some u) ≡ true → NotAt toks i u
not_at_other toks i test no_there yes_here there = let here = ap test there in absurd cc

-- a `^`
abbrev pub is_power : Option Tok → Bool
is_power (Some (tok.Sign sign.Caret)) = true
is_power _ = false

-- A token that no expression goes on with: no binary operator, no `^`, and no suffix but arguments in parentheses.
pub record Closes (t : Option Tok) : Type 0 where
  pub precedence : precedence_of t ≡ 0
  pub suffix : continues_prefix t ≡ false
  pub power : is_power t ≡ false

pub closes_expr : {toks : List Tok} {i : ℕ} (least : ℕ) → 0 < least → Closes (slice_get toks i) → EndsExpr toks least i
closes_expr {toks} {i} least low c = let precedence = c.precedence in
    record { precedence = omega arith; operand = record { suffix = c.suffix; power = not_at_other toks i is_power c.power refl } }

-- this token stands there
pub token_closes : {toks : List Tok} {i : ℕ} {t : Tok} → At toks i t → precedence_of (Some t) ≡ 0 → continues_prefix (Some t) ≡ false → is_power (Some t) ≡ false → EndsExpr toks 1 i
token_closes {toks} {i} {t} there a b c = closes_expr 1 (omega arith) (record { precedence = ap precedence_of there ∙ a; suffix = ap continues_prefix there ∙ b; power = ap is_power there ∙ c })

word_follows_closes : (w : Word) → follows_stat (Some (tok.Word w)) ≡ true → Closes (Some (tok.Word w))
word_follows_closes word.And h = absurd cc
word_follows_closes word.Or h = absurd cc
word_follows_closes _ h = record { precedence = refl; suffix = refl; power = refl }

sign_follows_closes : (s : Sign) → follows_stat (Some (tok.Sign s)) ≡ true → Closes (Some (tok.Sign s))
sign_follows_closes sign.Semicolon h = record { precedence = refl; suffix = refl; power = refl }
sign_follows_closes sign.DoubleColon h = record { precedence = refl; suffix = refl; power = refl }
sign_follows_closes sign.LeftParen h = record { precedence = refl; suffix = refl; power = refl }
sign_follows_closes _ h = absurd cc

follows_closes : (t : Option Tok) → follows_stat t ≡ true → Closes t
follows_closes None h = record { precedence = refl; suffix = refl; power = refl }
follows_closes (Some tok.Name) h = record { precedence = refl; suffix = refl; power = refl }
follows_closes (Some (tok.Word w)) h = word_follows_closes w h
follows_closes (Some (tok.Sign s)) h = sign_follows_closes s h
follows_closes _ h = absurd cc

-- no expression goes on where a statement may end
pub stat_ends_expr : {toks : List Tok} {i : ℕ} → EndsStat toks i → EndsExpr toks 1 i
stat_ends_expr {toks} {i} h = closes_expr 1 (omega arith) (follows_closes (slice_get toks i) h)

pub stat_ends_exprs : {toks : List Tok} {i : ℕ} → EndsStat toks i → EndsExprs toks i
stat_ends_exprs {toks} {i} h = record { expr = stat_ends_expr h; comma = not_at toks i follows_stat h refl }

word_block_follows : (w : Word) → word_ends_block w ≡ true → follows_stat (Some (tok.Word w)) ≡ true
word_block_follows word.End h = refl
word_block_follows word.Else h = refl
word_block_follows word.ElseIf h = refl
word_block_follows word.Until h = refl
word_block_follows _ h = absurd cc

block_follows : (t : Option Tok) → ends_block t ≡ true → follows_stat t ≡ true
block_follows None h = refl
block_follows (Some (tok.Word w)) h = word_block_follows w h
block_follows _ h = absurd cc

-- a statement may end where a block ends
pub block_ends_stat : (toks : List Tok) (i : ℕ) → EndsBlock toks i → EndsStat toks i
block_ends_stat toks i h = block_follows (slice_get toks i) h

word_arms_block : (w : Word) → word_ends_arms w ≡ true → word_ends_block w ≡ true
word_arms_block word.Else h = refl
word_arms_block word.End h = refl
word_arms_block _ h = absurd cc

arms_block : (t : Option Tok) → ends_arms t ≡ true → ends_block t ≡ true
arms_block (Some (tok.Word w)) h = word_arms_block w h
arms_block _ h = absurd cc

-- a block ends where the arms of an `if` end
pub arms_end_block : (toks : List Tok) (i : ℕ) → EndsArms toks i → EndsBlock toks i
arms_end_block toks i h = arms_block (slice_get toks i) h

sign_field_closes : (s : Sign) → sign_ends_field s ≡ true → Closes (Some (tok.Sign s))
sign_field_closes sign.Comma h = record { precedence = refl; suffix = refl; power = refl }
sign_field_closes sign.Semicolon h = record { precedence = refl; suffix = refl; power = refl }
sign_field_closes sign.RightBrace h = record { precedence = refl; suffix = refl; power = refl }
sign_field_closes _ h = absurd cc

field_closes : (t : Option Tok) → ends_field t ≡ true → Closes t
field_closes (Some (tok.Sign s)) h = sign_field_closes s h
field_closes _ h = absurd cc

-- no expression goes on where a field ends
pub field_ends_expr : {toks : List Tok} {i : ℕ} → EndsField toks i → EndsExpr toks 1 i
field_ends_expr {toks} {i} h = closes_expr 1 (omega arith) (field_closes (slice_get toks i) h)

-- no statement begins where a block ends, but it may be that a `return` does where none begins
word_block_stops : (w : Word) → word_ends_block w ≡ true → word_stops_stats w ≡ true
word_block_stops word.Return h = refl
word_block_stops _ h = h

block_stops : (t : Option Tok) → ends_block t ≡ true → stops_stats t ≡ true
block_stops None h = refl
block_stops (Some (tok.Word w)) h = word_block_stops w h
block_stops _ h = absurd cc

pub block_ends_stats : (toks : List Tok) (i : ℕ) → EndsBlock toks i → stops_stats (slice_get toks i) ≡ true
block_ends_stats toks i h = block_stops (slice_get toks i) h

-- a binary operator goes on with no operand
sign_binary_operand : (s : Sign) → 0 < sign_precedence s → sign_continues s ≡ false
sign_binary_operand sign.Dot h = absurd (omega arith)
sign_binary_operand sign.LeftBracket h = absurd (omega arith)
sign_binary_operand sign.Colon h = absurd (omega arith)
sign_binary_operand sign.LeftBrace h = absurd (omega arith)
sign_binary_operand _ h = refl

binary_suffix : (t : Option Tok) → 0 < precedence_of t → continues_prefix t ≡ false
binary_suffix (Some tok.Short) h = absurd (omega arith)
binary_suffix (Some tok.Long) h = absurd (omega arith)
binary_suffix (Some (tok.Sign s)) h = sign_binary_operand s h
binary_suffix _ h = refl

pub binary_ends_operand : {toks : List Tok} {i : ℕ} → 0 < precedence_at toks i → EndsOperand toks i
binary_ends_operand {toks} {i} h =
    record { suffix = binary_suffix (slice_get toks i) h; power = λ there. let none = ap precedence_of there in absurd (omega arith) }

sign_suffix_other : (s : Sign) → sign_continues s ≡ false → (s ≡ sign.LeftParen → ⊥) → sign_begins_suffix s ≡ false
sign_suffix_other sign.LeftParen h other = absurd (other refl)
sign_suffix_other sign.Dot h other = absurd cc
sign_suffix_other sign.LeftBracket h other = absurd cc
sign_suffix_other sign.Colon h other = absurd cc
sign_suffix_other sign.LeftBrace h other = absurd cc
sign_suffix_other _ h other = refl

suffix_other : (t : Option Tok) → continues_prefix t ≡ false → (t ≡ Some (tok.Sign sign.LeftParen) → ⊥) → token_begins_suffix t ≡ false
suffix_other (Some tok.Short) h other = absurd cc
suffix_other (Some tok.Long) h other = absurd cc
suffix_other (Some (tok.Sign s)) h other = sign_suffix_other s h (λ e. other (ap (λ x. Some (tok.Sign x)) e))
suffix_other _ h other = refl

-- no suffix begins where no prefix expression goes on, and no `(` stands
pub closed_suffix : (toks : List Tok) (i : ℕ) → continues_prefix (slice_get toks i) ≡ false → NotAt toks i (tok.Sign sign.LeftParen) → begins_suffix toks i ≡ false
closed_suffix toks i h other = suffix_other (slice_get toks i) h other

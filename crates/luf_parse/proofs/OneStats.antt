-- What tells the parts of blocks and statements apart: the token with which they begin, and what stands behind them.
use Rattle.std.proofs.Common.{◌≡◌, ℕ, true, false, Option, None, List, [], ◌∷◌, refl, sym, ap, ◌∙◌, subst}
use Rattle.std.specs.Prelude.{slice_get}
use Rattle.std.proofs.lemmas.Bool.{false_from_ne_true}
use Rattle.luf_lex.specs.declared.token.Tok.{Tok}
use Rattle.luf_lex.specs.declared.token.Tok.TheVariants.{Word, Sign}
use Rattle.luf_lex.specs.declared.token.Word.TheVariants as word
use Rattle.luf_lex.specs.declared.token.Sign.TheVariants as sign
use Rattle.luf_tree.specs.declared.tree.Block.{Block, out-Block}
use Rattle.luf_tree.specs.declared.tree.Expr.{Expr, out-Expr}
use Rattle.luf_tree.specs.declared.tree.Stat.{Stat}
use Rattle.luf_tree.specs.declared.tree.Declared.{Declared}
use Rattle.luf_tree.specs.Grammar as g
use Rattle.luf_tree.specs.Grammar.{At, expression, IsToken, IsString, AreDeclared, IsExpr, IsSimple, IsPrefix, IsCall, IsParen, IsHead, AreExprs, IsTable, IsSemicolon, IsReturn, AreTargets, IsElse, IsForStep}
use Rattle.luf_descent.specs.Exact.{Alone}
use Rattle.luf_descent.specs.Follow.{NotAt, EndsExpr, EndsExprs, begins_prefix, ends_block, ends_arms, ends_return, follows_stat, EndsBlock, EndsStat, EndsArms}
use Rattle.luf_descent.specs.Parts.{EndsDeclared, ReadPrefix, ReadBlock, ReadStats, ReadSemicolon, ReadEnded, ReadVariable, ReadMoreTargets, ReadElse, ReadForStep}
use Rattle.luf_descent.specs.declared.prefixes.PrefixExpr.{PrefixExpr}
use Rattle.luf_descent.specs.declared.prefixes.Shape.TheVariants.{Variable}
use Rattle.luf_descent.proofs.Exactness.{alone_next, alone_is, then_rest, token_only}
use Rattle.luf_descent.proofs.Begins.{prefix_begins}
use Rattle.luf_descent.proofs.Ends.{moved}
use Rattle.luf_descent.proofs.Following.{not_at, token_closes}
use Rattle.luf_descent.proofs.Reading.{values_go}
use Rattle.luf_descent.proofs.StatForms.{declared_begins, semicolon_some, semicolon_none, variable_prefix, targets_last, targets_form}
use Rattle.luf_parse.proofs.Only.{before, alone_enters}

pub return_begins : {toks : List Tok} {i j : ℕ} {s : Stat} → IsReturn toks i j s → At toks i (Word word.Return)
return_begins (g.return_nothing t _) = t.there
return_begins (g.return_values t _ _) = t.there

pub moved_stats : {toks : List Tok} {left i j k : ℕ} {stats : List Stat} → i ≡ j → Alone (ReadStats toks left j) (stats, k) → Alone (ReadStats toks left i) (stats, k)
moved_stats {toks} {left} {k = k} {stats = stats} same only = subst (λ p. Alone (ReadStats toks left p) (stats, k)) (sym same) only

pub semicolon_only : {toks : List Tok} {i j : ℕ} → IsSemicolon toks i j → EndsBlock toks j → Alone (ReadSemicolon toks i) j
semicolon_only {toks} {i} g.no_semicolon ends = semicolon_none (not_at toks i ends_block ends refl)
semicolon_only (g.a_semicolon t) ends = semicolon_some t

-- values begin where a `return` does not end
pub values_begin : {toks : List Tok} {i j : ℕ} {es : List Expr} → AreExprs toks i j es → ends_return (slice_get toks i) ≡ false
values_begin {toks} {i} d = false_from_ne_true (ends_return (slice_get toks i)) (values_go d)

-- the arms of an `if` end before its `else` or its `end`
pub else_ends_arms : {toks : List Tok} {i j : ℕ} {last : Option Block} → IsElse toks i j last → At toks j (Word word.End) → EndsArms toks i
else_ends_arms g.no_else end = ap ends_arms end
else_ends_arms (g.an_else t _) end = ap ends_arms t.there

-- the limit of a `for` ends before a `,` or a `do`
pub step_ends_expr : {toks : List Tok} {i j : ℕ} {step : Option Expr} → IsForStep toks i j step → At toks j (Word word.Do) → EndsExpr toks 1 i
step_ends_expr g.no_for_step here = token_closes here refl refl refl
step_ends_expr (g.a_for_step t _) here = token_closes t.there refl refl refl

-- a block that its first token enters, and its `end`
pub ended_only : {toks : List Tok} {left i j k : ℕ} {b : Block} → ((inner : ℕ) → Alone (ReadBlock toks inner i) b) → (out-Block b).to ≡ j → IsToken toks j (Word word.End) k → Alone (ReadEnded toks left i) (b, k)
ended_only only to t = alone_enters (λ inner. alone_next (only inner) (alone_next (token_only (moved to t)) (alone_is refl)))

-- no `else` stands there
pub no_else_only : {toks : List Tok} {left i : ℕ} → NotAt toks i (Word word.Else) → Alone (ReadElse toks left i) (None, i)
no_else_only {toks} {left} {i} other r h = none r.0 r.1 h.is
  where
    none : (last : Option Block) (j : ℕ) → IsElse toks i j last → ◌≡◌ {A = Option Block × ℕ} (last, j) (None, i)
    none _ _ g.no_else = refl
    none _ _ (g.an_else t _) = absurd (other t.there)

-- no `,` stands there
pub no_step_only : {toks : List Tok} {left i : ℕ} → NotAt toks i (Sign sign.Comma) → Alone (ReadForStep toks left i) (None, i)
no_step_only {toks} {left} {i} other r h = none r.0 r.1 h.is
  where
    none : (step : Option Expr) (j : ℕ) → IsForStep toks i j step → ◌≡◌ {A = Option Expr × ℕ} (step, j) (None, i)
    none _ _ g.no_for_step = refl
    none _ _ (g.a_for_step t _) = absurd (other t.there)

-- The targets of an assignment: the first of them is the only prefix expression, and they are the only ones that begin
-- with it.
pub record OnlyTargets (toks : List Tok) (left i j : ℕ) (targets : List Expr) : Type 0 where
  pub one : Expr
  pub first : Alone (ReadPrefix toks left i) (record { shape = Variable; expr = one })
  pub only : Alone (ReadMoreTargets toks left i one) (targets, j)

pub one_target_only : {toks : List Tok} {left i j : ℕ} {e : Expr} → Alone (ReadPrefix toks left i) (record { shape = Variable; expr = e }) → (out-Expr e).to ≡ j → NotAt toks j (Sign sign.Comma) → OnlyTargets toks left i j (e ∷ [])
one_target_only {toks} {e = e} first to other = record {
  one = e;
  first = first;
  only = λ r h. targets_last (subst (λ p. NotAt toks p (Sign sign.Comma)) (sym to) other) r h ∙ ap (λ p. (e ∷ [], p)) to;
}

-- a variable is the prefix expression
variable_alone : {toks : List Tok} {left i : ℕ} {e : Expr} → Alone (ReadPrefix toks left i) (record { shape = Variable; expr = e }) → Alone (ReadVariable toks left i) e
variable_alone only y h = ap (λ (p : PrefixExpr). p.expr) (only (record { shape = Variable; expr = y }) (variable_prefix y h))

pub more_targets_only : {toks : List Tok} {left i j k l : ℕ} {e : Expr} {targets : List Expr} → Alone (ReadPrefix toks left i) (record { shape = Variable; expr = e }) → (out-Expr e).to ≡ j → IsToken toks j (Sign sign.Comma) k
    → OnlyTargets toks left k l targets → OnlyTargets toks left i l (e ∷ targets)
more_targets_only {e = e} first to t rest = record {
  one = e;
  first = first;
  only = λ r h. before rest.only (then_rest (variable_alone rest.first) (targets_form (moved to t) r h));
}

-- what is declared ends where a statement does, and before a `=`
pub stat_ends_declared : {toks : List Tok} {i : ℕ} → EndsStat toks i → EndsDeclared toks i
stat_ends_declared {toks} {i} ends = record { comma = not_at toks i follows_stat ends refl; less = not_at toks i follows_stat ends refl }

pub assign_ends_declared : {toks : List Tok} {i : ℕ} → At toks i (Sign sign.Assign) → EndsDeclared toks i
assign_ends_declared here = record { comma = λ comma. absurd cc; less = λ less. absurd cc }

-- no statement ends before a `=`
pub stat_no_assign : (toks : List Tok) (i : ℕ) → EndsStat toks i → NotAt toks i (Sign sign.Assign)
stat_no_assign toks i ends = not_at toks i follows_stat ends refl

pub declared_no_function : {toks : List Tok} {i j : ℕ} {declared : List Declared} → AreDeclared toks i j declared → NotAt toks i (Word word.Function)
declared_no_function d here = let name = declared_begins d in absurd cc

pub targets_begin : {toks : List Tok} {i j : ℕ} {targets : List Expr} → AreTargets toks i j targets → begins_prefix (slice_get toks i) ≡ true
targets_begin (g.one_target d) = prefix_begins begins_prefix refl refl (g.variable_prefix d)
targets_begin (g.more_targets d _ _) = prefix_begins begins_prefix refl refl (g.variable_prefix d)

pub call_begins : {toks : List Tok} {i j : ℕ} {e : Expr} → IsCall toks i j e → begins_prefix (slice_get toks i) ≡ true
call_begins d = prefix_begins begins_prefix refl refl (g.call_prefix d)

pub moved_step : {toks : List Tok} {left i j k : ℕ} {step : Option Expr} → i ≡ j → Alone (ReadForStep toks left j) (step, k) → Alone (ReadForStep toks left i) (step, k)
moved_step {toks} {left} {k = k} {step = step} same only = subst (λ p. Alone (ReadForStep toks left p) (step, k)) (sym same) only

-- the names of a `for` end before its `in`, and its values before its `do`
pub in_no_comma : {toks : List Tok} {i j : ℕ} → IsToken toks i (Word word.In) j → NotAt toks i (Sign sign.Comma)
in_no_comma t comma = let here = t.there in absurd cc

pub do_ends : {toks : List Tok} {i : ℕ} → At toks i (Word word.Do) → EndsExprs toks i
do_ends here = record { expr = token_closes here refl refl refl; comma = λ comma. absurd cc }

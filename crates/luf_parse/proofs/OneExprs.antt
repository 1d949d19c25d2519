-- What tells the parts of expressions apart: the token with which they begin, and what stands behind them.
use Rattle.std.proofs.Common.{◌≡◌, ℕ, ◌+◌, ◌<◌, ◌≤◌, inl, inr, Bool, true, false, Option, Some, None, List, refl, sym, ap, ◌∙◌, subst, arith}
use Rattle.std.specs.Prelude.{slice_get}
use Rattle.luf_lex.specs.declared.token.Tok.{Tok}
use Rattle.luf_lex.specs.declared.token.Tok.TheVariants.{Name, Short, Long, Sign}
use Rattle.luf_lex.specs.declared.token.Sign.{Sign as Mark}
use Rattle.luf_lex.specs.declared.token.Sign.TheVariants as sign
use Rattle.luf_tree.specs.declared.tree.Expr.{Expr, out-Expr}
use Rattle.luf_tree.specs.declared.tree.ExprKind.TheVariants as expr
use Rattle.luf_tree.specs.declared.tree.Step.{Step}
use Rattle.luf_tree.specs.declared.tree.Suffix.{Suffix}
use Rattle.luf_tree.specs.declared.tree.Field.{Field}
use Rattle.luf_tree.specs.Operator.{is_unary}
use Rattle.luf_tree.specs.First.{starts_expr}
use Rattle.luf_tree.specs.Grammar as g
use Rattle.luf_tree.specs.Grammar.{At, expression, suffixed, IsToken, IsString, AreDeclared, IsExpr, IsSimple, IsPrefix, IsCall, IsParen, IsHead, AreExprs, IsTable, IsSemicolon, IsReturn, AreTargets, IsElse, IsForStep}
use Rattle.luf_tree.proofs.TokenLaws.{expr_starts}
use Rattle.luf_descent.specs.Exact.{Alone}
use Rattle.luf_descent.specs.Follow.{NotAt, NotAssigned, NotString, IsSeparator, EndsExpr, EndsExprs, sign_begins_prefix, begins_prefix, ends_field, EndsField, precedence_at}
use Rattle.luf_descent.specs.Parts.{ReadSteps, ReadChain, ReadExpr, ReadOperand, ReadSimple, ReadPrefix, ReadHead, ReadParen, ReadSuffixes}
use Rattle.luf_descent.specs.Reads.{begins_suffix}
use Rattle.luf_descent.specs.Shapes.{suffixed_shape, sign_leaf, leaf_kind}
use Rattle.luf_descent.specs.declared.prefixes.Shape.{Shape}
use Rattle.luf_descent.specs.declared.prefixes.Shape.TheVariants.{Paren}
use Rattle.luf_descent.proofs.Exactness.{alone_form, alone_next, alone_is, alone_triple, then_rest}
use Rattle.luf_descent.proofs.Begins.{unary_at, simple_begins, prefix_begins, paren_begins, table_begins, string_begins, expr_name_end}
use Rattle.luf_descent.proofs.Ends.{expr_to, head_to}
use Rattle.luf_descent.proofs.ExprForms.{prefixed_form, prefix_form, head_form, SuffixesRead, Grown, operand_form, grown_end, grown_form}
use Rattle.luf_descent.proofs.Following.{not_at, token_closes}

-- the first token of a simple expression, which is no unary operator
pub record SimpleFirst (toks : List Tok) (i : ℕ) : Type 0 where
  pub tok : Tok
  pub token : IsToken toks i tok (i + 1)
  pub other : is_unary tok ≡ false

pub simple_first : {toks : List Tok} {i j : ℕ} {e : Expr} → IsSimple toks i j e → SimpleFirst toks i
simple_first {toks} {i} d = first (slice_get toks i) refl (expr_starts (g.operand_expr {n = 1} (g.simple_operand d))) (simple_begins d)
  where
    first : (o : Option Tok) → slice_get toks i ≡ o → starts_expr o ≡ true → unary_at o ≡ false → SimpleFirst toks i
    first None there starts other = absurd cc
    first (Some t) there starts other = record { tok = t; token = record { there = there; next = refl }; other = other }

-- the first token of a prefix expression, which is no expression by itself
pub record PrefixFirst (toks : List Tok) (i : ℕ) : Type 0 where
  pub tok : Tok
  pub token : IsToken toks i tok (i + 1)
  pub leaf : leaf_kind tok ≡ None

paren_leaf : (s : Mark) → sign_begins_prefix s ≡ true → sign_leaf s ≡ None
paren_leaf sign.LeftParen h = refl
paren_leaf _ h = absurd cc

pub prefix_first : {toks : List Tok} {i j : ℕ} {e : Expr} → IsPrefix toks i j e → PrefixFirst toks i
prefix_first {toks} {i} d = first (slice_get toks i) refl (prefix_begins begins_prefix refl refl d)
  where
    first : (o : Option Tok) → slice_get toks i ≡ o → begins_prefix o ≡ true → PrefixFirst toks i
    first (Some Name) there begins = record { tok = Name; token = record { there = there; next = refl }; leaf = refl }
    first (Some (Sign s)) there begins = record { tok = Sign s; token = record { there = there; next = refl }; leaf = paren_leaf s begins }
    first _ there begins = absurd cc

pub prefix_other : {toks : List Tok} {i j : ℕ} {e : Expr} {t : Tok} → IsPrefix toks i j e → begins_prefix (Some t) ≡ false → NotAt toks i t
prefix_other {toks} {i} d other = not_at toks i begins_prefix (prefix_begins begins_prefix refl refl d) other

-- What an expression is, if it is whole: the operand with which it begins is known, and each expression of no higher
-- level that begins with that operand begins with the whole expression.
pub record Leads (toks : List Tok) (left i level : ℕ) (e : Expr) : Type 0 where
  pub whole : Expr
  pub only : Alone (ReadOperand toks left i) whole
  pub grows : (least : ℕ) → least ≤ level → (y : Expr) → Grown toks left i whole least y → Grown toks left i e least y

pub operand_leads : {toks : List Tok} {left i level : ℕ} {e : Expr} → Alone (ReadOperand toks left i) e → Leads toks left i level e
operand_leads {e = e} only = record { whole = e; only = only; grows = λ least low y h. h }

-- a chain, whose first operand leads and whose steps are known
pub chain_leads : {toks : List Tok} {left i j k level least : ℕ} {first : Expr} {steps : List Step} → least ≤ level → IsExpr toks (level + 1) i j first → precedence_at toks j ≡ level → Leads toks left i (level + 1) first
    → Alone (ReadSteps toks level left j) (steps, k) → Leads toks left i least (expression i k (expr.Chain first steps))
chain_leads {toks} {left} {i} {j} {k} {level} {first = first} {steps = steps} above d here leads only = record {
  whole = leads.whole;
  only = leads.only;
  grows = λ n low y h. then_rest chain (grown_form at_first (omega arith) y (leads.grows n (omega arith) y h));
}
  where
    at_first : precedence_at toks (out-Expr first).to ≡ level
    at_first = subst (λ (p : ℕ). precedence_at toks p ≡ level) (sym (expr_to d)) here

    chain : Alone (ReadChain toks level left i first) (expression i k (expr.Chain first steps))
    chain = alone_next (subst (λ (p : ℕ). Alone (ReadSteps toks level left p) (steps, k)) (sym (expr_to d)) only) (alone_is refl)

-- how an expression leads, and that it is the only one
pub record OnlyExpr (toks : List Tok) (left i level : ℕ) (e : Expr) : Type 0 where
  pub leads : Leads toks left i level e
  pub alone : Alone (ReadExpr toks level left i) e

-- behind an expression that leads stands no operator of its level
pub leads_only : {toks : List Tok} {left i j level : ℕ} {e : Expr} → IsExpr toks level i j e → EndsExpr toks level j → Leads toks left i level e → OnlyExpr toks left i level e
leads_only {toks} {left} {i} {j} {level} {e} d ends leads =
    record { leads = leads; alone = λ y h. grown_end at_end y (leads.grows level (omega arith) y (then_rest leads.only (operand_form y h))) }
  where
    at_end : precedence_at toks (out-Expr e).to < level
    at_end = subst (λ (p : ℕ). precedence_at toks p < level) (sym (expr_to d)) ends.precedence

pub power_to : {i j l : ℕ} (base exponent : Expr) → (out-Expr base).to ≡ j → (out-Expr exponent).to ≡ l
    → expression i (out-Expr exponent).to (expr.Power base (out-Expr base).to exponent) ≡ expression i l (expr.Power base j exponent)
power_to {i} {j} {l} base exponent base_to exponent_to = ap (λ p. expression i p (expr.Power base (out-Expr base).to exponent)) exponent_to ∙ ap (λ p. expression i l (expr.Power base p exponent)) base_to

-- prefix expressions

pub prefixed_only : {toks : List Tok} {left i j : ℕ} {s : Shape} {e : Expr} → IsPrefix toks i j e → Alone (ReadPrefix toks left i) (record { shape = s; expr = e }) → Alone (ReadSimple toks left i) e
prefixed_only d only = let first = prefix_first d in alone_form (prefixed_form first.token first.leaf (prefix_other d refl) (prefix_other d refl)) (alone_next only (alone_is refl))

-- the shape of a head, with which it is the only one
pub record OnlyHead (toks : List Tok) (left i : ℕ) (e : Expr) : Type 0 where
  pub shape : Shape
  pub alone : Alone (ReadHead toks left i) (record { shape = shape; expr = e })

pub paren_head_only : {toks : List Tok} {left i j : ℕ} {e : Expr} → IsParen toks i j e → Alone (ReadParen toks left i) e → Alone (ReadHead toks left i) (record { shape = Paren; expr = e })
paren_head_only d only = let paren = paren_begins d in alone_form (head_form (λ name. absurd cc)) (alone_next only (alone_is refl))

-- a head behind which no suffix begins
pub head_alone : {toks : List Tok} {left i j : ℕ} {s : Shape} {e : Expr} → IsHead toks i j e → Alone (ReadHead toks left i) (record { shape = s; expr = e }) → begins_suffix toks j ≡ false
    → Alone (ReadPrefix toks left i) (record { shape = s; expr = e })
head_alone {toks} d only ends = alone_form prefix_form (alone_next only (λ y h. h.alone (subst (λ p. begins_suffix toks p ≡ false) (sym (head_to d)) ends)))

-- a head and suffixes
pub suffixed_only : {toks : List Tok} {left i j k : ℕ} {calls : Bool} {head : Expr} {suffixes : List Suffix} → IsHead toks i j head → OnlyHead toks left i head → begins_suffix toks j ≡ true → Alone (SuffixesRead toks left j) (suffixes, (calls, k))
    → Alone (ReadPrefix toks left i) (record { shape = suffixed_shape calls; expr = suffixed i k head suffixes })
suffixed_only {toks} {left} {i} {j} {k} {calls} {head} {suffixes} d first begins only = alone_form prefix_form (alone_next first.alone (λ y h. alone_next at_head (alone_is refl) y (h.more (subst (λ p. begins_suffix toks p ≡ true) (sym (head_to d)) begins))))
  where
    at_head : Alone (ReadSuffixes toks left (out-Expr head).to) (suffixes, calls, k)
    at_head = alone_triple (ReadSuffixes toks left (out-Expr head).to) (subst (λ p. Alone (SuffixesRead toks left p) (suffixes, (calls, k))) (sym (head_to d)) only)

-- arguments and fields

abbrev is_string : Option Tok → Bool
is_string (Some Short) = true
is_string (Some Long) = true
is_string _ = false

pub string_no_paren : {toks : List Tok} {i j : ℕ} → IsString toks i j → NotAt toks i (Sign sign.LeftParen)
string_no_paren {toks} {i} d = not_at toks i is_string (string_begins is_string refl refl d) refl

pub table_no_paren : {toks : List Tok} {i j : ℕ} {fields : List Field} → IsTable toks i j fields → NotAt toks i (Sign sign.LeftParen)
table_no_paren d paren = let brace = table_begins d in absurd cc

pub table_no_string : {toks : List Tok} {i j : ℕ} {fields : List Field} → IsTable toks i j fields → NotString toks i
table_no_string {toks} {i} d to string = not_at toks i is_string (string_begins is_string refl refl string) refl (table_begins d)

-- expressions end before a `)`
pub paren_ends : {toks : List Tok} {i : ℕ} → At toks i (Sign sign.RightParen) → EndsExprs toks i
paren_ends close = record { expr = token_closes close refl refl refl; comma = λ comma. absurd cc }

-- a field ends before a separator
pub separator_ends : {toks : List Tok} {i j : ℕ} → IsSeparator toks i j → EndsField toks i
separator_ends (inl t) = ap ends_field t.there
separator_ends (inr t) = ap ends_field t.there

-- a `}` is no separator
pub brace_separates : {toks : List Tok} {i j : ℕ} → At toks i (Sign sign.RightBrace) → IsSeparator toks i j → ⊥
brace_separates close (inl t) = let here = t.there in absurd cc
brace_separates close (inr t) = let here = t.there in absurd cc

-- a field that is an expression does not begin with a name and a `=`
pub item_assigned : {toks : List Tok} {i j : ℕ} {e : Expr} → IsExpr toks 1 i j e → EndsField toks j → NotAssigned toks i
item_assigned {toks} {i} {j} d ends from a = not_at toks a.after ends_field (subst (λ (p : ℕ). EndsField toks p) (expr_name_end a.name a.sign.there d) ends) refl a.sign.there

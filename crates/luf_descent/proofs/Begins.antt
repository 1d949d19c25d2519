-- The tokens with which parts begin.
use Rattle.std.proofs.Common.{◌≡◌, ℕ, ◌≤◌, Bool, true, false, Option, Some, None, List, length, refl, ap, ◌∙◌, subst, arith, inl, inr}
use Rattle.std.specs.Prelude.{slice_get}
use Rattle.std.proofs.lemmas.Option.{slice_get_within}
use Rattle.luf_lex.specs.declared.token.Tok.{Tok}
use Rattle.luf_lex.specs.declared.token.Tok.TheVariants as tok
use Rattle.luf_lex.specs.declared.token.Sign.{Sign}
use Rattle.luf_lex.specs.declared.token.Sign.TheVariants as sign
use Rattle.luf_tree.specs.declared.tree.Expr.{Expr}
use Rattle.luf_tree.specs.declared.tree.Step.{Step}
use Rattle.luf_tree.specs.declared.tree.Suffix.{Suffix}
use Rattle.luf_tree.specs.declared.tree.Args.{Args}
use Rattle.luf_tree.specs.declared.tree.Field.{Field}
use Rattle.luf_tree.specs.Operator.{is_unary}
use Rattle.luf_tree.specs.First.{starts_expr}
use Rattle.luf_tree.specs.Grammar as g
use Rattle.luf_tree.specs.Grammar.{At, IsToken, IsString, IsExpr, AreSteps, IsOperand, IsSimple, IsPrefix, IsVariable, IsCall, IsParen, IsHead, AreSuffixes, IsSuffix, IsArgs, AreExprs, IsTable, IsField}
use Rattle.luf_tree.proofs.TokenLaws.{expr_starts}
use Rattle.luf_descent.specs.Reads.{token_begins_suffix, begins_suffix}
use Rattle.luf_descent.specs.Follow.{precedence_of, precedence_at}
use Rattle.luf_descent.proofs.Following.{not_at}

-- no token stands behind the last
inside : (toks : List Tok) (i : ℕ) → length toks ≤ i → (o : Option Tok) → slice_get toks i ≡ o → starts_expr o ≡ true → ⊥
inside toks i end None there starts = absurd cc
inside toks i end (Some t) there starts = omega (arith, slice_get_within toks i t there)

pub expr_inside : {toks : List Tok} {n i j : ℕ} {e : Expr} → length toks ≤ i → IsExpr toks n i j e → ⊥
expr_inside {toks} {n} {i} end d = inside toks i end (slice_get toks i) refl (expr_starts d)

pub table_begins : {toks : List Tok} {i j : ℕ} {fields : List Field} → IsTable toks i j fields → At toks i (tok.Sign sign.LeftBrace)
table_begins (g.table t _ _) = t.there

-- a prefix expression begins with a name or a `(`

pub paren_begins : {toks : List Tok} {i j : ℕ} {e : Expr} → IsParen toks i j e → At toks i (tok.Sign sign.LeftParen)
paren_begins (g.paren t _ _) = t.there

head_begins : {toks : List Tok} {i j : ℕ} {e : Expr} (test : Option Tok → Bool) {b : Bool} → test (Some tok.Name) ≡ b → test (Some (tok.Sign sign.LeftParen)) ≡ b → IsHead toks i j e → test (slice_get toks i) ≡ b
head_begins test n p (g.name_head t) = ap test t.there ∙ n
head_begins test n p (g.paren_head d) = ap test (paren_begins d) ∙ p

variable_begins : {toks : List Tok} {i j : ℕ} {e : Expr} (test : Option Tok → Bool) {b : Bool} → test (Some tok.Name) ≡ b → test (Some (tok.Sign sign.LeftParen)) ≡ b → IsVariable toks i j e → test (slice_get toks i) ≡ b
variable_begins test n p (g.name_variable t) = ap test t.there ∙ n
variable_begins test n p (g.suffixed_variable d _) = head_begins test n p d

call_begins : {toks : List Tok} {i j : ℕ} {e : Expr} (test : Option Tok → Bool) {b : Bool} → test (Some tok.Name) ≡ b → test (Some (tok.Sign sign.LeftParen)) ≡ b → IsCall toks i j e → test (slice_get toks i) ≡ b
call_begins test n p (g.suffixed_call d _) = head_begins test n p d

pub prefix_begins : {toks : List Tok} {i j : ℕ} {e : Expr} (test : Option Tok → Bool) {b : Bool} → test (Some tok.Name) ≡ b → test (Some (tok.Sign sign.LeftParen)) ≡ b → IsPrefix toks i j e → test (slice_get toks i) ≡ b
prefix_begins test n p (g.variable_prefix d) = variable_begins test n p d
prefix_begins test n p (g.call_prefix d) = call_begins test n p d
prefix_begins test n p (g.paren_prefix d) = ap test (paren_begins d) ∙ p

pub string_begins : {toks : List Tok} {i j : ℕ} (test : Option Tok → Bool) {b : Bool} → test (Some tok.Short) ≡ b → test (Some tok.Long) ≡ b → IsString toks i j → test (slice_get toks i) ≡ b
string_begins test s l (inl t) = ap test t.there ∙ s
string_begins test s l (inr t) = ap test t.there ∙ l

abbrev pub unary_at : Option Tok → Bool
unary_at None = false
unary_at (Some t) = is_unary t

-- no simple expression begins with a unary operator
pub simple_begins : {toks : List Tok} {i j : ℕ} {e : Expr} → IsSimple toks i j e → unary_at (slice_get toks i) ≡ false
simple_begins (g.nil_simple t) = ap unary_at t.there
simple_begins (g.true_simple t) = ap unary_at t.there
simple_begins (g.false_simple t) = ap unary_at t.there
simple_begins (g.number_simple t) = ap unary_at t.there
simple_begins (g.string_simple d) = string_begins unary_at refl refl d
simple_begins (g.vararg_simple t) = ap unary_at t.there
simple_begins (g.function_simple t _) = ap unary_at t.there
simple_begins (g.table_simple d) = ap unary_at (table_begins d)
simple_begins (g.prefix_simple d _) = prefix_begins unary_at refl refl d

abbrev sign_begins_args : Sign → Bool
sign_begins_args sign.LeftParen = true
sign_begins_args sign.LeftBrace = true
sign_begins_args _ = false

-- a `(`, a `{` or a string
abbrev pub begins_args : Option Tok → Bool
begins_args (Some tok.Short) = true
begins_args (Some tok.Long) = true
begins_args (Some (tok.Sign s)) = sign_begins_args s
begins_args _ = false

pub args_begin : {toks : List Tok} {i j : ℕ} {a : Args} → IsArgs toks i j a → begins_args (slice_get toks i) ≡ true
args_begin (g.no_args t _) = ap begins_args t.there
args_begin (g.list_args t _ _) = ap begins_args t.there
args_begin (g.string_args d) = string_begins begins_args refl refl d
args_begin (g.table_args d) = ap begins_args (table_begins d)

args_begin_suffix : {toks : List Tok} {i j : ℕ} {a : Args} → IsArgs toks i j a → begins_suffix toks i ≡ true
args_begin_suffix (g.no_args t _) = ap token_begins_suffix t.there
args_begin_suffix (g.list_args t _ _) = ap token_begins_suffix t.there
args_begin_suffix (g.string_args d) = string_begins token_begins_suffix refl refl d
args_begin_suffix (g.table_args d) = ap token_begins_suffix (table_begins d)

suffix_begins : {toks : List Tok} {calls : Bool} {i j : ℕ} {s : Suffix} → IsSuffix toks calls i j s → begins_suffix toks i ≡ true
suffix_begins (g.dot_suffix t _) = ap token_begins_suffix t.there
suffix_begins (g.index_suffix t _ _) = ap token_begins_suffix t.there
suffix_begins (g.call_suffix d) = args_begin_suffix d
suffix_begins (g.method_suffix t _ _) = ap token_begins_suffix t.there

pub suffixes_begin : {toks : List Tok} {calls : Bool} {i j : ℕ} {suffixes : List Suffix} → AreSuffixes toks calls i j suffixes → begins_suffix toks i ≡ true
suffixes_begin (g.one_suffix d) = suffix_begins d
suffixes_begin (g.more_suffixes d _) = suffix_begins d

-- steps begin with an operator of their level
pub steps_begin : {toks : List Tok} {m i j : ℕ} {steps : List Step} → AreSteps toks m i j steps → precedence_at toks i ≡ m
steps_begin (g.one_step t level _) = ap precedence_of t.there ∙ level
steps_begin (g.more_steps t level _ _) = ap precedence_of t.there ∙ level

pub exprs_start : {toks : List Tok} {i j : ℕ} {es : List Expr} → AreExprs toks i j es → starts_expr (slice_get toks i) ≡ true
exprs_start (g.one_expr d) = expr_starts d
exprs_start (g.more_exprs d _ _) = expr_starts d

-- no field begins with a `}`
pub field_begins : {toks : List Tok} {i j : ℕ} {f : Field} → IsField toks i j f → At toks i (tok.Sign sign.RightBrace) → ⊥
field_begins (g.keyed_field t _ _ _ _) close = let open_ = t.there in absurd cc
field_begins (g.named_field t _ _) close = let name = t.there in absurd cc
field_begins {toks} {i} (g.item_field d) close = not_at toks i starts_expr (expr_starts d) refl close

-- An expression that begins with a name before a `=` is that name.

head_name_end : {toks : List Tok} {i j after : ℕ} {e : Expr} → IsToken toks i tok.Name after → IsHead toks i j e → j ≡ after
head_name_end n (g.name_head t) = let a = n.next in let b = t.next in omega arith
head_name_end n (g.paren_head d) = let a = n.there in let b = paren_begins d in absurd cc

no_suffixes : {toks : List Tok} {calls : Bool} {i j k after : ℕ} {e : Expr} {suffixes : List Suffix} {A : Type 0} → IsToken toks i tok.Name after → At toks after (tok.Sign sign.Assign) → IsHead toks i j e → AreSuffixes toks calls j k suffixes → A
no_suffixes {toks} {calls} {i} {j} {k} {after} n equal d suffixes = absurd (not_at toks after token_begins_suffix (subst (λ (p : ℕ). begins_suffix toks p ≡ true) (head_name_end n d) (suffixes_begin suffixes)) refl equal)

simple_name_end : {toks : List Tok} {i j after : ℕ} {e : Expr} → IsToken toks i tok.Name after → At toks after (tok.Sign sign.Assign) → IsSimple toks i j e → j ≡ after
simple_name_end n equal (g.nil_simple t) = let a = n.there in let b = t.there in absurd cc
simple_name_end n equal (g.true_simple t) = let a = n.there in let b = t.there in absurd cc
simple_name_end n equal (g.false_simple t) = let a = n.there in let b = t.there in absurd cc
simple_name_end n equal (g.number_simple t) = let a = n.there in let b = t.there in absurd cc
simple_name_end {toks} {i} n equal (g.string_simple d) = absurd (not_at toks i begins_args (string_begins begins_args refl refl d) refl n.there)
simple_name_end n equal (g.vararg_simple t) = let a = n.there in let b = t.there in absurd cc
simple_name_end n equal (g.function_simple t _) = let a = n.there in let b = t.there in absurd cc
simple_name_end n equal (g.table_simple d) = let a = n.there in let b = table_begins d in absurd cc
simple_name_end n equal (g.prefix_simple (g.variable_prefix (g.name_variable t)) _) = let a = n.next in let b = t.next in omega arith
simple_name_end n equal (g.prefix_simple (g.variable_prefix (g.suffixed_variable d suffixes)) _) = no_suffixes n equal d suffixes
simple_name_end n equal (g.prefix_simple (g.call_prefix (g.suffixed_call d suffixes)) _) = no_suffixes n equal d suffixes
simple_name_end n equal (g.prefix_simple (g.paren_prefix d) _) = let a = n.there in let b = paren_begins d in absurd cc

operand_name_end : {toks : List Tok} {i j after : ℕ} {e : Expr} → IsToken toks i tok.Name after → At toks after (tok.Sign sign.Assign) → IsOperand toks i j e → j ≡ after
operand_name_end n equal (g.unary_operand t u _) = let a = ap unary_at n.there in let b = ap unary_at t.there in absurd cc
operand_name_end {toks} n equal (g.power_operand d c _) = let power = subst (λ (p : ℕ). At toks p (tok.Sign sign.Caret)) (simple_name_end n equal d) c.there in absurd cc
operand_name_end n equal (g.simple_operand d) = simple_name_end n equal d

pub expr_name_end : {toks : List Tok} {m i j after : ℕ} {e : Expr} → IsToken toks i tok.Name after → At toks after (tok.Sign sign.Assign) → IsExpr toks m i j e → j ≡ after
expr_name_end n equal (g.operand_expr d) = operand_name_end n equal d
expr_name_end {toks} {after = after} n equal (g.chain_expr {m} low _ d steps) =
    let level = subst (λ (p : ℕ). precedence_at toks p ≡ m) (expr_name_end n equal d) (steps_begin steps) in let none = ap precedence_of equal in absurd (omega arith)

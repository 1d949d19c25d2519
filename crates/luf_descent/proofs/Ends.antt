-- The end that a part of the tree names is the place up to which it is derived.
use Rattle.std.proofs.Common.{◌≡◌, ℕ, zero, suc, ◌+◌, ◌≤◌, List, false, refl, sym, ap, subst, arith}
use Rattle.std.specs.Prelude.{slice_get}
use Rattle.luf_lex.specs.declared.token.Tok.{Tok}
use Rattle.luf_tree.specs.declared.tree.Block.{Block, out-Block}
use Rattle.luf_tree.specs.declared.tree.Stat.{Stat, out-Stat}
use Rattle.luf_tree.specs.declared.tree.FuncBody.{FuncBody, out-FuncBody}
use Rattle.luf_tree.specs.declared.tree.Expr.{Expr, out-Expr}
use Rattle.luf_tree.specs.declared.tree.ExprKind.TheViews.{out-roll-Block, out-roll-FuncBody, out-roll-Args}
use Rattle.luf_tree.specs.declared.tree.Args.{Args, out-Args}
use Rattle.luf_tree.specs.Grammar as g
use Rattle.luf_tree.specs.Grammar.{IsToken, IsExpr, IsOperand, IsSimple, IsPrefix, IsVariable, IsCall, IsParen, IsHead, IsArgs, IsFuncBody, IsBlock, IsReturn, IsStat}
use Rattle.luf_tree.specs.Level.{expr_levels, args_levels, body_levels}
use Rattle.luf_descent.specs.Follow.{continues_prefix, EndsOperand, EndsExpr}
use Rattle.luf_descent.specs.Parts.{ReadExpr, ReadOperand, ReadSimple, ReadArgs, ReadFuncBody}
use Rattle.luf_descent.specs.Shapes.{IsShaped}
use Rattle.luf_descent.specs.declared.prefixes.Shape.{Shape}
use Rattle.luf_descent.specs.declared.prefixes.Shape.TheVariants as shape

-- a token at the same place
pub moved : {toks : List Tok} {a b l : ℕ} {tok : Tok} → a ≡ b → IsToken toks b tok l → IsToken toks a tok l
moved {toks} {a} {b} {l} {tok} e t = subst (λ (p : ℕ). IsToken toks p tok l) (sym e) t

pub paren_to : {toks : List Tok} {i j : ℕ} {e : Expr} → IsParen toks i j e → (out-Expr e).to ≡ j
paren_to (g.paren _ _ _) = refl

pub head_to : {toks : List Tok} {i j : ℕ} {e : Expr} → IsHead toks i j e → (out-Expr e).to ≡ j
head_to (g.name_head _) = refl
head_to (g.paren_head d) = paren_to d

pub variable_to : {toks : List Tok} {i j : ℕ} {e : Expr} → IsVariable toks i j e → (out-Expr e).to ≡ j
variable_to (g.name_variable _) = refl
variable_to (g.suffixed_variable _ _) = refl

pub call_to : {toks : List Tok} {i j : ℕ} {e : Expr} → IsCall toks i j e → (out-Expr e).to ≡ j
call_to (g.suffixed_call _ _) = refl

pub prefix_to : {toks : List Tok} {i j : ℕ} {e : Expr} → IsPrefix toks i j e → (out-Expr e).to ≡ j
prefix_to (g.variable_prefix d) = variable_to d
prefix_to (g.call_prefix d) = call_to d
prefix_to (g.paren_prefix d) = paren_to d

pub shaped_to : (toks : List Tok) (i j : ℕ) (s : Shape) (e : Expr) → IsShaped toks i j s e → (out-Expr e).to ≡ j
shaped_to toks i j shape.Variable e d = variable_to d
shaped_to toks i j shape.Call e d = call_to d
shaped_to toks i j shape.Paren e d = paren_to d

pub simple_to : {toks : List Tok} {i j : ℕ} {e : Expr} → IsSimple toks i j e → (out-Expr e).to ≡ j
simple_to (g.nil_simple _) = refl
simple_to (g.true_simple _) = refl
simple_to (g.false_simple _) = refl
simple_to (g.number_simple _) = refl
simple_to (g.string_simple _) = refl
simple_to (g.vararg_simple _) = refl
simple_to (g.function_simple _ _) = refl
simple_to (g.table_simple _) = refl
simple_to (g.prefix_simple d _) = prefix_to d

pub operand_to : {toks : List Tok} {i j : ℕ} {e : Expr} → IsOperand toks i j e → (out-Expr e).to ≡ j
operand_to (g.unary_operand _ _ _) = refl
operand_to (g.power_operand _ _ _) = refl
operand_to (g.simple_operand d) = simple_to d

pub expr_to : {toks : List Tok} {n i j : ℕ} {e : Expr} → IsExpr toks n i j e → (out-Expr e).to ≡ j
expr_to (g.operand_expr d) = operand_to d
expr_to (g.chain_expr _ _ _ _) = refl

pub args_to : {toks : List Tok} {i j : ℕ} {a : Args} → IsArgs toks i j a → (out-Args a).to ≡ j
args_to (g.no_args _ _) = ap (λ r. r.to) (out-roll-Args _)
args_to (g.list_args _ _ _) = ap (λ r. r.to) (out-roll-Args _)
args_to (g.string_args _) = ap (λ r. r.to) (out-roll-Args _)
args_to (g.table_args _) = ap (λ r. r.to) (out-roll-Args _)

pub body_to : {toks : List Tok} {i j : ℕ} {f : FuncBody} → IsFuncBody toks i j f → (out-FuncBody f).to ≡ j
body_to (g.func_body _ _ _ _ _) = ap (λ r. r.to) (out-roll-FuncBody _)

pub block_to : {toks : List Tok} {i j : ℕ} {b : Block} → IsBlock toks i j b → (out-Block b).to ≡ j
block_to (g.block _) = ap (λ r. r.to) (out-roll-Block _)

pub return_to : {toks : List Tok} {i j : ℕ} {s : Stat} → IsReturn toks i j s → (out-Stat s).to ≡ j
return_to (g.return_nothing _ _) = refl
return_to (g.return_values _ _ _) = refl

pub stat_to : {toks : List Tok} {i j : ℕ} {s : Stat} → IsStat toks i j s → (out-Stat s).to ≡ j
stat_to (g.empty_stat _) = refl
stat_to (g.local_stat _ _) = refl
stat_to (g.local_values_stat _ _ _ _) = refl
stat_to (g.assign_stat _ _ _) = refl
stat_to (g.call_stat _ _) = refl
stat_to (g.do_stat _ _ _) = refl
stat_to (g.while_stat _ _ _ _ _) = refl
stat_to (g.repeat_stat _ _ _ _) = refl
stat_to (g.if_stat _ _ _ _) = refl
stat_to (g.for_stat _ _ _ _ _ _ _ _ _ _) = refl
stat_to (g.for_in_stat _ _ _ _ _ _ _) = refl
stat_to (g.function_stat _ _ _ _) = refl
stat_to (g.local_function_stat _ _ _ _) = refl
stat_to (g.label_stat _ _ _) = refl
stat_to (g.goto_stat _ _) = refl
stat_to (g.break_stat _) = refl

-- A part at the end that it names.

pub read_expr : {toks : List Tok} {n left i j : ℕ} {e : Expr} → IsExpr toks n i j e → EndsExpr toks n j → expr_levels e ≤ left → ReadExpr toks n left i e
read_expr {toks} {n} {left} {i} {j} {e} d ends level =
    record { is = subst (λ (p : ℕ). IsExpr toks n i p e) (sym (expr_to d)) d; ends = subst (λ (p : ℕ). EndsExpr toks n p) (sym (expr_to d)) ends; level = level }

pub read_operand : {toks : List Tok} {left i j : ℕ} {e : Expr} → IsOperand toks i j e → EndsOperand toks j → expr_levels e ≤ left → ReadOperand toks left i e
read_operand {toks} {left} {i} {j} {e} d ends level =
    record { is = subst (λ (p : ℕ). IsOperand toks i p e) (sym (operand_to d)) d; ends = subst (λ (p : ℕ). EndsOperand toks p) (sym (operand_to d)) ends; level = level }

pub read_simple : {toks : List Tok} {left i j : ℕ} {e : Expr} → IsSimple toks i j e → continues_prefix (slice_get toks j) ≡ false → expr_levels e ≤ left → ReadSimple toks left i e
read_simple {toks} {left} {i} {j} {e} d ends level =
    record { is = subst (λ (p : ℕ). IsSimple toks i p e) (sym (simple_to d)) d; ends = subst (λ (p : ℕ). continues_prefix (slice_get toks p) ≡ false) (sym (simple_to d)) ends; level = level }

pub read_args : {toks : List Tok} {left i j : ℕ} {a : Args} → IsArgs toks i j a → args_levels a ≤ left → ReadArgs toks left i a
read_args {toks} {left} {i} {j} {a} d level = record { is = subst (λ (p : ℕ). IsArgs toks i p a) (sym (args_to d)) d; ends = tt; level = level }

pub read_body : {toks : List Tok} {left i j : ℕ} {f : FuncBody} → IsFuncBody toks i j f → body_levels f ≤ left → ReadFuncBody toks left i f
read_body {toks} {left} {i} {j} {f} d level = record { is = subst (λ (p : ℕ). IsFuncBody toks i p f) (sym (body_to d)) d; ends = tt; level = level }

-- what a part needs that is one level deeper
pub enters : (left k : ℕ) → k + 1 ≤ left → (inner : ℕ) × (left ≡ inner + 1) × (k ≤ inner)
enters zero k h = absurd (omega arith)
enters (suc n) k h = (n, omega arith, omega arith)

-- The syntax of a part, by what a function reads of it.
use Rattle.std.proofs.Common.{◌≡◌, ◌∙◌, sym, ap, map}
use Rattle.luf_tree.specs.declared.tree.Expr.{Expr}
use Rattle.luf_tree.specs.declared.tree.Stat.{Stat}
use Rattle.luf_tree.specs.declared.tree.Block.{Block}
use Rattle.luf_tree.specs.declared.tree.Arm.{Arm}
use Rattle.luf_tree.specs.declared.tree.Args.{Args}
use Rattle.luf_tree.specs.declared.tree.Step.{Step}
use Rattle.luf_tree.specs.declared.tree.FuncBody.{FuncBody}
use Rattle.luf_tree.specs.declared.tree.StatKind.{StatKind}
use Rattle.luf_tree.specs.declared.tree.ExprKind.{ExprKind}
use Rattle.luf_tree.specs.declared.tree.ExprKind.TheViews.{out-Expr, out-Stat, out-Args, out-Block, out-Arm, out-Step, out-FuncBody, roll-out-Expr, roll-out-Stat, roll-out-Args, roll-out-Block, roll-out-Arm, roll-out-Step, roll-out-FuncBody}
use Rattle.luf_tree.specs.Syntax as syntax
use Rattle.luf_tree.specs.TokenSyntax.{from_to}
use Rattle.luf_tree.specs.SyntaxOf.{expressions_of, statements_of, syntax_of_expr, syntax_of_stat, syntax_of_block, syntax_of_arm, syntax_of_args, syntax_of_step, syntax_of_body}
use Rattle.luf_tree.specs.Grammar.{expression, statement}
use Rattle.luf_tree.proofs.SyntaxEquations as equations

pub expr_read : (e : Expr) (what : ExprKind) → (out-Expr e).what ≡ what → syntax_of_expr e ≡ syntax_of_expr (expression (out-Expr e).from (out-Expr e).to what)
expr_read e what is = ap syntax_of_expr (sym (roll-out-Expr e) ∙ ap (expression (out-Expr e).from (out-Expr e).to) is)

pub stat_read : (s : Stat) (what : StatKind) → (out-Stat s).what ≡ what → syntax_of_stat s ≡ syntax_of_stat (statement (out-Stat s).from (out-Stat s).to what)
stat_read s what is = ap syntax_of_stat (sym (roll-out-Stat s) ∙ ap (statement (out-Stat s).from (out-Stat s).to) is)

pub block_read : (b : Block) → syntax_of_block b ≡ syntax.block (from_to (out-Block b).from (out-Block b).to) (statements_of (map syntax_of_stat (out-Block b).stats))
block_read b = ap syntax_of_block (sym (roll-out-Block b)) ∙ equations.block_of_syntax (out-Block b).from (out-Block b).to (out-Block b).stats

pub arm_read : (a : Arm) → syntax_of_arm a ≡ syntax.arm (syntax_of_expr (out-Arm a).test) (syntax_of_block (out-Arm a).body)
arm_read a = ap syntax_of_arm (sym (roll-out-Arm a)) ∙ equations.arm_of_syntax (out-Arm a).test (out-Arm a).body

pub step_read : (s : Step) → syntax_of_step s ≡ syntax.operation (out-Step s).sign (syntax_of_expr (out-Step s).right)
step_read s = ap syntax_of_step (sym (roll-out-Step s)) ∙ equations.step_of_syntax (out-Step s).sign (out-Step s).right

pub args_read : (a : Args) → syntax_of_args a ≡ syntax.arguments (from_to (out-Args a).from (out-Args a).to) (out-Args a).parens (expressions_of (map syntax_of_expr (out-Args a).items))
args_read a = ap syntax_of_args (sym (roll-out-Args a)) ∙ equations.args_of_syntax (out-Args a).from (out-Args a).to (out-Args a).parens (out-Args a).items

pub body_read : (f : FuncBody) → syntax_of_body f ≡ syntax.function_body (from_to (out-FuncBody f).from (out-FuncBody f).to) (out-FuncBody f).params (out-FuncBody f).vararg (syntax_of_block (out-FuncBody f).body)
body_read f = ap syntax_of_body (sym (roll-out-FuncBody f)) ∙ equations.body_of_syntax (out-FuncBody f).from (out-FuncBody f).to (out-FuncBody f).params (out-FuncBody f).vararg (out-FuncBody f).body

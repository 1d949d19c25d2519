-- How many levels a part enters, by what a function reads of its fields, where lists of parts are among them.
use Rattle.std.proofs.Common.{◌≡◌, ℕ, ◌+◌, ◌∙◌, Option, List, map, max, ap, sym}
use Rattle.std.specs.Option.{option_map}
use Rattle.luf_tree.specs.declared.tree.Declared.{Declared}
use Rattle.luf_tree.specs.declared.tree.Arm.{Arm}
use Rattle.luf_tree.specs.declared.tree.Args.{Args}
use Rattle.luf_tree.specs.declared.tree.Block.{Block}
use Rattle.luf_tree.specs.declared.tree.Step.{Step}
use Rattle.luf_tree.specs.declared.tree.Stat.{Stat}
use Rattle.luf_tree.specs.declared.tree.Expr.{Expr}
use Rattle.luf_tree.specs.declared.tree.Field.{Field}
use Rattle.luf_tree.specs.declared.tree.Suffix.{Suffix}
use Rattle.luf_tree.specs.declared.tree.StatKind.{StatKind}
use Rattle.luf_tree.specs.declared.tree.StatKind.TheVariants as stat
use Rattle.luf_tree.specs.declared.tree.ExprKind.{ExprKind}
use Rattle.luf_tree.specs.declared.tree.ExprKind.TheVariants as expr
use Rattle.luf_tree.specs.declared.tree.ExprKind.TheViews.{out-Expr, out-Stat, out-Args, out-Block, roll-out-Expr, roll-out-Stat, roll-out-Args, roll-out-Block}
use Rattle.luf_tree.specs.Level.{deepest, block_if_there, expr_levels, block_levels, stat_levels, field_levels, suffix_levels, step_levels, arm_levels, args_levels}
use Rattle.luf_tree.specs.Grammar.{expression, statement}
use Rattle.luf_tree.proofs.LevelEquations as lv

expr_read : (e : Expr) (what : ExprKind) → (out-Expr e).what ≡ what → expr_levels e ≡ expr_levels (expression (out-Expr e).from (out-Expr e).to what)
expr_read e what is = ap expr_levels (sym (roll-out-Expr e) ∙ ap (expression (out-Expr e).from (out-Expr e).to) is)

stat_read : (s : Stat) (what : StatKind) → (out-Stat s).what ≡ what → stat_levels s ≡ stat_levels (statement (out-Stat s).from (out-Stat s).to what)
stat_read s what is = ap stat_levels (sym (roll-out-Stat s) ∙ ap (statement (out-Stat s).from (out-Stat s).to) is)

pub table_read : (e : Expr) (fields : List Field) → (out-Expr e).what ≡ expr.Table fields → expr_levels e ≡ deepest (map field_levels fields) + 1
table_read e fields is = expr_read e (expr.Table fields) is ∙ lv.table_levels (out-Expr e).from (out-Expr e).to fields

pub chain_read : (e : Expr) (first : Expr) (rest : List Step) → (out-Expr e).what ≡ expr.Chain first rest → expr_levels e ≡ max (expr_levels first) (deepest (map step_levels rest))
chain_read e first rest is = expr_read e (expr.Chain first rest) is ∙ lv.chain_levels (out-Expr e).from (out-Expr e).to first rest

pub suffixed_read : (e : Expr) (head : Expr) (suffixes : List Suffix) → (out-Expr e).what ≡ expr.Suffixed head suffixes → expr_levels e ≡ max (expr_levels head) (deepest (map suffix_levels suffixes))
suffixed_read e head suffixes is = expr_read e (expr.Suffixed head suffixes) is ∙ lv.head_suffixed_levels (out-Expr e).from (out-Expr e).to head suffixes

pub name_suffixed_read : (e : Expr) (suffixes : List Suffix) → (out-Expr e).what ≡ expr.NameSuffixed suffixes → expr_levels e ≡ max 0 (deepest (map suffix_levels suffixes))
name_suffixed_read e suffixes is = expr_read e (expr.NameSuffixed suffixes) is ∙ lv.name_suffixed_levels (out-Expr e).from (out-Expr e).to suffixes

pub local_read : (s : Stat) (names : List Declared) (values : List Expr) → (out-Stat s).what ≡ stat.Local names values → stat_levels s ≡ deepest (map expr_levels values)
local_read s names values is = stat_read s (stat.Local names values) is ∙ lv.local_levels (out-Stat s).from (out-Stat s).to names values

pub assign_read : (s : Stat) (targets values : List Expr) → (out-Stat s).what ≡ stat.Assign targets values → stat_levels s ≡ max (deepest (map expr_levels targets)) (deepest (map expr_levels values))
assign_read s targets values is = stat_read s (stat.Assign targets values) is ∙ lv.assign_levels (out-Stat s).from (out-Stat s).to targets values

pub if_read : (s : Stat) (arms : List Arm) (last : Option Block) → (out-Stat s).what ≡ stat.If arms last → stat_levels s ≡ max (deepest (map arm_levels arms)) (block_if_there (option_map block_levels last))
if_read s arms last is = stat_read s (stat.If arms last) is ∙ lv.if_levels (out-Stat s).from (out-Stat s).to arms last

pub for_in_read : (s : Stat) (names : List ℕ) (values : List Expr) (body : Block) → (out-Stat s).what ≡ stat.ForIn names values body → stat_levels s ≡ max (deepest (map expr_levels values)) (block_levels body + 1)
for_in_read s names values body is = stat_read s (stat.ForIn names values body) is ∙ lv.for_in_levels (out-Stat s).from (out-Stat s).to names values body

pub return_read : (s : Stat) (values : List Expr) → (out-Stat s).what ≡ stat.Return values → stat_levels s ≡ deepest (map expr_levels values)
return_read s values is = stat_read s (stat.Return values) is ∙ lv.return_levels (out-Stat s).from (out-Stat s).to values

pub args_read : (a : Args) → args_levels a ≡ deepest (map expr_levels (out-Args a).items) + 1
args_read a = ap args_levels (sym (roll-out-Args a)) ∙ lv.args_of_levels (out-Args a).from (out-Args a).to (out-Args a).parens (out-Args a).items

pub block_read : (b : Block) → block_levels b ≡ deepest (map stat_levels (out-Block b).stats)
block_read b = ap block_levels (sym (roll-out-Block b)) ∙ lv.block_of_levels (out-Block b).from (out-Block b).to (out-Block b).stats

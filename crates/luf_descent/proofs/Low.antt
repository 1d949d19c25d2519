-- A part that enters no more levels than are left: each of its entries.
use Rattle.std.proofs.Common.{ℕ, ◌+◌, ◌≤◌, Option, List, map, arith}
use Rattle.std.specs.Prelude.{Contains}
use Rattle.std.specs.Option.{option_map}
use Rattle.luf_tree.specs.declared.tree.Block.{Block}
use Rattle.luf_tree.specs.declared.tree.Stat.{Stat}
use Rattle.luf_tree.specs.declared.tree.Arm.{Arm}
use Rattle.luf_tree.specs.declared.tree.Expr.{Expr}
use Rattle.luf_tree.specs.declared.tree.Step.{Step}
use Rattle.luf_tree.specs.declared.tree.Suffix.{Suffix}
use Rattle.luf_tree.specs.declared.tree.Field.{Field}
use Rattle.luf_tree.specs.SyntaxOf.{syntax_of_expr, syntax_of_block, syntax_of_stat, syntax_of_field, syntax_of_suffix, syntax_of_step, syntax_of_arm, expressions_of, operations_of, suffixes_of, fields_of, statements_of, arms_of, optional_expression_of, optional_block_of}
use Rattle.luf_tree.specs.Entry.{Entry}
use Rattle.luf_tree.specs.Level.{deepest, if_there, block_if_there, expr_levels, field_levels, suffix_levels, step_levels, stat_levels, arm_levels, block_levels}
use Rattle.luf_tree.proofs.LevelEquations as lv
use Rattle.luf_tree.proofs.EntryLevels.{reach_expression, reach_expressions, reach_operations, reach_suffixes, reach_fields, reach_statements, reach_arms, reach_block, reach_optional_expression, reach_optional_block}
use Rattle.luf_descent.specs.PartEntries.{expr_entries, exprs_entries, steps_entries, suffixes_entries, fields_entries, stats_entries, arms_entries, block_entries, step_entries, else_entries}
use Rattle.luf_descent.proofs.Completing.{low_levels}

-- each of these is of a level that is left
abbrev pub Low : ℕ → ℕ → List Entry → Type 0
Low level left es = (e : Entry) → Contains es e → e.level ≤ level + left

pub low_expr : {left : ℕ} (level : ℕ) (x : Expr) → expr_levels x ≤ left → Low level left (expr_entries level x)
low_expr level x le = low_levels (reach_expression level (syntax_of_expr x)) le

pub low_block : {left : ℕ} (level : ℕ) (b : Block) → block_levels b ≤ left → Low level left (block_entries level b)
low_block level b le = low_levels (reach_block level (syntax_of_block b)) le

pub low_exprs : {left : ℕ} (level : ℕ) (es : List Expr) → deepest (map expr_levels es) ≤ left → Low level left (exprs_entries level es)
low_exprs level es le = low_levels (reach_expressions level (expressions_of (map syntax_of_expr es))) (omega (arith, lv.exprs_deepest es))

pub low_steps : {left : ℕ} (level : ℕ) (steps : List Step) → deepest (map step_levels steps) ≤ left → Low level left (steps_entries level steps)
low_steps level steps le = low_levels (reach_operations level (operations_of (map syntax_of_step steps))) (omega (arith, lv.steps_deepest steps))

pub low_suffixes : {left : ℕ} (level : ℕ) (suffixes : List Suffix) → deepest (map suffix_levels suffixes) ≤ left → Low level left (suffixes_entries level suffixes)
low_suffixes level suffixes le = low_levels (reach_suffixes level (suffixes_of (map syntax_of_suffix suffixes))) (omega (arith, lv.suffixes_deepest suffixes))

pub low_fields : {left : ℕ} (level : ℕ) (fields : List Field) → deepest (map field_levels fields) ≤ left → Low level left (fields_entries level fields)
low_fields level fields le = low_levels (reach_fields level (fields_of (map syntax_of_field fields))) (omega (arith, lv.fields_deepest fields))

pub low_stats : {left : ℕ} (level : ℕ) (stats : List Stat) → deepest (map stat_levels stats) ≤ left → Low level left (stats_entries level stats)
low_stats level stats le = low_levels (reach_statements level (statements_of (map syntax_of_stat stats))) (omega (arith, lv.stats_deepest stats))

pub low_arms : {left : ℕ} (level : ℕ) (arms : List Arm) → deepest (map arm_levels arms) ≤ left → Low level left (arms_entries level arms)
low_arms level arms le = low_levels (reach_arms level (arms_of (map syntax_of_arm arms))) (omega (arith, lv.arms_deepest arms))

pub low_step : {left : ℕ} (level : ℕ) (step : Option Expr) → if_there (option_map expr_levels step) ≤ left → Low level left (step_entries level step)
low_step level step le = low_levels (reach_optional_expression level (optional_expression_of (option_map syntax_of_expr step))) (omega (arith, lv.expr_if_there step))

pub low_else : {left : ℕ} (level : ℕ) (last : Option Block) → block_if_there (option_map block_levels last) ≤ left → Low level left (else_entries level last)
low_else level last le = low_levels (reach_optional_block level (optional_block_of (option_map syntax_of_block last))) (omega (arith, lv.else_if_there last))

-- The entries of levels of each part, at a level.
use Rattle.std.specs.Prelude.{ℕ, Option, List, map}
use Rattle.std.specs.Option.{option_map}
use Rattle.luf_tree.specs.declared.tree.Block.{Block}
use Rattle.luf_tree.specs.declared.tree.Stat.{Stat}
use Rattle.luf_tree.specs.declared.tree.Arm.{Arm}
use Rattle.luf_tree.specs.declared.tree.FuncBody.{FuncBody}
use Rattle.luf_tree.specs.declared.tree.Expr.{Expr}
use Rattle.luf_tree.specs.declared.tree.Step.{Step}
use Rattle.luf_tree.specs.declared.tree.Suffix.{Suffix}
use Rattle.luf_tree.specs.declared.tree.Args.{Args}
use Rattle.luf_tree.specs.declared.tree.Field.{Field}
use Rattle.luf_tree.specs.SyntaxOf.{syntax_of_expr, syntax_of_block, syntax_of_stat, syntax_of_field, syntax_of_suffix, syntax_of_step, syntax_of_arm, syntax_of_args, syntax_of_body, expressions_of, operations_of, suffixes_of, fields_of, statements_of, arms_of, optional_expression_of, optional_block_of}
use Rattle.luf_tree.specs.Entry.{Entry, entries_of_expression, entries_of_optional_expression, entries_of_expressions, entries_of_operations, entries_of_suffix, entries_of_suffixes, entries_of_arguments, entries_of_field, entries_of_fields, entries_of_statement, entries_of_statements, entries_of_arm, entries_of_arms, entries_of_block, entries_of_optional_block, entries_of_function_body}

abbrev pub expr_entries : ℕ → Expr → List Entry
expr_entries level e = entries_of_expression level (syntax_of_expr e)

abbrev pub exprs_entries : ℕ → List Expr → List Entry
exprs_entries level es = entries_of_expressions level (expressions_of (map syntax_of_expr es))

abbrev pub steps_entries : ℕ → List Step → List Entry
steps_entries level steps = entries_of_operations level (operations_of (map syntax_of_step steps))

abbrev pub suffix_entries : ℕ → Suffix → List Entry
suffix_entries level s = entries_of_suffix level (syntax_of_suffix s)

abbrev pub suffixes_entries : ℕ → List Suffix → List Entry
suffixes_entries level suffixes = entries_of_suffixes level (suffixes_of (map syntax_of_suffix suffixes))

abbrev pub args_entries : ℕ → Args → List Entry
args_entries level a = entries_of_arguments level (syntax_of_args a)

abbrev pub field_entries : ℕ → Field → List Entry
field_entries level f = entries_of_field level (syntax_of_field f)

abbrev pub fields_entries : ℕ → List Field → List Entry
fields_entries level fields = entries_of_fields level (fields_of (map syntax_of_field fields))

abbrev pub body_entries : ℕ → FuncBody → List Entry
body_entries level f = entries_of_function_body level (syntax_of_body f)

abbrev pub block_entries : ℕ → Block → List Entry
block_entries level b = entries_of_block level (syntax_of_block b)

abbrev pub stat_entries : ℕ → Stat → List Entry
stat_entries level s = entries_of_statement level (syntax_of_stat s)

abbrev pub stats_entries : ℕ → List Stat → List Entry
stats_entries level stats = entries_of_statements level (statements_of (map syntax_of_stat stats))

abbrev pub arm_entries : ℕ → Arm → List Entry
arm_entries level a = entries_of_arm level (syntax_of_arm a)

abbrev pub arms_entries : ℕ → List Arm → List Entry
arms_entries level arms = entries_of_arms level (arms_of (map syntax_of_arm arms))

abbrev pub else_entries : ℕ → Option Block → List Entry
else_entries level last = entries_of_optional_block level (optional_block_of (option_map syntax_of_block last))

abbrev pub step_entries : ℕ → Option Expr → List Entry
step_entries level step = entries_of_optional_expression level (optional_expression_of (option_map syntax_of_expr step))

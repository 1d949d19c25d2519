use Rattle.std.proofs.Common.{drop, map}
use Rattle.luf_tree.specs.SyntaxOf.{expressions_of, operations_of, suffixes_of, fields_of, statements_of, arms_of, syntax_of_expr, syntax_of_field, syntax_of_suffix, syntax_of_step, syntax_of_stat, syntax_of_arm}
use Rattle.luf_bare.specs.Dropped.{dropped_expressions, dropped_operations, dropped_suffixes, dropped_fields, dropped_statements, dropped_arms}
use Rattle.luf_gaps.proofs.MarkLaws.{Leaves}
use Rattle.luf_gaps.proofs.dropped.+drops.Given as goal

abbrev pub invariant-of_stats-loop-s : goal.invariant-of_stats-loop-s
invariant-of_stats-loop-s l = Leaves (dropped_statements (statements_of (map syntax_of_stat l.stats))) (dropped_statements (statements_of (map syntax_of_stat (drop l.s-index l.stats)))) l.fn.mask l.mask

abbrev pub invariant-of_arms-loop-a : goal.invariant-of_arms-loop-a
invariant-of_arms-loop-a l = Leaves (dropped_arms (arms_of (map syntax_of_arm l.arms))) (dropped_arms (arms_of (map syntax_of_arm (drop l.a-index l.arms)))) l.fn.mask l.mask

abbrev pub invariant-of_exprs-loop-e : goal.invariant-of_exprs-loop-e
invariant-of_exprs-loop-e l = Leaves (dropped_expressions (expressions_of (map syntax_of_expr l.exprs))) (dropped_expressions (expressions_of (map syntax_of_expr (drop l.e-index l.exprs)))) l.fn.mask l.mask

abbrev pub invariant-of_steps-loop-s : goal.invariant-of_steps-loop-s
invariant-of_steps-loop-s l = Leaves (dropped_operations (operations_of (map syntax_of_step l.steps))) (dropped_operations (operations_of (map syntax_of_step (drop l.s-index l.steps)))) l.fn.mask l.mask

abbrev pub invariant-of_suffixes-loop-s : goal.invariant-of_suffixes-loop-s
invariant-of_suffixes-loop-s l = Leaves (dropped_suffixes (suffixes_of (map syntax_of_suffix l.suffixes))) (dropped_suffixes (suffixes_of (map syntax_of_suffix (drop l.s-index l.suffixes)))) l.fn.mask l.mask

abbrev pub invariant-of_fields-loop-f : goal.invariant-of_fields-loop-f
invariant-of_fields-loop-f l = Leaves (λ more. dropped_fields (fields_of (map syntax_of_field l.fields)) l.last more) (λ more. dropped_fields (fields_of (map syntax_of_field (drop l.f-index l.fields))) l.last more) l.fn.mask l.mask

use Rattle.std.proofs.Common.{◌≡◌, ◌++◌, map, drop}
use Rattle.std.specs.List.{count_by}
use Rattle.luf_tree.specs.SyntaxOf.{syntax_of_expr, syntax_of_field, syntax_of_suffix, syntax_of_step, syntax_of_stat, syntax_of_arm, expressions_of, operations_of, suffixes_of, fields_of, statements_of, arms_of}
use Rattle.luf_scope.specs.Occurrences.{occurrences_in_expressions, occurrences_in_targets, occurrences_in_operations, occurrences_in_suffixes, occurrences_in_fields, occurrences_in_statements, occurrences_in_arms}
use Rattle.luf_scope.specs.inner.Parts.{held_by, is_solid}
use Rattle.luf_scope.specs.inner.Kept.{kept}
use Rattle.luf_scope.proofs.reading.+reading.Given as goal

abbrev pub invariant-of_arms-loop-a : goal.invariant-of_arms-loop-a
invariant-of_arms-loop-a l = l.into.items ++ kept l.all (occurrences_in_arms (arms_of (map syntax_of_arm (drop l.a-index l.arms)))) ≡ l.fn.into.items ++ kept l.all (occurrences_in_arms (arms_of (map syntax_of_arm l.arms)))

abbrev pub invariant-of_exprs-loop-e : goal.invariant-of_exprs-loop-e
invariant-of_exprs-loop-e l = l.into.items ++ kept l.all (occurrences_in_expressions (expressions_of (map syntax_of_expr (drop l.e-index l.exprs)))) ≡ l.fn.into.items ++ kept l.all (occurrences_in_expressions (expressions_of (map syntax_of_expr l.exprs)))

abbrev pub invariant-of_targets-loop-e : goal.invariant-of_targets-loop-e
invariant-of_targets-loop-e l = l.into.items ++ kept l.all (occurrences_in_targets (expressions_of (map syntax_of_expr (drop l.e-index l.exprs)))) ≡ l.fn.into.items ++ kept l.all (occurrences_in_targets (expressions_of (map syntax_of_expr l.exprs)))

abbrev pub invariant-of_steps-loop-s : goal.invariant-of_steps-loop-s
invariant-of_steps-loop-s l = l.into.items ++ kept l.all (occurrences_in_operations (operations_of (map syntax_of_step (drop l.s-index l.steps)))) ≡ l.fn.into.items ++ kept l.all (occurrences_in_operations (operations_of (map syntax_of_step l.steps)))

abbrev pub invariant-of_suffixes-loop-s : goal.invariant-of_suffixes-loop-s
invariant-of_suffixes-loop-s l = l.into.items ++ kept l.all (occurrences_in_suffixes (suffixes_of (map syntax_of_suffix (drop l.s-index l.suffixes)))) ≡ l.fn.into.items ++ kept l.all (occurrences_in_suffixes (suffixes_of (map syntax_of_suffix l.suffixes)))

abbrev pub invariant-of_fields-loop-f : goal.invariant-of_fields-loop-f
invariant-of_fields-loop-f l = l.into.items ++ kept l.all (occurrences_in_fields (fields_of (map syntax_of_field (drop l.f-index l.fields)))) ≡ l.fn.into.items ++ kept l.all (occurrences_in_fields (fields_of (map syntax_of_field l.fields)))

abbrev pub invariant-of_stats-loop-s : goal.invariant-of_stats-loop-s
invariant-of_stats-loop-s l = record {
  solid : l.solid ≡ count_by is_solid (drop l.s-index l.stats);
  added : l.into.items ++ kept l.all (occurrences_in_statements (held_by l.holder) (statements_of (map syntax_of_stat (drop l.s-index l.stats)))) ≡ l.fn.into.items ++ kept l.all (occurrences_in_statements (held_by l.holder) (statements_of (map syntax_of_stat l.stats)));
}

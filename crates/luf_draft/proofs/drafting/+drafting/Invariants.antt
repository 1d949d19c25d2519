use Rattle.std.proofs.Common.{◌≡◌, ◌++◌, not, false, true, map, drop}
use Rattle.luf_lex.specs.Tokens.{toks_of}
use Rattle.luf_tree.specs.SyntaxOf.{syntax_of_expr, syntax_of_field, syntax_of_suffix, syntax_of_step, syntax_of_stat, syntax_of_arm, operations_of, suffixes_of, statements_of}
use Rattle.luf_quote.specs.Parens.{keeps_round_string, keeps_round_table}
use Rattle.luf_draft.specs.inner.Marks.{listed, comma_and, marks_in_expression, marks_in_field, marks_in_arm, marks_in_operations, marks_in_suffixes, marks_in_statements}
use Rattle.luf_draft.specs.inner.Runs.{comma_line, elseif_word}
use Rattle.luf_draft.proofs.drafting.+drafting.Given as goal

abbrev pub invariant-of_arms-loop-a : goal.invariant-of_arms-loop-a
invariant-of_arms-loop-a l = l.into.items ++ listed elseif_word (λ a. marks_in_arm (toks_of l.cut) (keeps_round_string l.calls) (keeps_round_table l.calls) (syntax_of_arm a)) l.first (drop l.a-index l.arms) ≡ l.fn.into.items ++ listed elseif_word (λ a. marks_in_arm (toks_of l.cut) (keeps_round_string l.calls) (keeps_round_table l.calls) (syntax_of_arm a)) true l.arms

abbrev pub invariant-of_exprs-loop-e : goal.invariant-of_exprs-loop-e
invariant-of_exprs-loop-e l = l.into.items ++ listed (comma_and l.gap) (λ e. marks_in_expression (toks_of l.cut) (keeps_round_string l.calls) (keeps_round_table l.calls) (syntax_of_expr e)) l.first (drop l.e-index l.exprs) ≡ l.fn.into.items ++ listed (comma_and l.gap) (λ e. marks_in_expression (toks_of l.cut) (keeps_round_string l.calls) (keeps_round_table l.calls) (syntax_of_expr e)) true l.exprs

abbrev pub invariant-of_fields-loop-f : goal.invariant-of_fields-loop-f
invariant-of_fields-loop-f l = l.into.items ++ listed comma_line (λ f. marks_in_field (toks_of l.cut) (keeps_round_string l.calls) (keeps_round_table l.calls) (syntax_of_field f)) l.first (drop l.f-index l.fields) ≡ l.fn.into.items ++ listed comma_line (λ f. marks_in_field (toks_of l.cut) (keeps_round_string l.calls) (keeps_round_table l.calls) (syntax_of_field f)) true l.fields

abbrev pub invariant-of_steps-loop-s : goal.invariant-of_steps-loop-s
invariant-of_steps-loop-s l = l.into.items ++ marks_in_operations (toks_of l.cut) (keeps_round_string l.calls) (keeps_round_table l.calls) (operations_of (map syntax_of_step (drop l.s-index l.steps))) ≡ l.fn.into.items ++ marks_in_operations (toks_of l.cut) (keeps_round_string l.calls) (keeps_round_table l.calls) (operations_of (map syntax_of_step l.steps))

abbrev pub invariant-of_suffixes-loop-s : goal.invariant-of_suffixes-loop-s
invariant-of_suffixes-loop-s l = l.into.items ++ marks_in_suffixes (toks_of l.cut) (keeps_round_string l.calls) (keeps_round_table l.calls) (suffixes_of (map syntax_of_suffix (drop l.s-index l.suffixes))) ≡ l.fn.into.items ++ marks_in_suffixes (toks_of l.cut) (keeps_round_string l.calls) (keeps_round_table l.calls) (suffixes_of (map syntax_of_suffix l.suffixes))

abbrev pub invariant-of_stats-loop-s : goal.invariant-of_stats-loop-s
invariant-of_stats-loop-s l = l.into.items ++ marks_in_statements (toks_of l.cut) (keeps_round_string l.calls) (keeps_round_table l.calls) (not l.first) (statements_of (map syntax_of_stat (drop l.s-index l.stats))) ≡ l.fn.into.items ++ marks_in_statements (toks_of l.cut) (keeps_round_string l.calls) (keeps_round_table l.calls) false (statements_of (map syntax_of_stat l.stats))

use Rattle.std.proofs.Common.{◌≡◌, ◌++◌, not, false, true, map, drop}
use Rattle.luf_lex.specs.Tokens.{toks_of}
use Rattle.luf_lex.specs.declared.token.Sign.TheVariants.{Comma}
use Rattle.luf_lex.specs.declared.token.Word.TheVariants.{ElseIf}
use Rattle.luf_tree.specs.SyntaxOf.{syntax_of_expr, syntax_of_field, syntax_of_suffix, syntax_of_step, syntax_of_stat, syntax_of_arm, operations_of, suffixes_of, statements_of}
use Rattle.luf_min.specs.declared.item.Item.TheVariants.{Word, Sign}
use Rattle.luf_min.specs.inner.Items.{items_in_expression, items_in_field, items_in_arm, items_in_operations, items_in_suffixes, items_in_statements}
use Rattle.luf_min.specs.inner.Listed.{listed}
use Rattle.luf_min.proofs.walk.+walk.Given as goal

abbrev pub invariant-of_arms-loop-a : goal.invariant-of_arms-loop-a
invariant-of_arms-loop-a l = l.into.items ++ listed (Word ElseIf) (λ a. items_in_arm (toks_of l.cut) (syntax_of_arm a)) l.first (drop l.a-index l.arms) ≡ l.fn.into.items ++ listed (Word ElseIf) (λ a. items_in_arm (toks_of l.cut) (syntax_of_arm a)) true l.arms

abbrev pub invariant-of_exprs-loop-e : goal.invariant-of_exprs-loop-e
invariant-of_exprs-loop-e l = l.into.items ++ listed (Sign Comma) (λ e. items_in_expression (toks_of l.cut) (syntax_of_expr e)) l.first (drop l.e-index l.exprs) ≡ l.fn.into.items ++ listed (Sign Comma) (λ e. items_in_expression (toks_of l.cut) (syntax_of_expr e)) true l.exprs

abbrev pub invariant-of_fields-loop-f : goal.invariant-of_fields-loop-f
invariant-of_fields-loop-f l = l.into.items ++ listed (Sign Comma) (λ f. items_in_field (toks_of l.cut) (syntax_of_field f)) l.first (drop l.f-index l.fields) ≡ l.fn.into.items ++ listed (Sign Comma) (λ f. items_in_field (toks_of l.cut) (syntax_of_field f)) true l.fields

abbrev pub invariant-of_steps-loop-s : goal.invariant-of_steps-loop-s
invariant-of_steps-loop-s l = l.into.items ++ items_in_operations (toks_of l.cut) (operations_of (map syntax_of_step (drop l.s-index l.steps))) ≡ l.fn.into.items ++ items_in_operations (toks_of l.cut) (operations_of (map syntax_of_step l.steps))

abbrev pub invariant-of_suffixes-loop-s : goal.invariant-of_suffixes-loop-s
invariant-of_suffixes-loop-s l = l.into.items ++ items_in_suffixes (toks_of l.cut) (suffixes_of (map syntax_of_suffix (drop l.s-index l.suffixes))) ≡ l.fn.into.items ++ items_in_suffixes (toks_of l.cut) (suffixes_of (map syntax_of_suffix l.suffixes))

abbrev pub invariant-of_stats-loop-s : goal.invariant-of_stats-loop-s
invariant-of_stats-loop-s l = l.into.items ++ items_in_statements (toks_of l.cut) (not l.first) (statements_of (map syntax_of_stat (drop l.s-index l.stats))) ≡ l.fn.into.items ++ items_in_statements (toks_of l.cut) false (statements_of (map syntax_of_stat l.stats))

use Rattle.std.proofs.Common.{false, map, refl, ap, ◌∙◌, arith}
use Rattle.luf_lex.specs.Tokens.{toks_of}
use Rattle.luf_tree.specs.declared.tree.ExprKind.TheViews.{out-Expr, out-Stat, out-Block, out-FuncBody, out-Args}
use Rattle.luf_tree.specs.TokenSyntax.{from_to}
use Rattle.luf_tree.specs.SyntaxOf.{expressions_of, operations_of, suffixes_of, statements_of, syntax_of_expr, syntax_of_field, syntax_of_suffix, syntax_of_step, syntax_of_stat, syntax_of_arm, syntax_of_block, syntax_of_body}
use Rattle.luf_tree.proofs.SyntaxEquations as eq
use Rattle.luf_quote.specs.Parens.{keeps_round_string, keeps_round_table}
use Rattle.luf_draft.specs.Form.{items_of}
use Rattle.luf_draft.specs.declared.mark.GapKind.TheVariants as kind
use Rattle.luf_draft.specs.inner.Marks.{comma_and, are_empty, marks_in_expression, marks_in_expressions, marks_in_values, marks_in_operation, marks_in_operations, marks_in_suffix, marks_in_suffixes, marks_in_arguments, marks_in_field, marks_in_function, marks_in_statement, marks_in_statements, marks_in_arm, marks_in_body}
use Rattle.luf_draft.specs.inner.Runs.{comma_line, elseif_word, body_opened, body_closed, parameters_before, local_opened, for_in_opened, function_opened}
use Rattle.luf_draft.specs.inner.Wholes.{key_marks, do_to_end, table_marks, return_marks}
use Rattle.luf_draft.specs.inner.Arguments.{shape_of, arguments_opened, arguments_gap, arguments_closed}
use Rattle.luf_draft.proofs.TreeReads.{expr_read, stat_read, block_read, arm_read, step_read, body_read, args_read}
use Rattle.luf_draft.proofs.Added.{ends, then, all_of, whole, whole_on, lent, lent_on, one_more, one_listed, all_listed}
use Rattle.luf_draft.proofs.ListedLaws.{exprs_are, fields_are, arms_are, local_is, function_is}
use Rattle.luf_draft.proofs.WholeLaws.{values_are, table_is, return_is, body_is, arguments_are}
use Rattle.luf_draft.proofs.StatementLaws.{one_guarded}
use Rattle.luf_draft.proofs.drafting.+drafting.Goals as goal

pub of_arms-loop-a-preserved : goal.of_arms-loop-a-preserved
of_arms-loop-a-preserved t c = one_listed elseif_word (λ a. marks_in_arm (toks_of c.args.cut.now) (keeps_round_string c.args.calls) (keeps_round_table c.args.calls) (syntax_of_arm a)) c.args.arms.now c.loop-a.a-index c.a-item.result c.loop-a.first _ _ _ _ c.loop-a-test.true c.a-item.is c.loop-a.invariant c.in_ok-separate_arms.ensures c.in_ok-of_arm.ensures

pub of_arms-returns : goal.of_arms-returns
of_arms-returns t c = whole_on _ _ _ _ (arms_are (toks_of c.args.cut.now) (keeps_round_string c.args.calls) (keeps_round_table c.args.calls) c.args.arms.now) (all_listed elseif_word (λ a. marks_in_arm (toks_of c.args.cut.now) (keeps_round_string c.args.calls) (keeps_round_table c.args.calls) (syntax_of_arm a)) c.loop-a.first c.args.arms.now c.loop-a.a-index _ _ (omega arith) c.loop-a.invariant)

pub of_exprs-loop-e-preserved : goal.of_exprs-loop-e-preserved
of_exprs-loop-e-preserved t c = one_listed (comma_and c.args.gap) (λ e. marks_in_expression (toks_of c.args.cut.now) (keeps_round_string c.args.calls) (keeps_round_table c.args.calls) (syntax_of_expr e)) c.args.exprs.now c.loop-e.e-index c.e-item.result c.loop-e.first _ _ _ _ c.loop-e-test.true c.e-item.is c.loop-e.invariant c.in_ok-separate_by_comma.ensures c.in_ok-of_expr.ensures

pub of_exprs-returns : goal.of_exprs-returns
of_exprs-returns t c = whole_on _ _ _ _ (exprs_are (toks_of c.args.cut.now) (keeps_round_string c.args.calls) (keeps_round_table c.args.calls) c.args.gap c.args.exprs.now) (all_listed (comma_and c.args.gap) (λ e. marks_in_expression (toks_of c.args.cut.now) (keeps_round_string c.args.calls) (keeps_round_table c.args.calls) (syntax_of_expr e)) c.loop-e.first c.args.exprs.now c.loop-e.e-index _ _ (omega arith) c.loop-e.invariant)

pub of_fields-loop-f-preserved : goal.of_fields-loop-f-preserved
of_fields-loop-f-preserved t c = one_listed comma_line (λ f. marks_in_field (toks_of c.args.cut.now) (keeps_round_string c.args.calls) (keeps_round_table c.args.calls) (syntax_of_field f)) c.args.fields.now c.loop-f.f-index c.f-item.result c.loop-f.first _ _ _ _ c.loop-f-test.true c.f-item.is c.loop-f.invariant c.in_ok-separate_fields.ensures c.in_ok-of_field.ensures

pub of_fields-returns : goal.of_fields-returns
of_fields-returns t c = whole_on _ _ _ _ (fields_are (toks_of c.args.cut.now) (keeps_round_string c.args.calls) (keeps_round_table c.args.calls) c.args.fields.now) (all_listed comma_line (λ f. marks_in_field (toks_of c.args.cut.now) (keeps_round_string c.args.calls) (keeps_round_table c.args.calls) (syntax_of_field f)) c.loop-f.first c.args.fields.now c.loop-f.f-index _ _ (omega arith) c.loop-f.invariant)

pub of_steps-loop-s-preserved : goal.of_steps-loop-s-preserved
of_steps-loop-s-preserved t c = one_more (λ xs. marks_in_operations (toks_of c.args.cut.now) (keeps_round_string c.args.calls) (keeps_round_table c.args.calls) (operations_of (map syntax_of_step xs))) c.args.steps.now c.loop-s.s-index c.s-item.result _ _ _ _ refl c.loop-s-test.true c.s-item.is c.loop-s.invariant c.in_ok-of_step.ensures

pub of_suffixes-loop-s-preserved : goal.of_suffixes-loop-s-preserved
of_suffixes-loop-s-preserved t c = one_more (λ xs. marks_in_suffixes (toks_of c.args.cut.now) (keeps_round_string c.args.calls) (keeps_round_table c.args.calls) (suffixes_of (map syntax_of_suffix xs))) c.args.suffixes.now c.loop-s.s-index c.s-item.result _ _ _ _ refl c.loop-s-test.true c.s-item.is c.loop-s.invariant c.in_ok-of_suffix.ensures

pub of_stats-loop-s-preserved : goal.of_stats-loop-s-preserved
of_stats-loop-s-preserved t c = one_guarded (toks_of c.args.cut.now) (keeps_round_string c.args.calls) (keeps_round_table c.args.calls) c.args.stats.now c.loop-s.s-index c.s-item.result c.loop-s.first _ _ _ _ _ c.loop-s-test.true c.s-item.is c.loop-s.invariant c.in_ok-add_guard.ensures c.in_ok-of_stat.ensures c.is_still_first-first.ensures

pub of_body-returns : goal.of_body-returns
of_body-returns t c = all_of _ _ _ _ _ (ap (marks_in_body (toks_of c.args.cut.now) (keeps_round_string c.args.calls) (keeps_round_table c.args.calls)) (block_read c.args.b.now) ∙ body_is (toks_of c.args.cut.now) (keeps_round_string c.args.calls) (keeps_round_table c.args.calls) (from_to (out-Block c.args.b.now).from (out-Block c.args.b.now).to) (statements_of (map syntax_of_stat (out-Block c.args.b.now).stats))) (then _ _ _ _ _ _ (lent_on body_opened (are_empty (statements_of (map syntax_of_stat (out-Block c.args.b.now).stats))) _ _ _ (c.are_empty-none.ensures ∙ ap (λ ss. are_empty (statements_of (map syntax_of_stat ss))) c.as_slice-stats.ensures) c.in_ok-open_body.ensures) (then _ _ _ _ _ _ (lent_on (λ ss. marks_in_statements (toks_of c.args.cut.now) (keeps_round_string c.args.calls) (keeps_round_table c.args.calls) false (statements_of (map syntax_of_stat ss))) ((out-Block c.args.b.now).stats) _ _ _ c.as_slice-stats.ensures c.in_ok-of_stats.ensures) (ends _ _ _ _ (lent body_closed (are_empty (statements_of (map syntax_of_stat (out-Block c.args.b.now).stats))) _ _ _ _ (c.are_empty-none.ensures ∙ ap (λ ss. are_empty (statements_of (map syntax_of_stat ss))) c.as_slice-stats.ensures) c.close_body.ensures))))

pub of_body_to_end-returns : goal.of_body_to_end-returns
of_body_to_end-returns t c = (then _ _ _ _ _ _ c.in_ok-of_body.ensures (ends _ _ _ _ c.add.ensures)).added

pub of_do-returns : goal.of_do-returns
of_do-returns t c = (then _ _ _ _ _ _ c.in_ok-add_space_word.ensures (then _ _ _ _ _ _ c.in_ok-of_body.ensures (ends _ _ _ _ c.close_word.ensures))).added

pub of_return-returns : goal.of_return-returns
of_return-returns t c = (then _ _ _ _ _ _ c.in_ok-open_return.ensures (then _ _ _ _ _ _ c.in_ok-of_exprs.ensures (ends _ _ _ _ c.close_return.ensures))).added

pub of_table-returns : goal.of_table-returns
of_table-returns t c = (then _ _ _ _ _ _ c.in_ok-open_table.ensures (then _ _ _ _ _ _ c.in_ok-of_fields.ensures (ends _ _ _ _ c.close_table.ensures))).added

pub of_key-returns : goal.of_key-returns
of_key-returns t c = (then _ _ _ _ _ _ c.in_ok-open_bracket.ensures (then _ _ _ _ _ _ c.in_ok-of_expr.ensures (ends _ _ _ _ c.close_bracket.ensures))).added

pub of_values-returns : goal.of_values-returns
of_values-returns t c = all_of _ _ _ _ _ (values_are (toks_of c.args.cut.now) (keeps_round_string c.args.calls) (keeps_round_table c.args.calls) c.args.values.now) (then _ _ _ _ _ _ c.in_ok-open_values.ensures (ends _ _ _ _ c.of_exprs.ensures))

pub of_arm-returns : goal.of_arm-returns
of_arm-returns t c = all_of _ _ _ _ _ (ap (marks_in_arm (toks_of c.args.cut.now) (keeps_round_string c.args.calls) (keeps_round_table c.args.calls)) (arm_read c.args.a.now)) (then _ _ _ _ _ _ c.in_ok-add.ensures (then _ _ _ _ _ _ c.in_ok-of_expr.ensures (then _ _ _ _ _ _ c.in_ok-add_space_word.ensures (ends _ _ _ _ c.of_body.ensures))))

pub of_step-returns : goal.of_step-returns
of_step-returns t c = all_of _ _ _ _ _ (ap (marks_in_operation (toks_of c.args.cut.now) (keeps_round_string c.args.calls) (keeps_round_table c.args.calls)) (step_read c.args.s.now)) (then _ _ _ _ _ _ c.in_ok-add_step_sign.ensures (ends _ _ _ _ c.of_expr.ensures))

pub of_function-returns : goal.of_function-returns
of_function-returns t c = all_of _ _ _ _ _ (ap (marks_in_function (toks_of c.args.cut.now) (keeps_round_string c.args.calls) (keeps_round_table c.args.calls)) (body_read c.args.f.now)) (then _ _ _ _ _ _ (lent_on (λ ns. parameters_before ns (out-FuncBody c.args.f.now).vararg) ((out-FuncBody c.args.f.now).params) _ _ _ c.as_slice.ensures c.in_ok-add_parameters.ensures) (ends _ _ _ _ c.of_body_to_end.ensures))

pub of_args-returns : goal.of_args-returns
of_args-returns t c = all_of _ _ _ _ _ (ap (marks_in_arguments (toks_of c.args.cut.now) (keeps_round_string c.args.calls) (keeps_round_table c.args.calls)) (args_read c.args.a.now) ∙ arguments_are (toks_of c.args.cut.now) (keeps_round_string c.args.calls) (keeps_round_table c.args.calls) (from_to (out-Args c.args.a.now).from (out-Args c.args.a.now).to) (out-Args c.args.a.now).parens (expressions_of (map syntax_of_expr (out-Args c.args.a.now).items))) (then _ _ _ _ _ _ (lent_on arguments_opened (shape_of (keeps_round_string c.args.calls) (keeps_round_table c.args.calls) (out-Args c.args.a.now).parens (items_of (expressions_of (map syntax_of_expr (out-Args c.args.a.now).items)))) _ _ _ (c.shape_for-shape.ensures ∙ ap (λ es. shape_of (keeps_round_string c.args.calls) (keeps_round_table c.args.calls) (out-Args c.args.a.now).parens (items_of (expressions_of (map syntax_of_expr es)))) c.as_slice-items.ensures) c.in_ok-open_arguments.ensures) (then _ _ _ _ _ _ (lent_on (λ es. marks_in_expressions (toks_of c.args.cut.now) (keeps_round_string c.args.calls) (keeps_round_table c.args.calls) (arguments_gap (shape_of (keeps_round_string c.args.calls) (keeps_round_table c.args.calls) (out-Args c.args.a.now).parens (items_of (expressions_of (map syntax_of_expr (out-Args c.args.a.now).items))))) (expressions_of (map syntax_of_expr es))) ((out-Args c.args.a.now).items) _ _ _ c.as_slice-items.ensures (lent_on (λ g. marks_in_expressions (toks_of c.args.cut.now) (keeps_round_string c.args.calls) (keeps_round_table c.args.calls) g (expressions_of (map syntax_of_expr c.as_slice-items.result.now))) (arguments_gap (shape_of (keeps_round_string c.args.calls) (keeps_round_table c.args.calls) (out-Args c.args.a.now).parens (items_of (expressions_of (map syntax_of_expr (out-Args c.args.a.now).items))))) _ _ _ (c.gap_in.ensures ∙ ap arguments_gap (c.shape_for-shape.ensures ∙ ap (λ es. shape_of (keeps_round_string c.args.calls) (keeps_round_table c.args.calls) (out-Args c.args.a.now).parens (items_of (expressions_of (map syntax_of_expr es)))) c.as_slice-items.ensures)) c.in_ok-of_exprs.ensures)) (ends _ _ _ _ (lent arguments_closed (shape_of (keeps_round_string c.args.calls) (keeps_round_table c.args.calls) (out-Args c.args.a.now).parens (items_of (expressions_of (map syntax_of_expr (out-Args c.args.a.now).items)))) _ _ _ _ (c.shape_for-shape.ensures ∙ ap (λ es. shape_of (keeps_round_string c.args.calls) (keeps_round_table c.args.calls) (out-Args c.args.a.now).parens (items_of (expressions_of (map syntax_of_expr es)))) c.as_slice-items.ensures) c.close_arguments.ensures))))

pub of_expr-returns-in_ok-of_expr-in-Paren : goal.of_expr-returns-in_ok-of_expr-in-Paren
of_expr-returns-in_ok-of_expr-in-Paren t c = all_of _ _ _ _ _ (ap (marks_in_expression (toks_of c.args.cut.now) (keeps_round_string c.args.calls) (keeps_round_table c.args.calls)) (expr_read c.args.e.now _ c.in-Paren.is ∙ eq.paren_syntax _ _ c.in-Paren.inner)) (then _ _ _ _ _ _ c.in_ok-open_paren-in-Paren.ensures (then _ _ _ _ _ _ (lent_on (λ x. marks_in_expression (toks_of c.args.cut.now) (keeps_round_string c.args.calls) (keeps_round_table c.args.calls) (syntax_of_expr x)) c.in-Paren.inner _ _ _ c.get.ensures c.in_ok-of_expr-in-Paren.ensures) (ends _ _ _ _ c.close_paren.ensures)))

pub of_expr-returns-in_ok-of_function-in-Function : goal.of_expr-returns-in_ok-of_function-in-Function
of_expr-returns-in_ok-of_function-in-Function t c = all_of _ _ _ _ _ (ap (marks_in_expression (toks_of c.args.cut.now) (keeps_round_string c.args.calls) (keeps_round_table c.args.calls)) (expr_read c.args.e.now _ c.in-Function.is ∙ eq.function_syntax _ _ c.in-Function.body)) (then _ _ _ _ _ _ c.in_ok-open_word-in-Function.ensures (then _ _ _ _ _ _ (lent_on (λ x. marks_in_function (toks_of c.args.cut.now) (keeps_round_string c.args.calls) (keeps_round_table c.args.calls) (syntax_of_body x)) c.in-Function.body _ _ _ c.get-in-Function.ensures c.in_ok-of_function-in-Function.ensures) (ends _ _ _ _ c.add-in-Function.ensures)))

pub of_expr-returns-in-Table : goal.of_expr-returns-in-Table
of_expr-returns-in-Table t c = whole _ _ _ _ _ (ap (marks_in_expression (toks_of c.args.cut.now) (keeps_round_string c.args.calls) (keeps_round_table c.args.calls)) (expr_read c.args.e.now _ c.in-Table.is ∙ eq.table_syntax _ _ c.in-Table.fields) ∙ table_is (toks_of c.args.cut.now) (keeps_round_string c.args.calls) (keeps_round_table c.args.calls) (from_to (out-Expr c.args.e.now).from (out-Expr c.args.e.now).to) c.in-Table.fields) (lent (table_marks (toks_of c.args.cut.now) (keeps_round_string c.args.calls) (keeps_round_table c.args.calls)) c.in-Table.fields _ _ _ _ c.as_slice.ensures c.of_table.ensures)

pub of_expr-returns-in_ok-of_expr-in-Unary : goal.of_expr-returns-in_ok-of_expr-in-Unary
of_expr-returns-in_ok-of_expr-in-Unary t c = all_of _ _ _ _ _ (ap (marks_in_expression (toks_of c.args.cut.now) (keeps_round_string c.args.calls) (keeps_round_table c.args.calls)) (expr_read c.args.e.now _ c.in-Unary.is ∙ eq.unary_syntax _ _ c.in-Unary.operand)) (then _ _ _ _ _ _ c.in_ok-open_unary-in-Unary.ensures (then _ _ _ _ _ _ (lent_on (λ x. marks_in_expression (toks_of c.args.cut.now) (keeps_round_string c.args.calls) (keeps_round_table c.args.calls) (syntax_of_expr x)) c.in-Unary.operand _ _ _ c.get-in-Unary.ensures c.in_ok-of_expr-in-Unary.ensures) (ends _ _ _ _ c.add-in-Unary.ensures)))

pub of_expr-returns-in_ok-of_steps-in-Chain : goal.of_expr-returns-in_ok-of_steps-in-Chain
of_expr-returns-in_ok-of_steps-in-Chain t c = all_of _ _ _ _ _ (ap (marks_in_expression (toks_of c.args.cut.now) (keeps_round_string c.args.calls) (keeps_round_table c.args.calls)) (expr_read c.args.e.now _ c.in-Chain.is ∙ eq.chain_syntax _ _ c.in-Chain.first c.in-Chain.rest)) (then _ _ _ _ _ _ c.in_ok-open_group-in-Chain.ensures (then _ _ _ _ _ _ (lent_on (λ x. marks_in_expression (toks_of c.args.cut.now) (keeps_round_string c.args.calls) (keeps_round_table c.args.calls) (syntax_of_expr x)) c.in-Chain.first _ _ _ c.get-in-Chain.ensures c.in_ok-of_expr-in-Chain.ensures) (then _ _ _ _ _ _ c.in_ok-open_nest-in-Chain.ensures (then _ _ _ _ _ _ (lent_on (λ xs. marks_in_operations (toks_of c.args.cut.now) (keeps_round_string c.args.calls) (keeps_round_table c.args.calls) (operations_of (map syntax_of_step xs))) c.in-Chain.rest _ _ _ c.as_slice-in-Chain.ensures c.in_ok-of_steps-in-Chain.ensures) (ends _ _ _ _ c.close_nested_group.ensures)))))

pub of_expr-returns-in_ok-of_expr-in-Power-2 : goal.of_expr-returns-in_ok-of_expr-in-Power-2
of_expr-returns-in_ok-of_expr-in-Power-2 t c = all_of _ _ _ _ _ (ap (marks_in_expression (toks_of c.args.cut.now) (keeps_round_string c.args.calls) (keeps_round_table c.args.calls)) (expr_read c.args.e.now _ c.in-Power.is ∙ eq.power_syntax _ _ c.in-Power.base c.in-Power.sign c.in-Power.exponent)) (then _ _ _ _ _ _ c.in_ok-add-in-Power.ensures (then _ _ _ _ _ _ (lent_on (λ x. marks_in_expression (toks_of c.args.cut.now) (keeps_round_string c.args.calls) (keeps_round_table c.args.calls) (syntax_of_expr x)) c.in-Power.base _ _ _ c.get-in-Power.ensures c.in_ok-of_expr-in-Power.ensures) (then _ _ _ _ _ _ c.in_ok-add_power_sign-in-Power.ensures (then _ _ _ _ _ _ (lent_on (λ x. marks_in_expression (toks_of c.args.cut.now) (keeps_round_string c.args.calls) (keeps_round_table c.args.calls) (syntax_of_expr x)) c.in-Power.exponent _ _ _ c.get-in-Power-2.ensures c.in_ok-of_expr-in-Power-2.ensures) (ends _ _ _ _ c.add-in-Power-2.ensures)))))

pub of_expr-returns-in_ok-of_suffixes-in-Suffixed : goal.of_expr-returns-in_ok-of_suffixes-in-Suffixed
of_expr-returns-in_ok-of_suffixes-in-Suffixed t c = all_of _ _ _ _ _ (ap (marks_in_expression (toks_of c.args.cut.now) (keeps_round_string c.args.calls) (keeps_round_table c.args.calls)) (expr_read c.args.e.now _ c.in-Suffixed.is ∙ eq.head_suffixed_syntax _ _ c.in-Suffixed.head c.in-Suffixed.suffixes)) (then _ _ _ _ _ _ c.in_ok-add-in-Suffixed.ensures (then _ _ _ _ _ _ (lent_on (λ x. marks_in_expression (toks_of c.args.cut.now) (keeps_round_string c.args.calls) (keeps_round_table c.args.calls) (syntax_of_expr x)) c.in-Suffixed.head _ _ _ c.get-in-Suffixed.ensures c.in_ok-of_expr-in-Suffixed.ensures) (then _ _ _ _ _ _ (lent_on (λ xs. marks_in_suffixes (toks_of c.args.cut.now) (keeps_round_string c.args.calls) (keeps_round_table c.args.calls) (suffixes_of (map syntax_of_suffix xs))) c.in-Suffixed.suffixes _ _ _ c.as_slice-in-Suffixed.ensures c.in_ok-of_suffixes-in-Suffixed.ensures) (ends _ _ _ _ c.add-in-Suffixed-2.ensures))))

pub of_suffix-returns-in-Dot : goal.of_suffix-returns-in-Dot
of_suffix-returns-in-Dot t c = whole _ _ _ _ _ (ap (λ s. marks_in_suffix (toks_of c.args.cut.now) (keeps_round_string c.args.calls) (keeps_round_table c.args.calls) (syntax_of_suffix s)) c.in-Dot.is ∙ ap (marks_in_suffix (toks_of c.args.cut.now) (keeps_round_string c.args.calls) (keeps_round_table c.args.calls)) (eq.dot_syntax c.in-Dot.name)) c.add_dot.ensures

pub of_suffix-returns-in_ok-add-in-Index : goal.of_suffix-returns-in_ok-add-in-Index
of_suffix-returns-in_ok-add-in-Index t c = all_of _ _ _ _ _ (ap (λ s. marks_in_suffix (toks_of c.args.cut.now) (keeps_round_string c.args.calls) (keeps_round_table c.args.calls) (syntax_of_suffix s)) c.in-Index.is ∙ ap (marks_in_suffix (toks_of c.args.cut.now) (keeps_round_string c.args.calls) (keeps_round_table c.args.calls)) (eq.index_syntax c.in-Index.index)) (then _ _ _ _ _ _ c.in_ok-add-in-Index.ensures (ends _ _ _ _ (lent (λ x. key_marks (toks_of c.args.cut.now) (keeps_round_string c.args.calls) (keeps_round_table c.args.calls) (syntax_of_expr x)) c.in-Index.index _ _ _ _ c.get.ensures c.of_key.ensures)))

pub of_suffix-returns-in-Call : goal.of_suffix-returns-in-Call
of_suffix-returns-in-Call t c = whole _ _ _ _ _ (ap (λ s. marks_in_suffix (toks_of c.args.cut.now) (keeps_round_string c.args.calls) (keeps_round_table c.args.calls) (syntax_of_suffix s)) c.in-Call.is ∙ ap (marks_in_suffix (toks_of c.args.cut.now) (keeps_round_string c.args.calls) (keeps_round_table c.args.calls)) (eq.call_suffix_syntax c.in-Call.args)) c.of_args.ensures

pub of_suffix-returns-in_ok-add_method-in-Method : goal.of_suffix-returns-in_ok-add_method-in-Method
of_suffix-returns-in_ok-add_method-in-Method t c = all_of _ _ _ _ _ (ap (λ s. marks_in_suffix (toks_of c.args.cut.now) (keeps_round_string c.args.calls) (keeps_round_table c.args.calls) (syntax_of_suffix s)) c.in-Method.is ∙ ap (marks_in_suffix (toks_of c.args.cut.now) (keeps_round_string c.args.calls) (keeps_round_table c.args.calls)) (eq.method_syntax c.in-Method.name c.in-Method.args)) (then _ _ _ _ _ _ c.in_ok-add_method-in-Method.ensures (ends _ _ _ _ c.of_args-in-Method.ensures))

pub of_field-returns-in_ok-add_named-in-Named : goal.of_field-returns-in_ok-add_named-in-Named
of_field-returns-in_ok-add_named-in-Named t c = all_of _ _ _ _ _ (ap (λ f. marks_in_field (toks_of c.args.cut.now) (keeps_round_string c.args.calls) (keeps_round_table c.args.calls) (syntax_of_field f)) c.in-Named.is ∙ ap (marks_in_field (toks_of c.args.cut.now) (keeps_round_string c.args.calls) (keeps_round_table c.args.calls)) (eq.named_syntax c.in-Named.name c.in-Named.value)) (then _ _ _ _ _ _ c.in_ok-add_named-in-Named.ensures (ends _ _ _ _ c.of_expr-in-Named.ensures))

pub of_field-returns-in_ok-add_equals-in-Keyed : goal.of_field-returns-in_ok-add_equals-in-Keyed
of_field-returns-in_ok-add_equals-in-Keyed t c = all_of _ _ _ _ _ (ap (λ f. marks_in_field (toks_of c.args.cut.now) (keeps_round_string c.args.calls) (keeps_round_table c.args.calls) (syntax_of_field f)) c.in-Keyed.is ∙ ap (marks_in_field (toks_of c.args.cut.now) (keeps_round_string c.args.calls) (keeps_round_table c.args.calls)) (eq.keyed_syntax c.in-Keyed.key c.in-Keyed.value)) (then _ _ _ _ _ _ (lent_on (λ x. key_marks (toks_of c.args.cut.now) (keeps_round_string c.args.calls) (keeps_round_table c.args.calls) (syntax_of_expr x)) c.in-Keyed.key _ _ _ c.get.ensures c.in_ok-of_key-in-Keyed.ensures) (then _ _ _ _ _ _ c.in_ok-add_equals-in-Keyed.ensures (ends _ _ _ _ c.of_expr-in-Keyed.ensures)))

pub of_stat-returns-in_ok-of_values-in-Local : goal.of_stat-returns-in_ok-of_values-in-Local
of_stat-returns-in_ok-of_values-in-Local t c = all_of _ _ _ _ _ (ap (marks_in_statement (toks_of c.args.cut.now) (keeps_round_string c.args.calls) (keeps_round_table c.args.calls)) (stat_read c.args.s.now _ c.in-Local.is ∙ eq.local_syntax _ _ c.in-Local.names c.in-Local.values) ∙ local_is (toks_of c.args.cut.now) (keeps_round_string c.args.calls) (keeps_round_table c.args.calls) (from_to (out-Stat c.args.s.now).from (out-Stat c.args.s.now).to) c.in-Local.names (expressions_of (map syntax_of_expr c.in-Local.values))) (then _ _ _ _ _ _ (lent_on local_opened c.in-Local.names _ _ _ c.as_slice.ensures c.in_ok-open_local-in-Local.ensures) (then _ _ _ _ _ _ (lent_on (λ xs. marks_in_values (toks_of c.args.cut.now) (keeps_round_string c.args.calls) (keeps_round_table c.args.calls) (expressions_of (map syntax_of_expr xs))) c.in-Local.values _ _ _ c.as_slice-in-Local.ensures c.in_ok-of_values-in-Local.ensures) (ends _ _ _ _ c.add.ensures)))

pub of_stat-returns-in_ok-of_values-in-Assign : goal.of_stat-returns-in_ok-of_values-in-Assign
of_stat-returns-in_ok-of_values-in-Assign t c = all_of _ _ _ _ _ (ap (marks_in_statement (toks_of c.args.cut.now) (keeps_round_string c.args.calls) (keeps_round_table c.args.calls)) (stat_read c.args.s.now _ c.in-Assign.is ∙ eq.assign_syntax _ _ c.in-Assign.targets c.in-Assign.values)) (then _ _ _ _ _ _ c.in_ok-add-in-Assign.ensures (then _ _ _ _ _ _ (lent_on (λ xs. marks_in_expressions (toks_of c.args.cut.now) (keeps_round_string c.args.calls) (keeps_round_table c.args.calls) kind.Space (expressions_of (map syntax_of_expr xs))) c.in-Assign.targets _ _ _ c.as_slice-in-Assign.ensures c.in_ok-of_exprs-in-Assign.ensures) (then _ _ _ _ _ _ (lent_on (λ xs. marks_in_values (toks_of c.args.cut.now) (keeps_round_string c.args.calls) (keeps_round_table c.args.calls) (expressions_of (map syntax_of_expr xs))) c.in-Assign.values _ _ _ c.as_slice-in-Assign-2.ensures c.in_ok-of_values-in-Assign.ensures) (ends _ _ _ _ c.add-in-Assign-2.ensures))))

pub of_stat-returns-in-Call : goal.of_stat-returns-in-Call
of_stat-returns-in-Call t c = whole _ _ _ _ _ (ap (marks_in_statement (toks_of c.args.cut.now) (keeps_round_string c.args.calls) (keeps_round_table c.args.calls)) (stat_read c.args.s.now _ c.in-Call.is ∙ eq.call_syntax _ _ c.in-Call.call)) c.of_expr.ensures

pub of_stat-returns-in_ok-of_body-in-Do : goal.of_stat-returns-in_ok-of_body-in-Do
of_stat-returns-in_ok-of_body-in-Do t c = all_of _ _ _ _ _ (ap (marks_in_statement (toks_of c.args.cut.now) (keeps_round_string c.args.calls) (keeps_round_table c.args.calls)) (stat_read c.args.s.now _ c.in-Do.is ∙ eq.do_syntax _ _ c.in-Do.body)) (then _ _ _ _ _ _ c.in_ok-open_word-in-Do.ensures (then _ _ _ _ _ _ (lent_on (λ x. marks_in_body (toks_of c.args.cut.now) (keeps_round_string c.args.calls) (keeps_round_table c.args.calls) (syntax_of_block x)) c.in-Do.body _ _ _ c.get.ensures c.in_ok-of_body-in-Do.ensures) (ends _ _ _ _ c.close_word.ensures)))

pub of_stat-returns-in_ok-of_expr-in-While : goal.of_stat-returns-in_ok-of_expr-in-While
of_stat-returns-in_ok-of_expr-in-While t c = all_of _ _ _ _ _ (ap (marks_in_statement (toks_of c.args.cut.now) (keeps_round_string c.args.calls) (keeps_round_table c.args.calls)) (stat_read c.args.s.now _ c.in-While.is ∙ eq.while_syntax _ _ c.in-While.test c.in-While.body)) (then _ _ _ _ _ _ c.in_ok-open_spaced-in-While.ensures (then _ _ _ _ _ _ (lent_on (λ x. marks_in_expression (toks_of c.args.cut.now) (keeps_round_string c.args.calls) (keeps_round_table c.args.calls) (syntax_of_expr x)) c.in-While.test _ _ _ c.get-in-While.ensures c.in_ok-of_expr-in-While.ensures) (ends _ _ _ _ (lent (λ x. do_to_end (toks_of c.args.cut.now) (keeps_round_string c.args.calls) (keeps_round_table c.args.calls) (syntax_of_block x)) c.in-While.body _ _ _ _ c.get-in-While-2.ensures c.of_do.ensures))))

pub of_stat-returns-in_ok-of_expr-in-Repeat : goal.of_stat-returns-in_ok-of_expr-in-Repeat
of_stat-returns-in_ok-of_expr-in-Repeat t c = all_of _ _ _ _ _ (ap (marks_in_statement (toks_of c.args.cut.now) (keeps_round_string c.args.calls) (keeps_round_table c.args.calls)) (stat_read c.args.s.now _ c.in-Repeat.is ∙ eq.repeat_syntax _ _ c.in-Repeat.body c.in-Repeat.test)) (then _ _ _ _ _ _ c.in_ok-open_word-in-Repeat.ensures (then _ _ _ _ _ _ c.in_ok-of_body-in-Repeat.ensures (then _ _ _ _ _ _ c.in_ok-add_word_space-in-Repeat.ensures (then _ _ _ _ _ _ (lent_on (λ x. marks_in_expression (toks_of c.args.cut.now) (keeps_round_string c.args.calls) (keeps_round_table c.args.calls) (syntax_of_expr x)) c.in-Repeat.test _ _ _ c.get-in-Repeat.ensures c.in_ok-of_expr-in-Repeat.ensures) (ends _ _ _ _ c.add-in-Repeat.ensures)))))

pub of_stat-returns-in_ok-of_exprs-in-ForIn : goal.of_stat-returns-in_ok-of_exprs-in-ForIn
of_stat-returns-in_ok-of_exprs-in-ForIn t c = all_of _ _ _ _ _ (ap (marks_in_statement (toks_of c.args.cut.now) (keeps_round_string c.args.calls) (keeps_round_table c.args.calls)) (stat_read c.args.s.now _ c.in-ForIn.is ∙ eq.for_in_syntax _ _ c.in-ForIn.names c.in-ForIn.values c.in-ForIn.body)) (then _ _ _ _ _ _ (lent_on for_in_opened c.in-ForIn.names _ _ _ (c.as_slice-in-ForIn.ensures ∙ c.get-in-ForIn.ensures) c.in_ok-open_for_in-in-ForIn.ensures) (then _ _ _ _ _ _ c.in_ok-add_between-in-ForIn.ensures (then _ _ _ _ _ _ (lent_on (λ xs. marks_in_expressions (toks_of c.args.cut.now) (keeps_round_string c.args.calls) (keeps_round_table c.args.calls) kind.Space (expressions_of (map syntax_of_expr xs))) c.in-ForIn.values _ _ _ c.as_slice-in-ForIn-2.ensures c.in_ok-of_exprs-in-ForIn.ensures) (ends _ _ _ _ (lent (λ x. do_to_end (toks_of c.args.cut.now) (keeps_round_string c.args.calls) (keeps_round_table c.args.calls) (syntax_of_block x)) c.in-ForIn.body _ _ _ _ c.get-in-ForIn-2.ensures c.of_do-in-ForIn.ensures)))))

pub of_stat-returns-in_ok-of_function-in-Function : goal.of_stat-returns-in_ok-of_function-in-Function
of_stat-returns-in_ok-of_function-in-Function t c = all_of _ _ _ _ _ (ap (marks_in_statement (toks_of c.args.cut.now) (keeps_round_string c.args.calls) (keeps_round_table c.args.calls)) (stat_read c.args.s.now _ c.in-Function.is ∙ eq.function_stat_syntax _ _ c.in-Function.path c.in-Function.method c.in-Function.body) ∙ function_is (toks_of c.args.cut.now) (keeps_round_string c.args.calls) (keeps_round_table c.args.calls) (from_to (out-Stat c.args.s.now).from (out-Stat c.args.s.now).to) c.in-Function.path c.in-Function.method (syntax_of_body c.in-Function.body)) (then _ _ _ _ _ _ (lent_on function_opened c.in-Function.path _ _ _ c.as_slice-in-Function.ensures c.in_ok-open_function-in-Function.ensures) (then _ _ _ _ _ _ c.in_ok-add_method-in-Function.ensures (then _ _ _ _ _ _ (lent_on (λ x. marks_in_function (toks_of c.args.cut.now) (keeps_round_string c.args.calls) (keeps_round_table c.args.calls) (syntax_of_body x)) c.in-Function.body _ _ _ c.get-in-Function.ensures c.in_ok-of_function-in-Function.ensures) (ends _ _ _ _ c.add-in-Function.ensures))))

pub of_stat-returns-in_ok-of_function-in-LocalFunction : goal.of_stat-returns-in_ok-of_function-in-LocalFunction
of_stat-returns-in_ok-of_function-in-LocalFunction t c = all_of _ _ _ _ _ (ap (marks_in_statement (toks_of c.args.cut.now) (keeps_round_string c.args.calls) (keeps_round_table c.args.calls)) (stat_read c.args.s.now _ c.in-LocalFunction.is ∙ eq.local_function_syntax _ _ c.in-LocalFunction.name c.in-LocalFunction.body)) (then _ _ _ _ _ _ c.in_ok-open_local_function-in-LocalFunction.ensures (then _ _ _ _ _ _ (lent_on (λ x. marks_in_function (toks_of c.args.cut.now) (keeps_round_string c.args.calls) (keeps_round_table c.args.calls) (syntax_of_body x)) c.in-LocalFunction.body _ _ _ c.get-in-LocalFunction.ensures c.in_ok-of_function-in-LocalFunction.ensures) (ends _ _ _ _ c.add-in-LocalFunction.ensures)))

pub of_stat-returns-in-Return : goal.of_stat-returns-in-Return
of_stat-returns-in-Return t c = whole _ _ _ _ _ (ap (marks_in_statement (toks_of c.args.cut.now) (keeps_round_string c.args.calls) (keeps_round_table c.args.calls)) (stat_read c.args.s.now _ c.in-Return.is ∙ eq.return_syntax _ _ c.in-Return.values) ∙ return_is (toks_of c.args.cut.now) (keeps_round_string c.args.calls) (keeps_round_table c.args.calls) (from_to (out-Stat c.args.s.now).from (out-Stat c.args.s.now).to) c.in-Return.values) (lent (return_marks (toks_of c.args.cut.now) (keeps_round_string c.args.calls) (keeps_round_table c.args.calls)) c.in-Return.values _ _ _ _ c.as_slice-in-Return.ensures c.of_return.ensures)

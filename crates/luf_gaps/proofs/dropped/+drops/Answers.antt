use Rattle.std.proofs.Common.{map, refl, ap, ◌+◌, ◌∙◌, arith}
use Rattle.luf_tree.specs.declared.tree.ExprKind.TheViews.{out-Stat, out-Args}
use Rattle.luf_tree.specs.SyntaxOf.{expressions_of, operations_of, suffixes_of, fields_of, statements_of, arms_of, syntax_of_expr, syntax_of_field, syntax_of_suffix, syntax_of_step, syntax_of_stat, syntax_of_arm, syntax_of_block, syntax_of_body}
use Rattle.luf_tree.proofs.SyntaxEquations as eq
use Rattle.luf_bare.specs.Dropped.{between, end_of_expressions, dropped_expression, dropped_expressions, dropped_operation, dropped_operations, dropped_suffix, dropped_suffixes, dropped_arguments, dropped_field, dropped_fields, dropped_statement, dropped_statements, dropped_arm, dropped_arms, dropped_block, dropped_body}
use Rattle.luf_gaps.proofs.TreeReads.{expr_read, stat_read, block_read, arm_read, args_read, step_read, body_read}
use Rattle.luf_gaps.proofs.MarkLaws.{nothing, then, same, lent, one_more, all_done, args_marked}
use Rattle.luf_gaps.proofs.dropped.+drops.Goals as goal

pub of_stats-loop-s-preserved : goal.of_stats-loop-s-preserved
of_stats-loop-s-preserved t c = one_more (λ xs. dropped_statements (statements_of (map syntax_of_stat xs))) c.args.stats.now c.loop-s.s-index c.s-item.result (λ more. refl) c.loop-s-test.true c.s-item.is c.loop-s.invariant c.of_stat.ensures

pub of_stats-returns : goal.of_stats-returns
of_stats-returns t c = all_done (λ xs. dropped_statements (statements_of (map syntax_of_stat xs))) c.args.stats.now c.loop-s.s-index (λ more. refl) (omega arith) c.loop-s.invariant

pub of_arms-loop-a-preserved : goal.of_arms-loop-a-preserved
of_arms-loop-a-preserved t c = one_more (λ xs. dropped_arms (arms_of (map syntax_of_arm xs))) c.args.arms.now c.loop-a.a-index c.a-item.result (λ more. refl) c.loop-a-test.true c.a-item.is c.loop-a.invariant c.of_arm.ensures

pub of_arms-returns : goal.of_arms-returns
of_arms-returns t c = all_done (λ xs. dropped_arms (arms_of (map syntax_of_arm xs))) c.args.arms.now c.loop-a.a-index (λ more. refl) (omega arith) c.loop-a.invariant

pub of_exprs-loop-e-preserved : goal.of_exprs-loop-e-preserved
of_exprs-loop-e-preserved t c = one_more (λ xs. dropped_expressions (expressions_of (map syntax_of_expr xs))) c.args.exprs.now c.loop-e.e-index c.e-item.result (λ more. refl) c.loop-e-test.true c.e-item.is c.loop-e.invariant c.of_expr.ensures

pub of_exprs-returns : goal.of_exprs-returns
of_exprs-returns t c = all_done (λ xs. dropped_expressions (expressions_of (map syntax_of_expr xs))) c.args.exprs.now c.loop-e.e-index (λ more. refl) (omega arith) c.loop-e.invariant

pub of_steps-loop-s-preserved : goal.of_steps-loop-s-preserved
of_steps-loop-s-preserved t c = one_more (λ xs. dropped_operations (operations_of (map syntax_of_step xs))) c.args.steps.now c.loop-s.s-index c.s-item.result (λ more. refl) c.loop-s-test.true c.s-item.is c.loop-s.invariant c.of_step.ensures

pub of_steps-returns : goal.of_steps-returns
of_steps-returns t c = all_done (λ xs. dropped_operations (operations_of (map syntax_of_step xs))) c.args.steps.now c.loop-s.s-index (λ more. refl) (omega arith) c.loop-s.invariant

pub of_suffixes-loop-s-preserved : goal.of_suffixes-loop-s-preserved
of_suffixes-loop-s-preserved t c = one_more (λ xs. dropped_suffixes (suffixes_of (map syntax_of_suffix xs))) c.args.suffixes.now c.loop-s.s-index c.s-item.result (λ more. refl) c.loop-s-test.true c.s-item.is c.loop-s.invariant c.of_suffix.ensures

pub of_suffixes-returns : goal.of_suffixes-returns
of_suffixes-returns t c = all_done (λ xs. dropped_suffixes (suffixes_of (map syntax_of_suffix xs))) c.args.suffixes.now c.loop-s.s-index (λ more. refl) (omega arith) c.loop-s.invariant

pub of_fields-loop-f-preserved : goal.of_fields-loop-f-preserved
of_fields-loop-f-preserved t c = one_more (λ xs more. dropped_fields (fields_of (map syntax_of_field xs)) c.args.last more) c.args.fields.now c.loop-f.f-index c.f-item.result (λ more. refl) c.loop-f-test.true c.f-item.is c.loop-f.invariant (then c.of_field.ensures (lent (λ place. between place c.args.last) c.end_of_field.ensures c.mark_between.ensures))

pub of_fields-returns : goal.of_fields-returns
of_fields-returns t c = all_done (λ xs more. dropped_fields (fields_of (map syntax_of_field xs)) c.args.last more) c.args.fields.now c.loop-f.f-index (λ more. refl) (omega arith) c.loop-f.invariant

pub of_block-returns : goal.of_block-returns
of_block-returns t c = same dropped_block (block_read c.args.b.now) (lent (λ xs. dropped_statements (statements_of (map syntax_of_stat xs))) c.as_slice.ensures c.of_stats.ensures)

pub of_arm-returns : goal.of_arm-returns
of_arm-returns t c = same dropped_arm (arm_read c.args.a.now) (then c.of_expr.ensures c.of_block.ensures)

pub of_body-returns : goal.of_body-returns
of_body-returns t c = same dropped_body (body_read c.args.f.now) c.of_block.ensures

pub of_step-returns : goal.of_step-returns
of_step-returns t c = same dropped_operation (step_read c.args.s.now) c.of_expr.ensures

pub of_stat-returns-in-Empty : goal.of_stat-returns-in-Empty
of_stat-returns-in-Empty t c = same dropped_statement (stat_read c.args.s.now _ c.in-Empty.is ∙ eq.empty_syntax _ _) c.mark.ensures

pub of_stat-returns-in-Local : goal.of_stat-returns-in-Local
of_stat-returns-in-Local t c = same dropped_statement (stat_read c.args.s.now _ c.in-Local.is ∙ eq.local_syntax _ _ c.in-Local.names c.in-Local.values) (lent (λ es. dropped_expressions (expressions_of (map syntax_of_expr es))) c.as_slice.ensures c.of_exprs.ensures)

pub of_stat-returns-in-Assign : goal.of_stat-returns-in-Assign
of_stat-returns-in-Assign t c = same dropped_statement (stat_read c.args.s.now _ c.in-Assign.is ∙ eq.assign_syntax _ _ c.in-Assign.targets c.in-Assign.values) (then (lent (λ es. dropped_expressions (expressions_of (map syntax_of_expr es))) c.as_slice-in-Assign.ensures c.of_exprs-in-Assign.ensures) (lent (λ es. dropped_expressions (expressions_of (map syntax_of_expr es))) c.as_slice-in-Assign-2.ensures c.of_exprs-in-Assign-2.ensures))

pub of_stat-returns-in-Call : goal.of_stat-returns-in-Call
of_stat-returns-in-Call t c = same dropped_statement (stat_read c.args.s.now _ c.in-Call.is ∙ eq.call_syntax _ _ c.in-Call.call) c.of_expr.ensures

pub of_stat-returns-in-Do : goal.of_stat-returns-in-Do
of_stat-returns-in-Do t c = same dropped_statement (stat_read c.args.s.now _ c.in-Do.is ∙ eq.do_syntax _ _ c.in-Do.body) (lent (λ b. dropped_block (syntax_of_block b)) c.get.ensures c.of_block.ensures)

pub of_stat-returns-in-While : goal.of_stat-returns-in-While
of_stat-returns-in-While t c = same dropped_statement (stat_read c.args.s.now _ c.in-While.is ∙ eq.while_syntax _ _ c.in-While.test c.in-While.body) (then (lent (λ e. dropped_expression (syntax_of_expr e)) c.get-in-While.ensures c.of_expr-in-While.ensures) (lent (λ b. dropped_block (syntax_of_block b)) c.get-in-While-2.ensures c.of_block-in-While.ensures))

pub of_stat-returns-in-Repeat : goal.of_stat-returns-in-Repeat
of_stat-returns-in-Repeat t c = same dropped_statement (stat_read c.args.s.now _ c.in-Repeat.is ∙ eq.repeat_syntax _ _ c.in-Repeat.body c.in-Repeat.test) (then c.of_block-in-Repeat.ensures (lent (λ e. dropped_expression (syntax_of_expr e)) c.get-in-Repeat.ensures c.of_expr-in-Repeat.ensures))

pub of_stat-returns-in-ForIn : goal.of_stat-returns-in-ForIn
of_stat-returns-in-ForIn t c = same dropped_statement (stat_read c.args.s.now _ c.in-ForIn.is ∙ eq.for_in_syntax _ _ c.in-ForIn.names c.in-ForIn.values c.in-ForIn.body) (then (lent (λ es. dropped_expressions (expressions_of (map syntax_of_expr es))) c.as_slice-in-ForIn.ensures c.of_exprs-in-ForIn.ensures) (lent (λ b. dropped_block (syntax_of_block b)) c.get-in-ForIn.ensures c.of_block-in-ForIn.ensures))

pub of_stat-returns-in-Function : goal.of_stat-returns-in-Function
of_stat-returns-in-Function t c = same dropped_statement (stat_read c.args.s.now _ c.in-Function.is ∙ eq.function_stat_syntax _ _ c.in-Function.path c.in-Function.method c.in-Function.body) (lent (λ f. dropped_body (syntax_of_body f)) c.get-in-Function.ensures c.of_body.ensures)

pub of_stat-returns-in-LocalFunction : goal.of_stat-returns-in-LocalFunction
of_stat-returns-in-LocalFunction t c = same dropped_statement (stat_read c.args.s.now _ c.in-LocalFunction.is ∙ eq.local_function_syntax _ _ c.in-LocalFunction.name c.in-LocalFunction.body) (lent (λ f. dropped_body (syntax_of_body f)) c.get-in-LocalFunction.ensures c.of_body-in-LocalFunction.ensures)

pub of_stat-returns-in-Return : goal.of_stat-returns-in-Return
of_stat-returns-in-Return t c = same dropped_statement (stat_read c.args.s.now _ c.in-Return.is ∙ eq.return_syntax _ _ c.in-Return.values) (then (lent (λ es. dropped_expressions (expressions_of (map syntax_of_expr es))) c.as_slice-in-Return.ensures c.of_exprs-in-Return.ensures) (lent (λ vs. between (end_of_expressions ((out-Stat c.args.s.now).from + 1) (expressions_of (map syntax_of_expr vs))) (out-Stat c.args.s.now).to) c.as_slice-in-Return-2.ensures c.mark_return.ensures))

pub of_expr-returns-in-Paren : goal.of_expr-returns-in-Paren
of_expr-returns-in-Paren t c = same dropped_expression (expr_read c.args.e.now _ c.in-Paren.is ∙ eq.paren_syntax _ _ c.in-Paren.inner) (lent (λ e. dropped_expression (syntax_of_expr e)) c.get.ensures c.of_expr.ensures)

pub of_expr-returns-in-Function : goal.of_expr-returns-in-Function
of_expr-returns-in-Function t c = same dropped_expression (expr_read c.args.e.now _ c.in-Function.is ∙ eq.function_syntax _ _ c.in-Function.body) (lent (λ f. dropped_body (syntax_of_body f)) c.get-in-Function.ensures c.of_body.ensures)

pub of_expr-returns-in-Table : goal.of_expr-returns-in-Table
of_expr-returns-in-Table t c = same dropped_expression (expr_read c.args.e.now _ c.in-Table.is ∙ eq.table_syntax _ _ c.in-Table.fields) (lent (λ last. dropped_fields (fields_of (map syntax_of_field c.in-Table.fields)) last) c.saturating_sub.ensures (lent (λ fs. dropped_fields (fields_of (map syntax_of_field fs)) c.saturating_sub.result) c.as_slice.ensures c.of_fields.ensures))

pub of_expr-returns-in-Unary : goal.of_expr-returns-in-Unary
of_expr-returns-in-Unary t c = same dropped_expression (expr_read c.args.e.now _ c.in-Unary.is ∙ eq.unary_syntax _ _ c.in-Unary.operand) (lent (λ e. dropped_expression (syntax_of_expr e)) c.get-in-Unary.ensures c.of_expr-in-Unary.ensures)

pub of_expr-returns-in-Chain : goal.of_expr-returns-in-Chain
of_expr-returns-in-Chain t c = same dropped_expression (expr_read c.args.e.now _ c.in-Chain.is ∙ eq.chain_syntax _ _ c.in-Chain.first c.in-Chain.rest) (then (lent (λ e. dropped_expression (syntax_of_expr e)) c.get-in-Chain.ensures c.of_expr-in-Chain.ensures) (lent (λ xs. dropped_operations (operations_of (map syntax_of_step xs))) c.as_slice-in-Chain.ensures c.of_steps.ensures))

pub of_expr-returns-in-Power : goal.of_expr-returns-in-Power
of_expr-returns-in-Power t c = same dropped_expression (expr_read c.args.e.now _ c.in-Power.is ∙ eq.power_syntax _ _ c.in-Power.base c.in-Power.sign c.in-Power.exponent) (then (lent (λ e. dropped_expression (syntax_of_expr e)) c.get-in-Power.ensures c.of_expr-in-Power.ensures) (lent (λ e. dropped_expression (syntax_of_expr e)) c.get-in-Power-2.ensures c.of_expr-in-Power-2.ensures))

pub of_expr-returns-in-Suffixed : goal.of_expr-returns-in-Suffixed
of_expr-returns-in-Suffixed t c = same dropped_expression (expr_read c.args.e.now _ c.in-Suffixed.is ∙ eq.head_suffixed_syntax _ _ c.in-Suffixed.head c.in-Suffixed.suffixes) (then (lent (λ e. dropped_expression (syntax_of_expr e)) c.get-in-Suffixed.ensures c.of_expr-in-Suffixed.ensures) (lent (λ xs. dropped_suffixes (suffixes_of (map syntax_of_suffix xs))) c.as_slice-in-Suffixed.ensures c.of_suffixes-in-Suffixed.ensures))

pub of_suffix-returns-in-Dot : goal.of_suffix-returns-in-Dot
of_suffix-returns-in-Dot t c = same (λ s. dropped_suffix s) (ap syntax_of_suffix c.in-Dot.is ∙ eq.dot_syntax c.in-Dot.field-0) (nothing _)

pub of_suffix-returns-in-Index : goal.of_suffix-returns-in-Index
of_suffix-returns-in-Index t c = same (λ s. dropped_suffix s) (ap syntax_of_suffix c.in-Index.is ∙ eq.index_syntax c.in-Index.index) (lent (λ e. dropped_expression (syntax_of_expr e)) c.get.ensures c.of_expr.ensures)

pub of_suffix-returns-in-Call : goal.of_suffix-returns-in-Call
of_suffix-returns-in-Call t c = same (λ s. dropped_suffix s) (ap syntax_of_suffix c.in-Call.is ∙ eq.call_suffix_syntax c.in-Call.args) c.of_args.ensures

pub of_suffix-returns-in-Method : goal.of_suffix-returns-in-Method
of_suffix-returns-in-Method t c = same (λ s. dropped_suffix s) (ap syntax_of_suffix c.in-Method.is ∙ eq.method_syntax c.in-Method.name c.in-Method.args) c.of_args-in-Method.ensures

pub of_field-returns-in-Item : goal.of_field-returns-in-Item
of_field-returns-in-Item t c = same dropped_field (ap syntax_of_field c.in-Item.is ∙ eq.item_syntax c.in-Item.value) c.of_expr.ensures

pub of_field-returns-in-Named : goal.of_field-returns-in-Named
of_field-returns-in-Named t c = same dropped_field (ap syntax_of_field c.in-Named.is ∙ eq.named_syntax c.in-Named.name c.in-Named.value) c.of_expr-in-Named.ensures

pub of_field-returns-in-Keyed : goal.of_field-returns-in-Keyed
of_field-returns-in-Keyed t c = same dropped_field (ap syntax_of_field c.in-Keyed.is ∙ eq.keyed_syntax c.in-Keyed.key c.in-Keyed.value) (then (lent (λ e. dropped_expression (syntax_of_expr e)) c.get.ensures c.of_expr-in-Keyed.ensures) c.of_expr-in-Keyed-2.ensures)

pub of_args-returns : goal.of_args-returns
of_args-returns t c = same dropped_arguments (args_read c.args.a.now) (args_marked (out-Args c.args.a.now).from (out-Args c.args.a.now).to (out-Args c.args.a.now).parens c.drops_parentheses-drops.result c.saturating_sub.result (out-Args c.args.a.now).items c.as_slice-items.result.now c.as_slice-items.ensures c.drops_parentheses-drops.ensures c.saturating_sub.ensures c.mark_if.ensures c.of_exprs.ensures c.mark_if-2.ensures)

use Rattle.std.proofs.Common.{false, [], ◌∷◌, ◌++◌, map, refl, ap, ◌∙◌, arith}
use Rattle.luf_lex.specs.Tokens.{toks_of}
use Rattle.luf_lex.specs.declared.token.Sign.TheVariants as sign
use Rattle.luf_lex.specs.declared.token.Word.TheVariants as word
use Rattle.luf_tree.specs.declared.tree.ExprKind.TheViews.{out-Stat, out-Block, out-FuncBody}
use Rattle.luf_tree.specs.TokenSyntax.{from_to}
use Rattle.luf_tree.specs.SyntaxOf.{expressions_of, operations_of, suffixes_of, fields_of, statements_of, syntax_of_expr, syntax_of_field, syntax_of_suffix, syntax_of_step, syntax_of_stat, syntax_of_arm, syntax_of_block, syntax_of_body}
use Rattle.luf_tree.proofs.SyntaxEquations as eq
use Rattle.luf_scope.proofs.TreeReads.{expr_read, stat_read, block_read, arm_read, step_read, body_read}
use Rattle.luf_min.specs.declared.item.Item.TheVariants.{Word, Sign}
use Rattle.luf_min.specs.inner.Items.{items_in_expression, items_in_expressions, items_in_values, items_in_operation, items_in_operations, items_in_suffix, items_in_suffixes, items_in_field, items_in_fields, items_in_statement, items_in_statements, items_in_arm, items_in_block, items_in_do, items_in_body}
use Rattle.luf_min.specs.inner.Listed.{names_listed, parameters_listed, declared_listed, path_listed}
use Rattle.luf_min.proofs.Added.{ends, then, all_of, whole, whole_on, lent, lent_on, one_more, one_listed, all_listed}
use Rattle.luf_min.proofs.ListedLaws.{exprs_are, fields_are, arms_are, local_is, function_is, for_in_is, body_is, values_some}
use Rattle.luf_min.proofs.StatementLaws.{one_guarded}
use Rattle.luf_min.proofs.walk.+walk.Goals as goal

pub of_arms-loop-a-preserved : goal.of_arms-loop-a-preserved
of_arms-loop-a-preserved t c = one_listed (Word word.ElseIf) (λ a. items_in_arm (toks_of c.args.cut.now) (syntax_of_arm a)) c.args.arms.now c.loop-a.a-index c.a-item.result c.loop-a.first _ _ _ _ c.loop-a-test.true c.a-item.is c.loop-a.invariant c.in_ok-separate.ensures c.in_ok-of_arm.ensures

pub of_arms-returns : goal.of_arms-returns
of_arms-returns t c = whole_on _ _ _ _ (arms_are (toks_of c.args.cut.now) c.args.arms.now) (all_listed (Word word.ElseIf) (λ a. items_in_arm (toks_of c.args.cut.now) (syntax_of_arm a)) c.loop-a.first c.args.arms.now c.loop-a.a-index _ _ (omega arith) c.loop-a.invariant)

pub of_exprs-loop-e-preserved : goal.of_exprs-loop-e-preserved
of_exprs-loop-e-preserved t c = one_listed (Sign sign.Comma) (λ e. items_in_expression (toks_of c.args.cut.now) (syntax_of_expr e)) c.args.exprs.now c.loop-e.e-index c.e-item.result c.loop-e.first _ _ _ _ c.loop-e-test.true c.e-item.is c.loop-e.invariant c.in_ok-separate.ensures c.in_ok-of_expr.ensures

pub of_exprs-returns : goal.of_exprs-returns
of_exprs-returns t c = whole_on _ _ _ _ (exprs_are (toks_of c.args.cut.now) c.args.exprs.now) (all_listed (Sign sign.Comma) (λ e. items_in_expression (toks_of c.args.cut.now) (syntax_of_expr e)) c.loop-e.first c.args.exprs.now c.loop-e.e-index _ _ (omega arith) c.loop-e.invariant)

pub of_fields-loop-f-preserved : goal.of_fields-loop-f-preserved
of_fields-loop-f-preserved t c = one_listed (Sign sign.Comma) (λ f. items_in_field (toks_of c.args.cut.now) (syntax_of_field f)) c.args.fields.now c.loop-f.f-index c.f-item.result c.loop-f.first _ _ _ _ c.loop-f-test.true c.f-item.is c.loop-f.invariant c.in_ok-separate.ensures c.in_ok-of_field.ensures

pub of_fields-returns : goal.of_fields-returns
of_fields-returns t c = whole_on _ _ _ _ (fields_are (toks_of c.args.cut.now) c.args.fields.now) (all_listed (Sign sign.Comma) (λ f. items_in_field (toks_of c.args.cut.now) (syntax_of_field f)) c.loop-f.first c.args.fields.now c.loop-f.f-index _ _ (omega arith) c.loop-f.invariant)

pub of_steps-loop-s-preserved : goal.of_steps-loop-s-preserved
of_steps-loop-s-preserved t c = one_more (λ xs. items_in_operations (toks_of c.args.cut.now) (operations_of (map syntax_of_step xs))) c.args.steps.now c.loop-s.s-index c.s-item.result _ _ _ _ refl c.loop-s-test.true c.s-item.is c.loop-s.invariant c.in_ok-of_step.ensures

pub of_suffixes-loop-s-preserved : goal.of_suffixes-loop-s-preserved
of_suffixes-loop-s-preserved t c = one_more (λ xs. items_in_suffixes (toks_of c.args.cut.now) (suffixes_of (map syntax_of_suffix xs))) c.args.suffixes.now c.loop-s.s-index c.s-item.result _ _ _ _ refl c.loop-s-test.true c.s-item.is c.loop-s.invariant c.in_ok-of_suffix.ensures

pub of_stats-loop-s-preserved : goal.of_stats-loop-s-preserved
of_stats-loop-s-preserved t c = one_guarded (toks_of c.args.cut.now) c.args.stats.now c.loop-s.s-index c.s-item.result c.loop-s.first _ _ _ _ _ c.loop-s-test.true c.s-item.is c.loop-s.invariant c.in_ok-add_guard.ensures c.in_ok-of_stat.ensures c.is_still_first-first.ensures

pub of_block-returns : goal.of_block-returns
of_block-returns t c = whole _ _ _ _ _ (ap (items_in_block (toks_of c.args.cut.now)) (block_read c.args.b.now)) (lent (λ ss. items_in_statements (toks_of c.args.cut.now) false (statements_of (map syntax_of_stat ss))) ((out-Block c.args.b.now).stats) _ _ _ _ c.as_slice.ensures c.of_stats.ensures)

pub of_block_to_end-returns : goal.of_block_to_end-returns
of_block_to_end-returns t c = (then _ _ _ _ _ _ c.in_ok-of_block.ensures (ends _ _ _ _ c.add_word.ensures)).added

pub of_do-returns : goal.of_do-returns
of_do-returns t c = (then _ _ _ _ _ _ c.in_ok-add_word.ensures (ends _ _ _ _ c.of_block_to_end.ensures)).added

pub of_arm-returns : goal.of_arm-returns
of_arm-returns t c = all_of _ _ _ _ _ (ap (items_in_arm (toks_of c.args.cut.now)) (arm_read c.args.a.now)) (then _ _ _ _ _ _ c.in_ok-of_expr.ensures (then _ _ _ _ _ _ c.in_ok-add_word.ensures (ends _ _ _ _ c.of_block.ensures)))

pub of_body-returns : goal.of_body-returns
of_body-returns t c = all_of _ _ _ _ _ (ap (items_in_body (toks_of c.args.cut.now)) (body_read c.args.f.now) ∙ body_is (toks_of c.args.cut.now) (from_to (out-FuncBody c.args.f.now).from (out-FuncBody c.args.f.now).to) (out-FuncBody c.args.f.now).params (out-FuncBody c.args.f.now).vararg (syntax_of_block (out-FuncBody c.args.f.now).body)) (then _ _ _ _ _ _ (lent_on (λ ns. parameters_listed ns (out-FuncBody c.args.f.now).vararg) ((out-FuncBody c.args.f.now).params) _ _ _ c.as_slice.ensures c.in_ok-add_parameters.ensures) (ends _ _ _ _ c.of_block_to_end.ensures))

pub of_expr-returns-in_ok-of_expr-in-Paren : goal.of_expr-returns-in_ok-of_expr-in-Paren
of_expr-returns-in_ok-of_expr-in-Paren t c = all_of _ _ _ _ _ (ap (items_in_expression (toks_of c.args.cut.now)) (expr_read c.args.e.now _ c.in-Paren.is ∙ eq.paren_syntax _ _ c.in-Paren.inner)) (then _ _ _ _ _ _ c.in_ok-add_sign-in-Paren.ensures (then _ _ _ _ _ _ (lent_on (λ x. items_in_expression (toks_of c.args.cut.now) (syntax_of_expr x)) c.in-Paren.inner _ _ _ c.get.ensures c.in_ok-of_expr-in-Paren.ensures) (ends _ _ _ _ c.add_sign-in-Paren-2.ensures)))

pub of_expr-returns-in_ok-add_word-in-Function : goal.of_expr-returns-in_ok-add_word-in-Function
of_expr-returns-in_ok-add_word-in-Function t c = all_of _ _ _ _ _ (ap (items_in_expression (toks_of c.args.cut.now)) (expr_read c.args.e.now _ c.in-Function.is ∙ eq.function_syntax _ _ c.in-Function.body)) (then _ _ _ _ _ _ c.in_ok-add_word-in-Function.ensures (ends _ _ _ _ (lent (λ f. items_in_body (toks_of c.args.cut.now) (syntax_of_body f)) c.in-Function.body _ _ _ _ c.get-in-Function.ensures c.of_body.ensures)))

pub of_expr-returns-in_ok-of_fields-in-Table : goal.of_expr-returns-in_ok-of_fields-in-Table
of_expr-returns-in_ok-of_fields-in-Table t c = all_of _ _ _ _ _ (ap (items_in_expression (toks_of c.args.cut.now)) (expr_read c.args.e.now _ c.in-Table.is ∙ eq.table_syntax _ _ c.in-Table.fields)) (then _ _ _ _ _ _ c.in_ok-add_sign-in-Table.ensures (then _ _ _ _ _ _ (lent_on (λ fs. items_in_fields (toks_of c.args.cut.now) (fields_of (map syntax_of_field fs))) c.in-Table.fields _ _ _ c.as_slice.ensures c.in_ok-of_fields-in-Table.ensures) (ends _ _ _ _ c.add_sign-in-Table-2.ensures)))

pub of_expr-returns-in_ok-add_token-in-Unary : goal.of_expr-returns-in_ok-add_token-in-Unary
of_expr-returns-in_ok-add_token-in-Unary t c = all_of _ _ _ _ _ (ap (items_in_expression (toks_of c.args.cut.now)) (expr_read c.args.e.now _ c.in-Unary.is ∙ eq.unary_syntax _ _ c.in-Unary.operand)) (then _ _ _ _ _ _ c.in_ok-add_token-in-Unary.ensures (ends _ _ _ _ (lent (λ x. items_in_expression (toks_of c.args.cut.now) (syntax_of_expr x)) c.in-Unary.operand _ _ _ _ c.get-in-Unary.ensures c.of_expr-in-Unary.ensures)))

pub of_expr-returns-in_ok-of_expr-in-Chain : goal.of_expr-returns-in_ok-of_expr-in-Chain
of_expr-returns-in_ok-of_expr-in-Chain t c = all_of _ _ _ _ _ (ap (items_in_expression (toks_of c.args.cut.now)) (expr_read c.args.e.now _ c.in-Chain.is ∙ eq.chain_syntax _ _ c.in-Chain.first c.in-Chain.rest)) (then _ _ _ _ _ _ (lent_on (λ x. items_in_expression (toks_of c.args.cut.now) (syntax_of_expr x)) c.in-Chain.first _ _ _ c.get-in-Chain.ensures c.in_ok-of_expr-in-Chain.ensures) (ends _ _ _ _ (lent (λ ss. items_in_operations (toks_of c.args.cut.now) (operations_of (map syntax_of_step ss))) c.in-Chain.rest _ _ _ _ c.as_slice-in-Chain.ensures c.of_steps.ensures)))

pub of_expr-returns-in_ok-add_token-in-Power : goal.of_expr-returns-in_ok-add_token-in-Power
of_expr-returns-in_ok-add_token-in-Power t c = all_of _ _ _ _ _ (ap (items_in_expression (toks_of c.args.cut.now)) (expr_read c.args.e.now _ c.in-Power.is ∙ eq.power_syntax _ _ c.in-Power.base c.in-Power.sign c.in-Power.exponent)) (then _ _ _ _ _ _ (lent_on (λ x. items_in_expression (toks_of c.args.cut.now) (syntax_of_expr x)) c.in-Power.base _ _ _ c.get-in-Power.ensures c.in_ok-of_expr-in-Power.ensures) (then _ _ _ _ _ _ c.in_ok-add_token-in-Power.ensures (ends _ _ _ _ (lent (λ x. items_in_expression (toks_of c.args.cut.now) (syntax_of_expr x)) c.in-Power.exponent _ _ _ _ c.get-in-Power-2.ensures c.of_expr-in-Power-2.ensures))))

pub of_expr-returns-in_ok-add_token-in-NameSuffixed : goal.of_expr-returns-in_ok-add_token-in-NameSuffixed
of_expr-returns-in_ok-add_token-in-NameSuffixed t c = all_of _ _ _ _ _ (ap (items_in_expression (toks_of c.args.cut.now)) (expr_read c.args.e.now _ c.in-NameSuffixed.is ∙ eq.name_suffixed_syntax _ _ c.in-NameSuffixed.suffixes)) (then _ _ _ _ _ _ c.in_ok-add_token-in-NameSuffixed.ensures (ends _ _ _ _ (lent (λ ss. items_in_suffixes (toks_of c.args.cut.now) (suffixes_of (map syntax_of_suffix ss))) c.in-NameSuffixed.suffixes _ _ _ _ c.as_slice-in-NameSuffixed.ensures c.of_suffixes.ensures)))

pub of_expr-returns-in_ok-of_expr-in-Suffixed : goal.of_expr-returns-in_ok-of_expr-in-Suffixed
of_expr-returns-in_ok-of_expr-in-Suffixed t c = all_of _ _ _ _ _ (ap (items_in_expression (toks_of c.args.cut.now)) (expr_read c.args.e.now _ c.in-Suffixed.is ∙ eq.head_suffixed_syntax _ _ c.in-Suffixed.head c.in-Suffixed.suffixes)) (then _ _ _ _ _ _ (lent_on (λ x. items_in_expression (toks_of c.args.cut.now) (syntax_of_expr x)) c.in-Suffixed.head _ _ _ c.get-in-Suffixed.ensures c.in_ok-of_expr-in-Suffixed.ensures) (ends _ _ _ _ (lent (λ ss. items_in_suffixes (toks_of c.args.cut.now) (suffixes_of (map syntax_of_suffix ss))) c.in-Suffixed.suffixes _ _ _ _ c.as_slice-in-Suffixed.ensures c.of_suffixes-in-Suffixed.ensures)))

pub of_step-returns : goal.of_step-returns
of_step-returns t c = all_of _ _ _ _ _ (ap (items_in_operation (toks_of c.args.cut.now)) (step_read c.args.s.now)) (then _ _ _ _ _ _ c.in_ok-add_token.ensures (ends _ _ _ _ c.of_expr.ensures))

pub of_suffix-returns-in_ok-add_sign-in-Dot : goal.of_suffix-returns-in_ok-add_sign-in-Dot
of_suffix-returns-in_ok-add_sign-in-Dot t c = all_of _ _ _ _ _ (ap (λ s. items_in_suffix (toks_of c.args.cut.now) (syntax_of_suffix s)) c.in-Dot.is ∙ ap (items_in_suffix (toks_of c.args.cut.now)) (eq.dot_syntax c.in-Dot.name)) (then _ _ _ _ _ _ c.in_ok-add_sign-in-Dot.ensures (ends _ _ _ _ c.add_token.ensures))

pub of_suffix-returns-in_ok-of_expr-in-Index : goal.of_suffix-returns-in_ok-of_expr-in-Index
of_suffix-returns-in_ok-of_expr-in-Index t c = all_of _ _ _ _ _ (ap (λ s. items_in_suffix (toks_of c.args.cut.now) (syntax_of_suffix s)) c.in-Index.is ∙ ap (items_in_suffix (toks_of c.args.cut.now)) (eq.index_syntax c.in-Index.index)) (then _ _ _ _ _ _ c.in_ok-add_sign-in-Index.ensures (then _ _ _ _ _ _ (lent_on (λ x. items_in_expression (toks_of c.args.cut.now) (syntax_of_expr x)) c.in-Index.index _ _ _ c.get.ensures c.in_ok-of_expr-in-Index.ensures) (ends _ _ _ _ c.add_sign-in-Index-2.ensures)))

pub of_suffix-returns-in-Call : goal.of_suffix-returns-in-Call
of_suffix-returns-in-Call t c = whole _ _ _ _ _ (ap (λ s. items_in_suffix (toks_of c.args.cut.now) (syntax_of_suffix s)) c.in-Call.is ∙ ap (items_in_suffix (toks_of c.args.cut.now)) (eq.call_suffix_syntax c.in-Call.args)) c.of_args.ensures

pub of_suffix-returns-in_ok-add_token-in-Method : goal.of_suffix-returns-in_ok-add_token-in-Method
of_suffix-returns-in_ok-add_token-in-Method t c = all_of _ _ _ _ _ (ap (λ s. items_in_suffix (toks_of c.args.cut.now) (syntax_of_suffix s)) c.in-Method.is ∙ ap (items_in_suffix (toks_of c.args.cut.now)) (eq.method_syntax c.in-Method.name c.in-Method.args)) (then _ _ _ _ _ _ c.in_ok-add_sign-in-Method.ensures (then _ _ _ _ _ _ c.in_ok-add_token-in-Method.ensures (ends _ _ _ _ c.of_args-in-Method.ensures)))

pub of_field-returns-in_ok-add_sign-in-Named : goal.of_field-returns-in_ok-add_sign-in-Named
of_field-returns-in_ok-add_sign-in-Named t c = all_of _ _ _ _ _ (ap (λ f. items_in_field (toks_of c.args.cut.now) (syntax_of_field f)) c.in-Named.is ∙ ap (items_in_field (toks_of c.args.cut.now)) (eq.named_syntax c.in-Named.name c.in-Named.value)) (then _ _ _ _ _ _ c.in_ok-add_token-in-Named.ensures (then _ _ _ _ _ _ c.in_ok-add_sign-in-Named.ensures (ends _ _ _ _ c.of_expr-in-Named.ensures)))

pub of_field-returns-in_ok-add_sign-in-Keyed-3 : goal.of_field-returns-in_ok-add_sign-in-Keyed-3
of_field-returns-in_ok-add_sign-in-Keyed-3 t c = all_of _ _ _ _ _ (ap (λ f. items_in_field (toks_of c.args.cut.now) (syntax_of_field f)) c.in-Keyed.is ∙ ap (items_in_field (toks_of c.args.cut.now)) (eq.keyed_syntax c.in-Keyed.key c.in-Keyed.value)) (then _ _ _ _ _ _ c.in_ok-add_sign-in-Keyed.ensures (then _ _ _ _ _ _ (lent_on (λ x. items_in_expression (toks_of c.args.cut.now) (syntax_of_expr x)) c.in-Keyed.key _ _ _ c.get.ensures c.in_ok-of_expr-in-Keyed.ensures) (then _ _ _ _ _ _ c.in_ok-add_sign-in-Keyed-2.ensures (then _ _ _ _ _ _ c.in_ok-add_sign-in-Keyed-3.ensures (ends _ _ _ _ c.of_expr-in-Keyed-2.ensures)))))

pub of_values-returns-in_ok-add_sign-in-len1-up : goal.of_values-returns-in_ok-add_sign-in-len1-up
of_values-returns-in_ok-add_sign-in-len1-up t c = all_of _ _ _ _ _ (values_some (toks_of c.args.cut.now) c.args.values.now (omega (arith, c.in-len1-up.len_at_least))) (then _ _ _ _ _ _ c.in_ok-add_sign-in-len1-up.ensures (ends _ _ _ _ c.of_exprs.ensures))

pub of_stat-returns-in_ok-add_local-in-Local : goal.of_stat-returns-in_ok-add_local-in-Local
of_stat-returns-in_ok-add_local-in-Local t c = all_of _ _ _ _ _ (ap (items_in_statement (toks_of c.args.cut.now)) (stat_read c.args.s.now _ c.in-Local.is ∙ eq.local_syntax _ _ c.in-Local.names c.in-Local.values) ∙ local_is (toks_of c.args.cut.now) (from_to (out-Stat c.args.s.now).from (out-Stat c.args.s.now).to) c.in-Local.names (expressions_of (map syntax_of_expr c.in-Local.values))) (then _ _ _ _ _ _ (lent_on (λ ns. Word word.Local ∷ declared_listed ns) c.in-Local.names _ _ _ c.as_slice.ensures c.in_ok-add_local-in-Local.ensures) (ends _ _ _ _ (lent (λ xs. items_in_values (toks_of c.args.cut.now) (expressions_of (map syntax_of_expr xs))) c.in-Local.values _ _ _ _ c.as_slice-in-Local.ensures c.of_values.ensures)))

pub of_stat-returns-in_ok-add_sign-in-Assign : goal.of_stat-returns-in_ok-add_sign-in-Assign
of_stat-returns-in_ok-add_sign-in-Assign t c = all_of _ _ _ _ _ (ap (items_in_statement (toks_of c.args.cut.now)) (stat_read c.args.s.now _ c.in-Assign.is ∙ eq.assign_syntax _ _ c.in-Assign.targets c.in-Assign.values)) (then _ _ _ _ _ _ (lent_on (λ xs. items_in_expressions (toks_of c.args.cut.now) (expressions_of (map syntax_of_expr xs))) c.in-Assign.targets _ _ _ c.as_slice-in-Assign.ensures c.in_ok-of_exprs-in-Assign.ensures) (then _ _ _ _ _ _ c.in_ok-add_sign-in-Assign.ensures (ends _ _ _ _ (lent (λ xs. items_in_expressions (toks_of c.args.cut.now) (expressions_of (map syntax_of_expr xs))) c.in-Assign.values _ _ _ _ c.as_slice-in-Assign-2.ensures c.of_exprs-in-Assign.ensures))))

pub of_stat-returns-in-Call : goal.of_stat-returns-in-Call
of_stat-returns-in-Call t c = whole _ _ _ _ _ (ap (items_in_statement (toks_of c.args.cut.now)) (stat_read c.args.s.now _ c.in-Call.is ∙ eq.call_syntax _ _ c.in-Call.call)) c.of_expr.ensures

pub of_stat-returns-in-Do : goal.of_stat-returns-in-Do
of_stat-returns-in-Do t c = whole _ _ _ _ _ (ap (items_in_statement (toks_of c.args.cut.now)) (stat_read c.args.s.now _ c.in-Do.is ∙ eq.do_syntax _ _ c.in-Do.body)) (lent (λ b. items_in_do (toks_of c.args.cut.now) (syntax_of_block b)) c.in-Do.body _ _ _ _ c.get.ensures c.of_do.ensures)

pub of_stat-returns-in_ok-of_expr-in-While : goal.of_stat-returns-in_ok-of_expr-in-While
of_stat-returns-in_ok-of_expr-in-While t c = all_of _ _ _ _ _ (ap (items_in_statement (toks_of c.args.cut.now)) (stat_read c.args.s.now _ c.in-While.is ∙ eq.while_syntax _ _ c.in-While.test c.in-While.body)) (then _ _ _ _ _ _ c.in_ok-add_word-in-While.ensures (then _ _ _ _ _ _ (lent_on (λ x. items_in_expression (toks_of c.args.cut.now) (syntax_of_expr x)) c.in-While.test _ _ _ c.get-in-While.ensures c.in_ok-of_expr-in-While.ensures) (ends _ _ _ _ (lent (λ b. items_in_do (toks_of c.args.cut.now) (syntax_of_block b)) c.in-While.body _ _ _ _ c.get-in-While-2.ensures c.of_do-in-While.ensures))))

pub of_stat-returns-in_ok-add_word-in-Repeat-2 : goal.of_stat-returns-in_ok-add_word-in-Repeat-2
of_stat-returns-in_ok-add_word-in-Repeat-2 t c = all_of _ _ _ _ _ (ap (items_in_statement (toks_of c.args.cut.now)) (stat_read c.args.s.now _ c.in-Repeat.is ∙ eq.repeat_syntax _ _ c.in-Repeat.body c.in-Repeat.test)) (then _ _ _ _ _ _ c.in_ok-add_word-in-Repeat.ensures (then _ _ _ _ _ _ c.in_ok-of_block-in-Repeat.ensures (then _ _ _ _ _ _ c.in_ok-add_word-in-Repeat-2.ensures (ends _ _ _ _ (lent (λ x. items_in_expression (toks_of c.args.cut.now) (syntax_of_expr x)) c.in-Repeat.test _ _ _ _ c.get-in-Repeat.ensures c.of_expr-in-Repeat.ensures)))))

pub of_stat-returns-in_ok-of_exprs-in-ForIn : goal.of_stat-returns-in_ok-of_exprs-in-ForIn
of_stat-returns-in_ok-of_exprs-in-ForIn t c = all_of _ _ _ _ _ (ap (items_in_statement (toks_of c.args.cut.now)) (stat_read c.args.s.now _ c.in-ForIn.is ∙ eq.for_in_syntax _ _ c.in-ForIn.names c.in-ForIn.values c.in-ForIn.body) ∙ for_in_is (toks_of c.args.cut.now) (from_to (out-Stat c.args.s.now).from (out-Stat c.args.s.now).to) c.in-ForIn.names (expressions_of (map syntax_of_expr c.in-ForIn.values)) (syntax_of_block c.in-ForIn.body)) (then _ _ _ _ _ _ (lent_on (λ ns. Word word.For ∷ (names_listed ns ++ (Word word.In ∷ []))) c.in-ForIn.names _ _ _ (c.as_slice-in-ForIn.ensures ∙ c.get-in-ForIn.ensures) c.in_ok-add_for_in-in-ForIn.ensures) (then _ _ _ _ _ _ (lent_on (λ xs. items_in_expressions (toks_of c.args.cut.now) (expressions_of (map syntax_of_expr xs))) c.in-ForIn.values _ _ _ c.as_slice-in-ForIn-2.ensures c.in_ok-of_exprs-in-ForIn.ensures) (ends _ _ _ _ (lent (λ b. items_in_do (toks_of c.args.cut.now) (syntax_of_block b)) c.in-ForIn.body _ _ _ _ c.get-in-ForIn-2.ensures c.of_do-in-ForIn.ensures))))

pub of_stat-returns-in_ok-add_function-in-Function : goal.of_stat-returns-in_ok-add_function-in-Function
of_stat-returns-in_ok-add_function-in-Function t c = all_of _ _ _ _ _ (ap (items_in_statement (toks_of c.args.cut.now)) (stat_read c.args.s.now _ c.in-Function.is ∙ eq.function_stat_syntax _ _ c.in-Function.path c.in-Function.method c.in-Function.body) ∙ function_is (toks_of c.args.cut.now) (from_to (out-Stat c.args.s.now).from (out-Stat c.args.s.now).to) c.in-Function.path c.in-Function.method (syntax_of_body c.in-Function.body)) (then _ _ _ _ _ _ (lent_on (λ ns. Word word.Function ∷ path_listed ns c.in-Function.method) c.in-Function.path _ _ _ c.as_slice-in-Function.ensures c.in_ok-add_function-in-Function.ensures) (ends _ _ _ _ (lent (λ f. items_in_body (toks_of c.args.cut.now) (syntax_of_body f)) c.in-Function.body _ _ _ _ c.get-in-Function.ensures c.of_body.ensures)))

pub of_stat-returns-in_ok-add_local_function-in-LocalFunction : goal.of_stat-returns-in_ok-add_local_function-in-LocalFunction
of_stat-returns-in_ok-add_local_function-in-LocalFunction t c = all_of _ _ _ _ _ (ap (items_in_statement (toks_of c.args.cut.now)) (stat_read c.args.s.now _ c.in-LocalFunction.is ∙ eq.local_function_syntax _ _ c.in-LocalFunction.name c.in-LocalFunction.body)) (then _ _ _ _ _ _ c.in_ok-add_local_function-in-LocalFunction.ensures (ends _ _ _ _ (lent (λ f. items_in_body (toks_of c.args.cut.now) (syntax_of_body f)) c.in-LocalFunction.body _ _ _ _ c.get-in-LocalFunction.ensures c.of_body-in-LocalFunction.ensures)))

pub of_stat-returns-in_ok-add_word-in-Return : goal.of_stat-returns-in_ok-add_word-in-Return
of_stat-returns-in_ok-add_word-in-Return t c = all_of _ _ _ _ _ (ap (items_in_statement (toks_of c.args.cut.now)) (stat_read c.args.s.now _ c.in-Return.is ∙ eq.return_syntax _ _ c.in-Return.values)) (then _ _ _ _ _ _ c.in_ok-add_word-in-Return.ensures (ends _ _ _ _ (lent (λ xs. items_in_expressions (toks_of c.args.cut.now) (expressions_of (map syntax_of_expr xs))) c.in-Return.values _ _ _ _ c.as_slice-in-Return.ensures c.of_exprs-in-Return.ensures)))

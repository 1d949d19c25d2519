use Rattle.std.proofs.Common.{◌≡◌, ◌+◌, ◌-◌, true, false, not, cond, List, [], ◌∷◌, ◌++◌, map, drop, refl, ap, ◌∙◌}
use Rattle.std.specs.Option.{option_map}
use Rattle.std.specs.List.{count_by}
use Rattle.std.proofs.lemmas.List.{append-nil}
use Rattle.luf_tree.specs.declared.tree.ExprKind.TheViews.{out-Stat, out-Args, out-Block, out-FuncBody}
use Rattle.luf_tree.specs.TokenSyntax.{from_to}
use Rattle.luf_tree.specs.SyntaxOf.{declared_of, first_of_path, rest_of_path, expressions_of, operations_of, suffixes_of, fields_of, statements_of, arms_of, optional_block_of, syntax_of_expr, syntax_of_field, syntax_of_suffix, syntax_of_step, syntax_of_stat, syntax_of_arm, syntax_of_block, syntax_of_body}
use Rattle.luf_tree.proofs.SyntaxEquations as eq
use Rattle.luf_scope.specs.Occurrences.{Holder, span_of, body_of, span_of_body, loop_of, declared_locals, loop_variables_of, parameters_of, path_of, method_of, occurrences_in_expression, occurrences_in_expressions, occurrences_in_targets, occurrences_in_operations, occurrences_in_suffix, occurrences_in_suffixes, occurrences_in_field, occurrences_in_fields, occurrences_in_statement, occurrences_in_statements, occurrences_in_arm, occurrences_in_arms, occurrences_in_block, occurrences_in_repeated, occurrences_in_optional_block, occurrences_in_body, occurrences_in_arguments}
use Rattle.luf_scope.specs.declared.occurrence.Occurrence.{Occurrence}
use Rattle.luf_scope.specs.declared.occurrence.Occurrence.TheVariants.{LocalFunction, Function, Field}
use Rattle.luf_scope.specs.inner.Parts.{held_by, is_solid}
use Rattle.luf_scope.proofs.Added.{then, also, whole, whole_on, lent, lent_on, one_more}
use Rattle.luf_scope.proofs.TreeReads.{expr_read, stat_read, block_read, arm_read, args_read, body_read, span_read, body_span_read, whole_body_read}
use Rattle.luf_scope.proofs.Solid.{one_statement, solid_left}
use Rattle.luf_scope.proofs.Targets.{assigned, only_read}
use Rattle.luf_scope.proofs.reading.+reading.Goals as goal
use Rattle.luf_scope.proofs.reading.+reading.Goals.{of_stats-then-not-is_void_statement, of_stats-else-not-is_void_statement}

pub of_arms-loop-a-preserved : goal.of_arms-loop-a-preserved
of_arms-loop-a-preserved t c = one_more (λ xs. occurrences_in_arms (arms_of (map syntax_of_arm xs))) c.args.arms.now c.loop-a.a-index c.a-item.result _ _ _ _ refl c.loop-a-test.true c.a-item.is c.loop-a.invariant c.in_ok-of_arm.ensures

pub of_exprs-loop-e-preserved : goal.of_exprs-loop-e-preserved
of_exprs-loop-e-preserved t c = one_more (λ xs. occurrences_in_expressions (expressions_of (map syntax_of_expr xs))) c.args.exprs.now c.loop-e.e-index c.e-item.result _ _ _ _ refl c.loop-e-test.true c.e-item.is c.loop-e.invariant c.in_ok-of_expr.ensures

pub of_targets-loop-e-preserved : goal.of_targets-loop-e-preserved
of_targets-loop-e-preserved t c = one_more (λ xs. occurrences_in_targets (expressions_of (map syntax_of_expr xs))) c.args.exprs.now c.loop-e.e-index c.e-item.result _ _ _ _ refl c.loop-e-test.true c.e-item.is c.loop-e.invariant c.in_ok-of_target.ensures

pub of_steps-loop-s-preserved : goal.of_steps-loop-s-preserved
of_steps-loop-s-preserved t c = one_more (λ xs. occurrences_in_operations (operations_of (map syntax_of_step xs))) c.args.steps.now c.loop-s.s-index c.s-item.result _ _ _ _ refl c.loop-s-test.true c.s-item.is c.loop-s.invariant c.in_ok-of_step.ensures

pub of_suffixes-loop-s-preserved : goal.of_suffixes-loop-s-preserved
of_suffixes-loop-s-preserved t c = one_more (λ xs. occurrences_in_suffixes (suffixes_of (map syntax_of_suffix xs))) c.args.suffixes.now c.loop-s.s-index c.s-item.result _ _ _ _ refl c.loop-s-test.true c.s-item.is c.loop-s.invariant c.in_ok-of_suffix.ensures

pub of_fields-loop-f-preserved : goal.of_fields-loop-f-preserved
of_fields-loop-f-preserved t c = one_more (λ xs. occurrences_in_fields (fields_of (map syntax_of_field xs))) c.args.fields.now c.loop-f.f-index c.f-item.result _ _ _ _ refl c.loop-f-test.true c.f-item.is c.loop-f.invariant c.in_ok-of_field.ensures

pub of_stats-loop-s-preserved : goal.of_stats-loop-s-preserved
of_stats-loop-s-preserved t c =
    let left : c.if-not-is_void_statement.solid ≡ count_by is_solid (drop (c.loop-s.s-index + 1) c.args.stats.now) =
    elim c.if-not-is_void_statement.branch [
      | of_stats-then-not-is_void_statement w ↦ solid_left c.args.stats.now c.loop-s.s-index c.s-item.result c.loop-s.solid c.if-not-is_void_statement.solid c.loop-s-test.true c.s-item.is c.loop-s.invariant.solid (w.solid-is ∙ ap (λ v. cond (not v) (c.loop-s.solid - 1) c.loop-s.solid) w.if-not-is_void_statement.ensures)
      | of_stats-else-not-is_void_statement w ↦ solid_left c.args.stats.now c.loop-s.s-index c.s-item.result c.loop-s.solid c.if-not-is_void_statement.solid c.loop-s-test.true c.s-item.is c.loop-s.invariant.solid (w.solid-is ∙ ap (λ v. cond (not v) (c.loop-s.solid - 1) c.loop-s.solid) w.if-not-is_void_statement.ensures)
    ] in
    record {
      solid = left;
      added = one_statement (held_by c.args.holder) c.args.stats.now c.loop-s.s-index c.s-item.result c.if-not-is_void_statement.solid _ _ _ c.loop-s-test.true c.s-item.is c.loop-s.invariant.added left c.in_ok-of_stat.ensures;
    }

pub of_arm-returns : goal.of_arm-returns
of_arm-returns t c = whole c.args.all _ _ _ _ _ (ap occurrences_in_arm (arm_read c.args.a.now)) (then _ _ _ _ _ _ c.in_ok-of_expr.ensures c.of_block.ensures)

pub of_block-returns : goal.of_block-returns
of_block-returns t c = let h : Holder = (record { span = from_to (out-Block c.args.b.now).from (out-Block c.args.b.now).to; end = (out-Block c.args.b.now).to; until = false }) in whole c.args.all _ _ _ _ _ (ap occurrences_in_block (block_read c.args.b.now)) (lent c.args.all (λ ss. occurrences_in_statements h (statements_of (map syntax_of_stat ss))) (out-Block c.args.b.now).stats _ _ _ _ c.as_slice.ensures c.of_stats.ensures)

pub of_repeated-returns : goal.of_repeated-returns
of_repeated-returns t c = let h : Holder = (record { span = from_to (out-Block c.args.b.now).from (out-Block c.args.b.now).to; end = c.args.end; until = true }) in whole c.args.all _ _ _ _ _ (ap (occurrences_in_repeated c.args.end) (block_read c.args.b.now)) (lent c.args.all (λ ss. occurrences_in_statements h (statements_of (map syntax_of_stat ss))) (out-Block c.args.b.now).stats _ _ _ _ c.as_slice.ensures c.of_stats.ensures)

pub of_body-returns : goal.of_body-returns
of_body-returns t c =
    let head : Occurrence = Function (out-FuncBody c.args.f.now).from (out-FuncBody c.args.f.now).to (out-FuncBody c.args.f.now).vararg in
    let parameters : List Occurrence = parameters_of (span_of (syntax_of_block (out-FuncBody c.args.f.now).body)) (out-FuncBody c.args.f.now).params in
    whole c.args.all _ _ _ _ _ (ap occurrences_in_body (body_read c.args.f.now)) (then _ _ _ (head ∷ parameters) _ _ (also _ _ _ (head ∷ []) parameters c.in_ok-add.ensures (lent_on (λ s. parameters_of s (out-FuncBody c.args.f.now).params) (span_of (syntax_of_block (out-FuncBody c.args.f.now).body)) _ _ _ (span_read (out-FuncBody c.args.f.now).body) (lent_on (λ ps. parameters_of (from_to (out-Block (out-FuncBody c.args.f.now).body).from (out-Block (out-FuncBody c.args.f.now).body).to) ps) (out-FuncBody c.args.f.now).params _ _ _ c.as_slice.ensures c.in_ok-add_parameters.ensures))) c.of_block.ensures)

pub of_loop-returns : goal.of_loop-returns
of_loop-returns t c = then _ _ _ _ _ _ (lent_on (λ s. loop_of s ∷ []) (span_of (syntax_of_block c.args.b.now)) _ _ _ (span_read c.args.b.now) c.in_ok-add.ensures) c.of_block.ensures

pub of_expr-returns-in-Paren : goal.of_expr-returns-in-Paren
of_expr-returns-in-Paren t c = whole c.args.all _ _ _ _ _ (ap occurrences_in_expression (expr_read c.args.e.now _ c.in-Paren.is ∙ eq.paren_syntax _ _ c.in-Paren.inner)) (lent c.args.all (λ x. occurrences_in_expression (syntax_of_expr x)) c.in-Paren.inner _ _ _ _ c.get.ensures c.of_expr.ensures)

pub of_expr-returns-in-Function : goal.of_expr-returns-in-Function
of_expr-returns-in-Function t c = whole c.args.all _ _ _ _ _ (ap occurrences_in_expression (expr_read c.args.e.now _ c.in-Function.is ∙ eq.function_syntax _ _ c.in-Function.body)) (lent c.args.all (λ f. occurrences_in_body (syntax_of_body f)) c.in-Function.body _ _ _ _ c.get-in-Function.ensures c.of_body.ensures)

pub of_expr-returns-in-Table : goal.of_expr-returns-in-Table
of_expr-returns-in-Table t c = whole c.args.all _ _ _ _ _ (ap occurrences_in_expression (expr_read c.args.e.now _ c.in-Table.is ∙ eq.table_syntax _ _ c.in-Table.fields)) (lent c.args.all (λ fs. occurrences_in_fields (fields_of (map syntax_of_field fs))) c.in-Table.fields _ _ _ _ c.as_slice.ensures c.of_fields.ensures)

pub of_expr-returns-in-Unary : goal.of_expr-returns-in-Unary
of_expr-returns-in-Unary t c = whole c.args.all _ _ _ _ _ (ap occurrences_in_expression (expr_read c.args.e.now _ c.in-Unary.is ∙ eq.unary_syntax _ _ c.in-Unary.operand)) (lent c.args.all (λ x. occurrences_in_expression (syntax_of_expr x)) c.in-Unary.operand _ _ _ _ c.get-in-Unary.ensures c.of_expr-in-Unary.ensures)

pub of_expr-returns-in_ok-of_expr-in-Chain : goal.of_expr-returns-in_ok-of_expr-in-Chain
of_expr-returns-in_ok-of_expr-in-Chain t c = whole c.args.all _ _ _ _ _ (ap occurrences_in_expression (expr_read c.args.e.now _ c.in-Chain.is ∙ eq.chain_syntax _ _ c.in-Chain.first c.in-Chain.rest)) (then _ _ _ _ _ _ (lent_on (λ x. occurrences_in_expression (syntax_of_expr x)) c.in-Chain.first _ _ _ c.get-in-Chain.ensures c.in_ok-of_expr-in-Chain.ensures) (lent c.args.all (λ ss. occurrences_in_operations (operations_of (map syntax_of_step ss))) c.in-Chain.rest _ _ _ _ c.as_slice-in-Chain.ensures c.of_steps.ensures))

pub of_expr-returns-in_ok-of_expr-in-Power : goal.of_expr-returns-in_ok-of_expr-in-Power
of_expr-returns-in_ok-of_expr-in-Power t c = whole c.args.all _ _ _ _ _ (ap occurrences_in_expression (expr_read c.args.e.now _ c.in-Power.is ∙ eq.power_syntax _ _ c.in-Power.base c.in-Power.sign c.in-Power.exponent)) (then _ _ _ _ _ _ (lent_on (λ x. occurrences_in_expression (syntax_of_expr x)) c.in-Power.base _ _ _ c.get-in-Power.ensures c.in_ok-of_expr-in-Power.ensures) (lent c.args.all (λ x. occurrences_in_expression (syntax_of_expr x)) c.in-Power.exponent _ _ _ _ c.get-in-Power-2.ensures c.of_expr-in-Power-2.ensures))

pub of_expr-returns-in_ok-add-in-NameSuffixed : goal.of_expr-returns-in_ok-add-in-NameSuffixed
of_expr-returns-in_ok-add-in-NameSuffixed t c = whole c.args.all _ _ _ _ _ (ap occurrences_in_expression (expr_read c.args.e.now _ c.in-NameSuffixed.is ∙ eq.name_suffixed_syntax _ _ c.in-NameSuffixed.suffixes)) (then _ _ _ _ _ _ c.in_ok-add-in-NameSuffixed.ensures (lent c.args.all (λ ss. occurrences_in_suffixes (suffixes_of (map syntax_of_suffix ss))) c.in-NameSuffixed.suffixes _ _ _ _ c.as_slice-in-NameSuffixed.ensures c.of_suffixes.ensures))

pub of_expr-returns-in_ok-of_expr-in-Suffixed : goal.of_expr-returns-in_ok-of_expr-in-Suffixed
of_expr-returns-in_ok-of_expr-in-Suffixed t c = whole c.args.all _ _ _ _ _ (ap occurrences_in_expression (expr_read c.args.e.now _ c.in-Suffixed.is ∙ eq.head_suffixed_syntax _ _ c.in-Suffixed.head c.in-Suffixed.suffixes)) (then _ _ _ _ _ _ (lent_on (λ x. occurrences_in_expression (syntax_of_expr x)) c.in-Suffixed.head _ _ _ c.get-in-Suffixed.ensures c.in_ok-of_expr-in-Suffixed.ensures) (lent c.args.all (λ ss. occurrences_in_suffixes (suffixes_of (map syntax_of_suffix ss))) c.in-Suffixed.suffixes _ _ _ _ c.as_slice-in-Suffixed.ensures c.of_suffixes-in-Suffixed.ensures))

pub of_field-returns-in_ok-add-in-Named : goal.of_field-returns-in_ok-add-in-Named
of_field-returns-in_ok-add-in-Named t c = whole c.args.all _ _ _ _ _ (ap (λ f. occurrences_in_field (syntax_of_field f)) c.in-Named.is ∙ ap occurrences_in_field (eq.named_syntax c.in-Named.name c.in-Named.value)) (then _ _ _ _ _ _ c.in_ok-add-in-Named.ensures c.of_expr-in-Named.ensures)

pub of_field-returns-in_ok-of_expr-in-Keyed : goal.of_field-returns-in_ok-of_expr-in-Keyed
of_field-returns-in_ok-of_expr-in-Keyed t c = whole c.args.all _ _ _ _ _ (ap (λ f. occurrences_in_field (syntax_of_field f)) c.in-Keyed.is ∙ ap occurrences_in_field (eq.keyed_syntax c.in-Keyed.key c.in-Keyed.value)) (then _ _ _ _ _ _ (lent_on (λ x. occurrences_in_expression (syntax_of_expr x)) c.in-Keyed.key _ _ _ c.get.ensures c.in_ok-of_expr-in-Keyed.ensures) c.of_expr-in-Keyed-2.ensures)

pub of_stat-returns-in_ok-add_locals-in-Local : goal.of_stat-returns-in_ok-add_locals-in-Local
of_stat-returns-in_ok-add_locals-in-Local t c = whole c.args.all _ _ _ _ _ (ap (occurrences_in_statement (held_by c.args.holder) c.args.ended) (stat_read c.args.s.now _ c.in-Local.is ∙ eq.local_syntax _ _ c.in-Local.names c.in-Local.values)) (then _ _ _ _ _ _ (lent_on (λ ns. declared_locals (out-Stat c.args.s.now).to c.args.holder.end (map declared_of ns)) c.in-Local.names _ _ _ c.as_slice.ensures c.in_ok-add_locals-in-Local.ensures) (lent c.args.all (λ xs. occurrences_in_expressions (expressions_of (map syntax_of_expr xs))) c.in-Local.values _ _ _ _ c.as_slice-in-Local.ensures c.of_exprs.ensures))

pub of_stat-returns-in_ok-of_targets-in-Assign : goal.of_stat-returns-in_ok-of_targets-in-Assign
of_stat-returns-in_ok-of_targets-in-Assign t c = whole c.args.all _ _ _ _ _ (ap (occurrences_in_statement (held_by c.args.holder) c.args.ended) (stat_read c.args.s.now _ c.in-Assign.is ∙ eq.assign_syntax _ _ c.in-Assign.targets c.in-Assign.values)) (then _ _ _ _ _ _ (lent_on (λ xs. occurrences_in_targets (expressions_of (map syntax_of_expr xs))) c.in-Assign.targets _ _ _ c.as_slice-in-Assign.ensures c.in_ok-of_targets-in-Assign.ensures) (lent c.args.all (λ xs. occurrences_in_expressions (expressions_of (map syntax_of_expr xs))) c.in-Assign.values _ _ _ _ c.as_slice-in-Assign-2.ensures c.of_exprs-in-Assign.ensures))

pub of_stat-returns-in-Call : goal.of_stat-returns-in-Call
of_stat-returns-in-Call t c = whole c.args.all _ _ _ _ _ (ap (occurrences_in_statement (held_by c.args.holder) c.args.ended) (stat_read c.args.s.now _ c.in-Call.is ∙ eq.call_syntax _ _ c.in-Call.call)) c.of_expr.ensures

pub of_stat-returns-in-Do : goal.of_stat-returns-in-Do
of_stat-returns-in-Do t c = whole c.args.all _ _ _ _ _ (ap (occurrences_in_statement (held_by c.args.holder) c.args.ended) (stat_read c.args.s.now _ c.in-Do.is ∙ eq.do_syntax _ _ c.in-Do.body)) (lent c.args.all (λ b. occurrences_in_block (syntax_of_block b)) c.in-Do.body _ _ _ _ c.get.ensures c.of_block.ensures)

pub of_stat-returns-in_ok-of_expr-in-While : goal.of_stat-returns-in_ok-of_expr-in-While
of_stat-returns-in_ok-of_expr-in-While t c = whole c.args.all _ _ _ _ _ (ap (occurrences_in_statement (held_by c.args.holder) c.args.ended) (stat_read c.args.s.now _ c.in-While.is ∙ eq.while_syntax _ _ c.in-While.test c.in-While.body)) (then _ _ _ _ _ _ (lent_on (λ x. occurrences_in_expression (syntax_of_expr x)) c.in-While.test _ _ _ c.get-in-While.ensures c.in_ok-of_expr-in-While.ensures) (lent c.args.all (λ b. loop_of (span_of (syntax_of_block b)) ∷ occurrences_in_block (syntax_of_block b)) c.in-While.body _ _ _ _ c.get-in-While-2.ensures c.of_loop.ensures))

pub of_stat-returns-in_ok-of_repeated-in-Repeat : goal.of_stat-returns-in_ok-of_repeated-in-Repeat
of_stat-returns-in_ok-of_repeated-in-Repeat t c =
    let head : Occurrence = loop_of (span_of (syntax_of_block c.in-Repeat.body)) in
    let body : List Occurrence = occurrences_in_repeated (out-Stat c.args.s.now).to (syntax_of_block c.in-Repeat.body) in
    whole c.args.all _ _ _ _ _ (ap (occurrences_in_statement (held_by c.args.holder) c.args.ended) (stat_read c.args.s.now _ c.in-Repeat.is ∙ eq.repeat_syntax _ _ c.in-Repeat.body c.in-Repeat.test)) (then _ _ _ (head ∷ body) _ _ (also _ _ _ (head ∷ []) body (lent_on (λ s. loop_of s ∷ []) (span_of (syntax_of_block c.in-Repeat.body)) _ _ _ (span_read c.in-Repeat.body) c.in_ok-add-in-Repeat.ensures) c.in_ok-of_repeated-in-Repeat.ensures) (lent c.args.all (λ x. occurrences_in_expression (syntax_of_expr x)) c.in-Repeat.test _ _ _ _ c.get-in-Repeat.ensures c.of_expr-in-Repeat.ensures))

pub of_stat-returns-in-Some : goal.of_stat-returns-in-Some
of_stat-returns-in-Some t c = whole c.args.all _ _ _ _ _ ((ap (occurrences_in_statement (held_by c.args.holder) c.args.ended) (stat_read c.args.s.now _ c.in-If.is ∙ eq.if_syntax _ _ c.in-If.arms c.in-If.last)) ∙ ap (λ b. occurrences_in_arms (arms_of (map syntax_of_arm c.in-If.arms)) ++ occurrences_in_optional_block (optional_block_of (option_map syntax_of_block b))) c.in-Some.is) (then _ _ _ _ _ _ (lent_on (λ xs. occurrences_in_arms (arms_of (map syntax_of_arm xs))) c.in-If.arms _ _ _ c.as_slice-in-If.ensures c.in_ok-of_arms-in-If.ensures) (lent c.args.all (λ b. occurrences_in_block (syntax_of_block b)) c.in-Some.body _ _ _ _ c.get-in-Some.ensures c.of_block-in-Some.ensures))

pub of_stat-returns-in-None : goal.of_stat-returns-in-None
of_stat-returns-in-None t c = whole_on _ _ _ _ ((ap (occurrences_in_statement (held_by c.args.holder) c.args.ended) (stat_read c.args.s.now _ c.in-If.is ∙ eq.if_syntax _ _ c.in-If.arms c.in-If.last)) ∙ ap (λ b. occurrences_in_arms (arms_of (map syntax_of_arm c.in-If.arms)) ++ occurrences_in_optional_block (optional_block_of (option_map syntax_of_block b))) c.in-None.is ∙ append-nil _) (lent_on (λ xs. occurrences_in_arms (arms_of (map syntax_of_arm xs))) c.in-If.arms _ _ _ c.as_slice-in-If.ensures c.in_ok-of_arms-in-If.ensures)

pub of_stat-returns-in_ok-of_exprs-in-ForIn : goal.of_stat-returns-in_ok-of_exprs-in-ForIn
of_stat-returns-in_ok-of_exprs-in-ForIn t c = whole c.args.all _ _ _ _ _ (ap (occurrences_in_statement (held_by c.args.holder) c.args.ended) (stat_read c.args.s.now _ c.in-ForIn.is ∙ eq.for_in_syntax _ _ c.in-ForIn.names c.in-ForIn.values c.in-ForIn.body)) (then _ _ _ _ _ _ (also _ _ _ _ _ (lent_on (λ s. loop_variables_of s c.in-ForIn.names) (span_of (syntax_of_block c.in-ForIn.body)) _ _ _ (span_read _ ∙ ap (λ b. span_of (syntax_of_block b)) c.get-body-in-ForIn.ensures) (lent_on (λ ns. loop_variables_of (from_to (out-Block c.get-body-in-ForIn.result.now).from (out-Block c.get-body-in-ForIn.result.now).to) ns) c.in-ForIn.names _ _ _ (c.as_slice-in-ForIn.ensures ∙ c.get-in-ForIn.ensures) c.in_ok-add_loop_variables-in-ForIn.ensures)) (lent_on (λ xs. occurrences_in_expressions (expressions_of (map syntax_of_expr xs))) c.in-ForIn.values _ _ _ c.as_slice-in-ForIn-2.ensures c.in_ok-of_exprs-in-ForIn.ensures)) (lent c.args.all (λ b. loop_of (span_of (syntax_of_block b)) ∷ occurrences_in_block (syntax_of_block b)) c.in-ForIn.body _ _ _ _ c.get-body-in-ForIn.ensures c.of_loop-in-ForIn.ensures))

pub of_stat-returns-in_ok-add_method-in-Function : goal.of_stat-returns-in_ok-add_method-in-Function
of_stat-returns-in_ok-add_method-in-Function t c = whole c.args.all _ _ _ _ _ (ap (occurrences_in_statement (held_by c.args.holder) c.args.ended) (stat_read c.args.s.now _ c.in-Function.is ∙ eq.function_stat_syntax _ _ c.in-Function.path c.in-Function.method c.in-Function.body)) (then _ _ _ _ _ _ (also _ _ _ _ _ (lent_on (λ p. path_of (first_of_path p) (rest_of_path p) c.in-Function.method) c.in-Function.path _ _ _ c.as_slice-in-Function.ensures c.in_ok-add_path-in-Function.ensures) (lent_on (λ s. method_of s c.in-Function.method) (span_of (body_of (syntax_of_body c.in-Function.body))) _ _ _ (body_span_read _ ∙ ap (λ f. span_of (body_of (syntax_of_body f))) c.get-body-in-Function.ensures) c.in_ok-add_method-in-Function.ensures)) (lent c.args.all (λ f. occurrences_in_body (syntax_of_body f)) c.in-Function.body _ _ _ _ c.get-body-in-Function.ensures c.of_body.ensures))

pub of_stat-returns-in_ok-add-in-LocalFunction : goal.of_stat-returns-in_ok-add-in-LocalFunction
of_stat-returns-in_ok-add-in-LocalFunction t c = whole c.args.all _ _ _ _ _ (ap (occurrences_in_statement (held_by c.args.holder) c.args.ended) (stat_read c.args.s.now _ c.in-LocalFunction.is ∙ eq.local_function_syntax _ _ c.in-LocalFunction.name c.in-LocalFunction.body)) (then _ _ _ _ _ _ (lent_on (λ n. LocalFunction c.in-LocalFunction.name n c.args.holder.end ∷ []) (span_of_body (syntax_of_body c.in-LocalFunction.body)).from _ _ _ (whole_body_read _ ∙ ap (λ f. (span_of_body (syntax_of_body f)).from) c.get-body-in-LocalFunction.ensures) c.in_ok-add-in-LocalFunction.ensures) (lent c.args.all (λ f. occurrences_in_body (syntax_of_body f)) c.in-LocalFunction.body _ _ _ _ c.get-body-in-LocalFunction.ensures c.of_body-in-LocalFunction.ensures))

pub of_stat-returns-in-Return : goal.of_stat-returns-in-Return
of_stat-returns-in-Return t c = whole c.args.all _ _ _ _ _ (ap (occurrences_in_statement (held_by c.args.holder) c.args.ended) (stat_read c.args.s.now _ c.in-Return.is ∙ eq.return_syntax _ _ c.in-Return.values)) (lent c.args.all (λ xs. occurrences_in_expressions (expressions_of (map syntax_of_expr xs))) c.in-Return.values _ _ _ _ c.as_slice-in-Return.ensures c.of_exprs-in-Return.ensures)

pub of_suffix-returns-in-Index : goal.of_suffix-returns-in-Index
of_suffix-returns-in-Index t c = whole c.args.all _ _ _ _ _ (ap (λ s. occurrences_in_suffix (syntax_of_suffix s)) c.in-Index.is ∙ ap occurrences_in_suffix (eq.index_syntax c.in-Index.index)) (lent c.args.all (λ x. occurrences_in_expression (syntax_of_expr x)) c.in-Index.index _ _ _ _ c.get.ensures c.of_expr.ensures)

pub of_suffix-returns-in-Call : goal.of_suffix-returns-in-Call
of_suffix-returns-in-Call t c = whole c.args.all _ _ _ _ _ (ap (λ s. occurrences_in_suffix (syntax_of_suffix s)) c.in-Call.is ∙ ap occurrences_in_suffix (eq.call_suffix_syntax c.in-Call.args) ∙ ap occurrences_in_arguments (args_read c.in-Call.args)) (lent c.args.all (λ xs. occurrences_in_expressions (expressions_of (map syntax_of_expr xs))) (out-Args c.in-Call.args).items _ _ _ _ c.as_slice.ensures c.of_exprs.ensures)

pub of_suffix-returns-in_ok-add-in-Method : goal.of_suffix-returns-in_ok-add-in-Method
of_suffix-returns-in_ok-add-in-Method t c = whole c.args.all _ _ _ _ _ (ap (λ s. occurrences_in_suffix (syntax_of_suffix s)) c.in-Method.is ∙ ap occurrences_in_suffix (eq.method_syntax c.in-Method.name c.in-Method.args) ∙ ap (λ x. Field c.in-Method.name ∷ occurrences_in_arguments x) (args_read c.in-Method.args)) (then _ _ _ _ _ _ c.in_ok-add-in-Method.ensures (lent c.args.all (λ xs. occurrences_in_expressions (expressions_of (map syntax_of_expr xs))) (out-Args c.in-Method.args).items _ _ _ _ c.as_slice-in-Method.ensures c.of_exprs-in-Method.ensures))

pub of_target-returns-in-Some : goal.of_target-returns-in-Some
of_target-returns-in-Some t c = whole c.args.all _ _ _ _ _ (assigned (syntax_of_expr c.args.e.now) _ c.in-Some.name c.in-Some.ensures) c.add.ensures

pub of_target-returns-in-None : goal.of_target-returns-in-None
of_target-returns-in-None t c = whole c.args.all _ _ _ _ _ (only_read (syntax_of_expr c.args.e.now) _ c.in-None.ensures) c.of_expr.ensures

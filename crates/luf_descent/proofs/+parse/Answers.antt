use Rattle.std.proofs.Common.{◌+◌, ◌≤◌, [], ◌∷◌, ◌++◌, length, refl, arith, ap, sym, ◌∙◌}
use Rattle.luf_lex.specs.Tokens.{toks_of}
use Rattle.luf_lex.specs.declared.token.Word.TheVariants as word
use Rattle.luf_tree.specs.declared.tree.Expr.{Expr, out-Expr}
use Rattle.luf_tree.specs.declared.tree.Stat.{Stat, out-Stat}
use Rattle.luf_tree.specs.Grammar.{AreSteps, AreStats, IsToken, last_stat, name_head, no_else, no_for_step, no_stats, one_step, operand_expr, paren_head, IsOperand, IsExpr, IsParen, IsStat, IsSimple}
use Rattle.luf_tree.specs.Level.{expr_levels, field_levels, suffix_levels, step_levels, stat_levels, arm_levels}
use Rattle.luf_tree.proofs.LevelEquations.{step_of_levels}
use Rattle.luf_descent.specs.Reads.{Found}
use Rattle.luf_descent.specs.Shapes.{IsShaped}
use Rattle.luf_descent.specs.Parts.{ReadOperand, ReadPower, ReadFunction, ReadWhile, ReadRepeat, ReadFunctionStat, ReadLocal, ReadFor}
use Rattle.luf_descent.specs.PartStops.{StopsChain, StopsOperand, StopsSimple, StopsPrefix, StopsParen, StopsStat, StopsCount}
use Rattle.luf_descent.specs.declared.prefixes.PrefixExpr.{PrefixExpr}
use Rattle.luf_descent.proofs.Answering.{arms_found, assigned_within, count_further, exprs_found, fields_end_found, fields_found, known_from_made, made_args_known, made_block_known, made_body_known, steps_further, string_within, suffixes_found, targets_found, token_within}
use Rattle.luf_descent.proofs.ArgStops.{lone_fields, lone_missing, lone_string_deep, lone_table_deep}
use Rattle.luf_descent.proofs.BlockStops.{return_exprs, return_missing, stat_expr, stat_short, stat_word}
use Rattle.luf_descent.proofs.BracketStops.{body_block, body_close, body_end, body_open, body_params, head_missing, paren_close, paren_deep, paren_inside, table_close, table_deep, table_fields, table_open}
use Rattle.luf_descent.proofs.BranchStops.{arm_block, arm_deep, arm_test, arm_then, else_block, else_deep, if_arms, if_else, if_end}
use Rattle.luf_descent.proofs.ChainStops.{expr_chain, expr_grown, expr_grows, expr_known, expr_operand, no_precedence}
use Rattle.luf_descent.proofs.CountStops.{count_do, count_ended, count_first, count_limit, count_second, count_step}
use Rattle.luf_descent.proofs.Exactness.{is_at, not_at, ok_made}
use Rattle.luf_descent.proofs.ExprParts.{block_found, call_found, chain_found, dot_found, func_body_found, function_found, index_found, item_found, keyed_found, list_args_found, made_args, made_block, made_body, method_found, name_found, named_found, no_args_found, operand_found, operator_at, paren_found, power_found, prefix_found, return_nothing_found, return_values_found, shaped_prefix, simple_found, string_arg_found, suffixed_found, table_arg_found, table_expr_found, table_found, unary_found, weaken, weaken_found}
use Rattle.luf_descent.proofs.ExprStops.{exponent_deep, exponent_stops, function_body, function_deep, operand_end, operand_power, power_base, simple_end, unary_deep, unary_operand}
use Rattle.luf_descent.proofs.FieldStops.{field_keyed, item_value, keyed_close, keyed_equal, keyed_value, simple_function, simple_table, table_expr_stops}
use Rattle.luf_descent.proofs.ForStops.{for_count, for_do, for_ended, for_in, for_names, for_values, step_value}
use Rattle.luf_descent.proofs.FunctionStops.{function_stat_body, function_stat_deep, function_stat_method, function_stat_path, local_function_body, local_function_deep, local_function_name, local_names_stop, local_values_stop}
use Rattle.luf_descent.proofs.Joining.{joins_end, joins_last, level_end, level_more, level_none}
use Rattle.luf_descent.proofs.Knowing.{beyond, err_map, here_stops, made_memory, memory_stops, ok_map, on, room_self, stopped, token_stops}
use Rattle.luf_descent.proofs.KnownExprs.{args_known, base_known, call_known, dot_known, field_known, function_known, function_made, index_known, item_known, keyed_known, leaf_known, list_args_known, lone_known, lone_string_known, lone_table_known, method_known, name_known, named_known, no_args_known, operand_known, paren_head_known, paren_known, power_known, prefix_known, prefixed_known, suffixed_known, table_expr_known, table_known, table_made, unary_known}
use Rattle.luf_descent.proofs.KnownStats.{arm_known, assign_further, assign_known, assign_stat_known, body_known, call_stat_known, count_known, do_known, else_known, ended_known, expr_stat_known, for_count_known, for_in_known, function_stat_known, if_known, local_function_known, local_known, local_values_known, no_else_known, no_step_known, repeat_known, return_empty_known, return_known, short_known, step_known, variable_known, while_known, word_known}
use Rattle.luf_descent.proofs.ListStops.{args_listed, args_single, call_args, dot_name, index_close, index_deep, index_key, keyed_deep, keyed_key, list_close, list_deep, list_exprs, method_args, method_name, named_value}
use Rattle.luf_descent.proofs.SoFar.{arms_known, arms_more, arms_stop, block_end_known, block_last_known, block_return, block_stop, chain_known, chain_stop, exprs_known, exprs_more, exprs_stop, fields_all, fields_known, fields_more, fields_stop, so_far_start, stats_more, steps_more, steps_start, suffixes_known, suffixes_more, suffixes_start, suffixes_stop, targets_known, targets_more, targets_start, targets_stop}
use Rattle.luf_descent.proofs.StatParts.{arm_found, assign_found, call_shaped, do_found, else_found, ended_found, for_found, for_in_found, for_step_found, function_stat_found, if_found, local_found, local_function_found, local_values_found, repeat_found, while_found}
use Rattle.luf_descent.proofs.StatStops.{do_stops, ended_body, ended_close, ended_deep, repeat_body, repeat_deep, repeat_test, repeat_until, while_do, while_ended, while_test}
use Rattle.luf_descent.proofs.TargetStops.{assign_sign, assign_targets, assign_values, head_paren, prefix_head, prefix_suffixes, simple_prefix, stat_assign, stat_prefix, stat_refused, variable_refused, variable_stops}
use Rattle.luf_descent.proofs.+parse.Goals as goal

pub expressions::expr-chains-init : goal.expressions::expr-chains-init
expressions::expr-chains-init t c = record { grown = expr_grown c.in_ok-whole.ensures.known; part = operand_found c.in_ok-whole.ensures.ok; least = operand_expr c.in_ok-whole.ensures.ok.is }

pub expressions::expr-chains-preserved : goal.expressions::expr-chains-preserved
expressions::expr-chains-preserved t c = let h0 = c.in_ok-whole-2.ensures in record { grown = expr_grows c.chains.invariant.grown (sym c.precedence_at-precedence.ensures.value) (omega arith) h0.further h0.known; part = weaken_found (omega (arith, h0.ends)) h0.ok; least = weaken c.args.least (omega arith) h0.ok.is }

pub expressions::expr-returns-then-precedence-least-clause-ok : goal.expressions::expr-returns-then-precedence-least-clause-ok
expressions::expr-returns-then-precedence-least-clause-ok t c = record { is = c.chains.invariant.least; ends = c.chains.invariant.part.ends; level = c.chains.invariant.part.level }

pub expressions::expr-returns-then-precedence-least-clause-known : goal.expressions::expr-returns-then-precedence-least-clause-known
expressions::expr-returns-then-precedence-least-clause-known t c = expr_known c.chains.invariant.grown (omega (arith, c.precedence_at-precedence.ensures.value))

pub expressions::expr-returns-in_err-whole-clause-stops : goal.expressions::expr-returns-in_err-whole-clause-stops
expressions::expr-returns-in_err-whole-clause-stops t c = λ within. stopped _ c.from_residual.ensures.1 (expr_operand (c.in_err-whole.ensures.stops within))

pub expressions::expr-returns-in_err-whole-2-clause-stops : goal.expressions::expr-returns-in_err-whole-2-clause-stops
expressions::expr-returns-in_err-whole-2-clause-stops t c = λ within. stopped _ c.from_residual-in_err-whole-2.ensures.1 (expr_chain c.chains.invariant.grown (on c.chains.invariant.part) (sym c.precedence_at-precedence.ensures.value) (omega arith) c.in_err-whole-2.ensures.stops)

pub expressions::chain-loop-next-init : goal.expressions::chain-loop-next-init
expressions::chain-loop-next-init t c = record { steps = steps_start c.new-rest.ensures c.requires.next; level = level_none step_levels _ _ c.new-rest.ensures }

pub expressions::chain-loop-next-preserved : goal.expressions::chain-loop-next-preserved
expressions::chain-loop-next-preserved t c = let h0 = c.in-Some.ensures in let n = h0.token.next in let t : IsToken (toks_of c.args.cut.now) c.loop-next.sign c.in-Some.field-0-0 c.in-Some.next = record { there = cc h0.token.there; next = omega (arith, h0.token.next, c.in-Some.next-is) } in let h1 = c.in_ok-right.ensures in record { steps = steps_more c.loop-next.invariant.steps c.requires.low c.in_ok-push.ensures.ok t h1.ok h1.known (omega (arith, c.precedence_at.ensures.value)); level = level_more step_levels _ _ _ _ c.loop-next.invariant.level c.in_ok-push.ensures.ok (omega (arith, step_of_levels c.loop-next.sign c.in_ok-right.right, h1.ok.level)) }

pub expressions::chain-returns-then-precedence_at-precedence-clause-ok : goal.expressions::chain-returns-then-precedence_at-precedence-clause-ok
expressions::chain-returns-then-precedence_at-precedence-clause-ok t c = let h0 = c.in-Some.ensures in let n = h0.token.next in let t : IsToken (toks_of c.args.cut.now) c.loop-next.sign c.in-Some.field-0-0 c.in-Some.next = record { there = cc h0.token.there; next = omega (arith, h0.token.next, c.in-Some.next-is) } in let h1 = c.in_ok-right.ensures in let steps = c.loop-next.invariant.steps in let further = steps_further steps t h1.ok in ok_made (λ (e : Expr). Found (toks_of c.args.cut.now) (c.args.at + 1) (out-Expr e).to c.args.left (expr_levels e) (IsExpr (toks_of c.args.cut.now) c.args.precedence c.args.at (out-Expr e).to e)) _ c.chain.ensures.made (chain_found c.requires.low c.requires.first (joins_last (AreSteps (toks_of c.args.cut.now) c.args.precedence) _ _ _ _ _ _ (steps.joins _ (room_self _ _)) (c.exact.ensures ∙ c.in_ok-push.ensures.ok) (one_step t (operator_at c.args.precedence t steps.operator) h1.ok.is)) further h1.ok.ends.within (level_more step_levels _ _ _ _ c.loop-next.invariant.level (c.exact.ensures ∙ c.in_ok-push.ensures.ok) (omega (arith, step_of_levels c.loop-next.sign c.in_ok-right.right, h1.ok.level))))

pub expressions::chain-returns-then-precedence_at-precedence-clause-further : goal.expressions::chain-returns-then-precedence_at-precedence-clause-further
expressions::chain-returns-then-precedence_at-precedence-clause-further t c = let h0 = c.in-Some.ensures in let n = h0.token.next in let t : IsToken (toks_of c.args.cut.now) c.loop-next.sign c.in-Some.field-0-0 c.in-Some.next = record { there = cc h0.token.there; next = omega (arith, h0.token.next, c.in-Some.next-is) } in ok_made (λ (e : Expr). (out-Expr c.args.first).to ≤ (out-Expr e).to) _ c.chain.ensures.made (steps_further c.loop-next.invariant.steps t c.in_ok-right.ensures.ok)

pub expressions::chain-returns-then-precedence_at-precedence-clause-known : goal.expressions::chain-returns-then-precedence_at-precedence-clause-known
expressions::chain-returns-then-precedence_at-precedence-clause-known t c = let h0 = c.in-Some.ensures in let n = h0.token.next in let t : IsToken (toks_of c.args.cut.now) c.loop-next.sign c.in-Some.field-0-0 c.in-Some.next = record { there = cc h0.token.there; next = omega (arith, h0.token.next, c.in-Some.next-is) } in let h1 = c.in_ok-right.ensures in known_from_made (λ (e : Expr). (out-Expr e).to) _ c.chain.ensures.made (chain_known c.args.at c.args.first c.loop-next.invariant.steps c.requires.low (c.exact.ensures ∙ c.in_ok-push.ensures.ok) t h1.ok h1.known (λ is. omega (arith, c.precedence_at.ensures.value)))

pub expressions::chain-returns-then-precedence_at-precedence-clause-stops : goal.expressions::chain-returns-then-precedence_at-precedence-clause-stops
expressions::chain-returns-then-precedence_at-precedence-clause-stops t c = made_memory (StopsChain (toks_of c.args.cut.now) c.args.precedence c.args.left c.args.at c.args.first) _ c.chain.ensures.memory (memory_stops refl)

pub expressions::chain-returns-in_default-clause-stops : goal.expressions::chain-returns-in_default-clause-stops
expressions::chain-returns-in_default-clause-stops t c = absurd (no_precedence (toks_of c.args.cut.now) c.loop-next.sign c.in_default.ensures.end c.requires.low c.loop-next.invariant.steps.operator)

pub expressions::chain-returns-in_err-right-clause-stops : goal.expressions::chain-returns-in_err-right-clause-stops
expressions::chain-returns-in_err-right-clause-stops t c = let h0 = c.in-Some.ensures in let n = h0.token.next in let t : IsToken (toks_of c.args.cut.now) c.loop-next.sign c.in-Some.field-0-0 c.in-Some.next = record { there = cc h0.token.there; next = omega (arith, h0.token.next, c.in-Some.next-is) } in stopped _ c.from_residual.ensures.1 (chain_stop c.loop-next.invariant.steps c.requires.low c.requires.first c.loop-next.invariant.level t (c.in_err-right.ensures.stops (omega (arith, h0.within, c.in-Some.next-is))))

pub expressions::operand-returns-in_default-clause-stops : goal.expressions::operand-returns-in_default-clause-stops
expressions::operand-returns-in_default-clause-stops t c = λ within. here_stops (c.refusal.ensures within) (operand_end c.in_default.ensures.end within)

pub expressions::operand-returns-then-is_unary : goal.expressions::operand-returns-then-is_unary
expressions::operand-returns-then-is_unary t c = record { ok = let h0 = c.in-Some.ensures in let t : IsToken (toks_of c.args.cut.now) c.args.at c.in-Some.tok c.in-Some.next = record { there = cc (h0.token.there, c.in-Some.tok-is); next = omega (arith, h0.token.next, c.in-Some.next-is) } in let w : c.in-Some.next ≤ length (toks_of c.args.cut.now) = omega (arith, h0.within, c.in-Some.next-is) in ok_made (λ (e : Expr). Found (toks_of c.args.cut.now) (c.args.at + 1) (out-Expr e).to c.args.left (expr_levels e) (IsOperand (toks_of c.args.cut.now) c.args.at (out-Expr e).to e)) _ c.unary.ensures.made (unary_found t (cc (c.is_unary.ensures, c.if-is_unary.true)) c.in_ok-inner.ensures.ok c.in_ok-operand.ensures.ok); known = let h0 = c.in-Some.ensures in let t : IsToken (toks_of c.args.cut.now) c.args.at c.in-Some.tok c.in-Some.next = record { there = cc (h0.token.there, c.in-Some.tok-is); next = omega (arith, h0.token.next, c.in-Some.next-is) } in let w : c.in-Some.next ≤ length (toks_of c.args.cut.now) = omega (arith, h0.within, c.in-Some.next-is) in known_from_made (λ (e : Expr). (out-Expr e).to) _ c.unary.ensures.made (unary_known t (cc (c.is_unary.ensures, c.if-is_unary.true)) c.in_ok-operand.ensures.ok c.in_ok-operand.ensures.known); stops = λ within. made_memory (StopsOperand (toks_of c.args.cut.now) c.args.left c.args.at (λ l n. ReadOperand l n c.args.at)) _ c.unary.ensures.memory (memory_stops refl) }

pub expressions::operand-returns-in_err-inner-clause-stops : goal.expressions::operand-returns-in_err-inner-clause-stops
expressions::operand-returns-in_err-inner-clause-stops t c = let h0 = c.in-Some.ensures in let t : IsToken (toks_of c.args.cut.now) c.args.at c.in-Some.tok c.in-Some.next = record { there = cc (h0.token.there, c.in-Some.tok-is); next = omega (arith, h0.token.next, c.in-Some.next-is) } in let w : c.in-Some.next ≤ length (toks_of c.args.cut.now) = omega (arith, h0.within, c.in-Some.next-is) in let f = c.in_err-inner.ensures.full (token_within t w) in λ within. stopped _ c.from_residual.ensures.1 (here_stops f.is (unary_deep t (cc (c.is_unary.ensures, c.if-is_unary.true)) w f.none))

pub expressions::operand-returns-in_err-operand-clause-stops : goal.expressions::operand-returns-in_err-operand-clause-stops
expressions::operand-returns-in_err-operand-clause-stops t c = let h0 = c.in-Some.ensures in let t : IsToken (toks_of c.args.cut.now) c.args.at c.in-Some.tok c.in-Some.next = record { there = cc (h0.token.there, c.in-Some.tok-is); next = omega (arith, h0.token.next, c.in-Some.next-is) } in let w : c.in-Some.next ≤ length (toks_of c.args.cut.now) = omega (arith, h0.within, c.in-Some.next-is) in λ within. stopped _ c.from_residual-in_err-operand.ensures.1 (unary_operand t (cc (c.is_unary.ensures, c.if-is_unary.true)) c.in_ok-inner.ensures.ok (c.in_err-operand.ensures.stops w))

pub expressions::operand-returns-clause-known : goal.expressions::operand-returns-clause-known
expressions::operand-returns-clause-known t c = let h0 = c.in-Some.ensures in let t : IsToken (toks_of c.args.cut.now) c.args.at c.in-Some.tok c.in-Some.next = record { there = cc (h0.token.there, c.in-Some.tok-is); next = omega (arith, h0.token.next, c.in-Some.next-is) } in let w : c.in-Some.next ≤ length (toks_of c.args.cut.now) = omega (arith, h0.within, c.in-Some.next-is) in ok_map _ c.power.ensures.ok c.power.ensures.known (λ e ok known. operand_known t (cc (c.is_unary.ensures, c.if-is_unary.false)) (on ok) known)

pub expressions::operand-returns-clause-stops : goal.expressions::operand-returns-clause-stops
expressions::operand-returns-clause-stops t c = let h0 = c.in-Some.ensures in let t : IsToken (toks_of c.args.cut.now) c.args.at c.in-Some.tok c.in-Some.next = record { there = cc (h0.token.there, c.in-Some.tok-is); next = omega (arith, h0.token.next, c.in-Some.next-is) } in let w : c.in-Some.next ≤ length (toks_of c.args.cut.now) = omega (arith, h0.within, c.in-Some.next-is) in λ within. err_map _ (c.power.ensures.stops within) (λ e h. operand_power t (cc (c.is_unary.ensures, c.if-is_unary.false)) h)

pub expressions::power-returns : goal.expressions::power-returns
expressions::power-returns t c = record { ok = ok_made (λ (e : Expr). Found (toks_of c.args.cut.now) (c.args.at + 1) (out-Expr e).to c.args.left (expr_levels e) (IsOperand (toks_of c.args.cut.now) c.args.at (out-Expr e).to e)) _ c.power.ensures.made (power_found c.in_ok-base.ensures.ok c.in-Some.ensures.token c.in_ok-inner.ensures.ok c.in_ok-exponent.ensures.ok); known = known_from_made (λ (e : Expr). (out-Expr e).to) _ c.power.ensures.made (power_known c.in_ok-base.ensures.known c.in-Some.ensures.token c.in_ok-exponent.ensures.ok c.in_ok-exponent.ensures.known); stops = λ within. made_memory (StopsOperand (toks_of c.args.cut.now) c.args.left c.args.at (λ l n. ReadPower l n c.args.at)) _ c.power.ensures.memory (memory_stops refl) }

pub expressions::power-returns-in_default : goal.expressions::power-returns-in_default
expressions::power-returns-in_default t c = record { ok = simple_found c.in_ok-base.ensures.ok; known = base_known c.in_default.ensures.other c.in_ok-base.ensures.known; stops = λ _. tt }

pub expressions::power-returns-in_err-base-clause-stops : goal.expressions::power-returns-in_err-base-clause-stops
expressions::power-returns-in_err-base-clause-stops t c = λ within. stopped _ c.from_residual.ensures.1 (power_base (c.in_err-base.ensures.stops within))

pub expressions::power-returns-in_err-inner-clause-stops : goal.expressions::power-returns-in_err-inner-clause-stops
expressions::power-returns-in_err-inner-clause-stops t c = λ within. stopped _ c.from_residual-in_err-inner.ensures.1 (let f = c.in_err-inner.ensures.full (token_within c.in-Some.ensures.token c.in-Some.ensures.within) in let h0 = c.in_ok-base.ensures.ok in here_stops f.is (exponent_deep h0.is (on h0) h0.level c.in-Some.ensures.token c.in-Some.ensures.within f.none))

pub expressions::power-returns-in_err-exponent-clause-stops : goal.expressions::power-returns-in_err-exponent-clause-stops
expressions::power-returns-in_err-exponent-clause-stops t c = λ within. stopped _ c.from_residual-in_err-exponent.ensures.1 (let h0 = c.in_ok-base.ensures.ok in exponent_stops h0.is (on h0) refl h0.level c.in_ok-base.ensures.known c.in-Some.ensures.token c.in_ok-inner.ensures.ok (c.in_err-exponent.ensures.stops c.in-Some.ensures.within))

pub expressions::simple-returns : goal.expressions::simple-returns
expressions::simple-returns t c = record { ok = prefix_found c.in_ok-found.found.shape c.in_ok-found.ensures.ok c.in_ok-found.ensures.closed; known = let h0 = c.in-Some.ensures in let t : IsToken (toks_of c.args.cut.now) c.args.at c.in-Some.tok c.in-Some.to = record { there = cc (h0.token.there, c.in-Some.tok-is); next = omega (arith, h0.token.next, c.in-Some.to-is) } in prefixed_known t (cc (c.leaf.ensures.kind, c.in_default-leaf.is)) c.in_default-eat.ensures.other (not_at _ c.is_at.ensures c.if-is_at.false) (on c.in_ok-found.ensures.ok) c.in_ok-found.ensures.known; stops = λ _. tt }

pub expressions::simple-returns-in-Some-leaf : goal.expressions::simple-returns-in-Some-leaf
expressions::simple-returns-in-Some-leaf t c = record { ok = let h0 = c.in-Some.ensures in let t : IsToken (toks_of c.args.cut.now) c.args.at c.in-Some.tok c.in-Some.to = record { there = cc (h0.token.there, c.in-Some.tok-is); next = omega (arith, h0.token.next, c.in-Some.to-is) } in let leaf = c.in-Some-leaf.ensures.leaf (toks_of c.args.cut.now) c.args.at c.in-Some.to t in record { is = leaf.0; ends = record { forward = omega (arith, t.next); within = omega (arith, h0.within, c.in-Some.to-is) }; level = omega (arith, leaf.1) }; known = let h0 = c.in-Some.ensures in let t : IsToken (toks_of c.args.cut.now) c.args.at c.in-Some.tok c.in-Some.to = record { there = cc (h0.token.there, c.in-Some.tok-is); next = omega (arith, h0.token.next, c.in-Some.to-is) } in leaf_known t (cc (c.leaf.ensures.kind, c.in-Some-leaf.is)); stops = λ _. tt }

pub expressions::simple-returns-in_default-clause-stops : goal.expressions::simple-returns-in_default-clause-stops
expressions::simple-returns-in_default-clause-stops t c = λ within. here_stops (c.refusal.ensures within) (simple_end c.in_default.ensures.end within)

pub expressions::simple-returns-in_err-found-clause-stops : goal.expressions::simple-returns-in_err-found-clause-stops
expressions::simple-returns-in_err-found-clause-stops t c = let h0 = c.in-Some.ensures in let t : IsToken (toks_of c.args.cut.now) c.args.at c.in-Some.tok c.in-Some.to = record { there = cc (h0.token.there, c.in-Some.tok-is); next = omega (arith, h0.token.next, c.in-Some.to-is) } in λ within. stopped _ c.from_residual.ensures.1 (simple_prefix t (cc (c.leaf.ensures.kind, c.in_default-leaf.is)) c.in_default-eat.ensures.other (not_at _ c.is_at.ensures c.if-is_at.false) (c.in_err-found.ensures.stops within))

pub expressions::simple-returns-in-Some-eat-clause-known : goal.expressions::simple-returns-in-Some-eat-clause-known
expressions::simple-returns-in-Some-eat-clause-known t c = ok_map _ c.function.ensures.ok c.function.ensures.known (λ e ok known. function_known c.in-Some-eat.ensures.token (on ok) known)

pub expressions::simple-returns-in-Some-eat-clause-stops : goal.expressions::simple-returns-in-Some-eat-clause-stops
expressions::simple-returns-in-Some-eat-clause-stops t c = λ within. err_map _ (c.function.ensures.stops c.in-Some-eat.ensures.within) (λ e h. simple_function c.in-Some-eat.ensures.token h)

pub expressions::simple-returns-then-is_at-clause-known : goal.expressions::simple-returns-then-is_at-clause-known
expressions::simple-returns-then-is_at-clause-known t c = ok_map _ c.table_expr.ensures.ok c.table_expr.ensures.known (λ e ok known. table_expr_known (is_at _ c.is_at.ensures c.if-is_at.true) (on ok) known)

pub expressions::simple-returns-then-is_at-clause-stops : goal.expressions::simple-returns-then-is_at-clause-stops
expressions::simple-returns-then-is_at-clause-stops t c = λ within. err_map _ (c.table_expr.ensures.stops within) (λ e h. simple_table (is_at _ c.is_at.ensures c.if-is_at.true) h)

pub expressions::function-returns : goal.expressions::function-returns
expressions::function-returns t c = record { ok = ok_made (λ (e : Expr). Found (toks_of c.args.cut.now) (c.args.at + 1) (out-Expr e).to c.args.left (expr_levels e) (IsSimple (toks_of c.args.cut.now) c.args.at (out-Expr e).to e)) _ c.function.ensures.made (function_found c.requires.word c.in_ok-inner.ensures.ok c.in_ok-body.ensures.ok); known = known_from_made (λ (e : Expr). (out-Expr e).to) _ c.function.ensures.made (function_made c.in_ok-body.ensures.known); stops = λ within. made_memory (StopsSimple (toks_of c.args.cut.now) c.args.left c.args.at (λ l n. ReadFunction l n c.args.at c.args.next)) _ c.function.ensures.memory (memory_stops refl) }

pub expressions::function-returns-in_err-inner-clause-stops : goal.expressions::function-returns-in_err-inner-clause-stops
expressions::function-returns-in_err-inner-clause-stops t c = λ within. stopped _ c.from_residual.ensures.1 (let f = c.in_err-inner.ensures.full (token_within c.requires.word within) in here_stops f.is (function_deep c.requires.word within f.none))

pub expressions::function-returns-in_err-body-clause-stops : goal.expressions::function-returns-in_err-body-clause-stops
expressions::function-returns-in_err-body-clause-stops t c = λ within. stopped _ c.from_residual-in_err-body.ensures.1 (function_body c.requires.word c.in_ok-inner.ensures.ok (c.in_err-body.ensures.stops within))

pub expressions::exprs-loop-found-init : goal.expressions::exprs-loop-found-init
expressions::exprs-loop-found-init t c = record { read = so_far_start c.new-found.ensures; within = λ w. w; level = level_none expr_levels _ _ c.new-found.ensures }

pub expressions::exprs-loop-found-preserved : goal.expressions::exprs-loop-found-preserved
expressions::exprs-loop-found-preserved t c = let h0 = c.in_ok-one.ensures in record { read = exprs_more c.loop-found.invariant.read c.in_ok-push.ensures.ok h0.ok h0.known c.in-Some.ensures.token; within = λ w. c.in-Some.ensures.within; level = level_more expr_levels _ _ _ _ c.loop-found.invariant.level c.in_ok-push.ensures.ok h0.ok.level }

pub expressions::exprs-returns-in-None : goal.expressions::exprs-returns-in-None
expressions::exprs-returns-in-None t c = record { ok = exprs_found c.loop-found.invariant.read (c.exact.ensures ∙ c.in_ok-push.ensures.ok) c.in_ok-one.ensures.ok c.loop-found.invariant.level; known = exprs_known c.loop-found.invariant.read (c.exact.ensures ∙ c.in_ok-push.ensures.ok) c.in_ok-one.ensures.ok c.in_ok-one.ensures.known c.in-None.ensures.other; stops = λ _. tt }

pub expressions::exprs-returns-in_err-one-clause-stops : goal.expressions::exprs-returns-in_err-one-clause-stops
expressions::exprs-returns-in_err-one-clause-stops t c = λ within. stopped _ c.from_residual.ensures.1 (exprs_stop c.loop-found.invariant.read c.loop-found.invariant.level (c.in_err-one.ensures.stops (c.loop-found.invariant.within within)))

pub tables::table_expr-returns : goal.tables::table_expr-returns
tables::table_expr-returns t c = record { ok = table_expr_found c.in_ok-fields.ensures.ok; known = table_made c.in_ok-fields.ensures.known; stops = λ _. tt }

pub tables::table_expr-returns-in_err-fields-clause-stops : goal.tables::table_expr-returns-in_err-fields-clause-stops
tables::table_expr-returns-in_err-fields-clause-stops t c = λ within. stopped _ c.from_residual.ensures.1 (table_expr_stops (c.in_err-fields.ensures.stops within))

pub tables::table-returns : goal.tables::table-returns
tables::table-returns t c = record { ok = table_found c.in_ok-first.ensures.token c.in_ok-inner.ensures.ok c.in_ok-found.ensures.ok c.in_ok-to.ensures.token c.in_ok-to.ensures.within; known = table_known c.in_ok-first.ensures.token c.in_ok-found.ensures.ok c.in_ok-found.ensures.known c.in_ok-to.ensures.token; stops = λ _. tt }

pub tables::table-returns-in_err-first-clause-stops : goal.tables::table-returns-in_err-first-clause-stops
tables::table-returns-in_err-first-clause-stops t c = λ within. stopped _ c.from_residual.ensures.1 (let m = c.in_err-first.ensures.missing within in here_stops m.is (table_open within m.other))

pub tables::table-returns-in_err-inner-clause-stops : goal.tables::table-returns-in_err-inner-clause-stops
tables::table-returns-in_err-inner-clause-stops t c = λ within. stopped _ c.from_residual-in_err-inner.ensures.1 (let f = c.in_err-inner.ensures.full (token_within c.in_ok-first.ensures.token c.in_ok-first.ensures.within) in here_stops f.is (table_deep c.in_ok-first.ensures.token c.in_ok-first.ensures.within f.none))

pub tables::table-returns-in_err-found-clause-stops : goal.tables::table-returns-in_err-found-clause-stops
tables::table-returns-in_err-found-clause-stops t c = λ within. stopped _ c.from_residual-in_err-found.ensures.1 (table_fields c.in_ok-first.ensures.token c.in_ok-inner.ensures.ok c.in_err-found.ensures.stops)

pub tables::table-returns-in_err-to-clause-stops : goal.tables::table-returns-in_err-to-clause-stops
tables::table-returns-in_err-to-clause-stops t c = λ within. stopped _ c.from_residual-in_err-to.ensures.1 (let h0 = c.in_ok-found.ensures.ok in table_close c.in_ok-first.ensures.token c.in_ok-inner.ensures.ok h0.is h0.ends.forward h0.level c.in_ok-found.ensures.known (token_stops h0.ends.within (c.in_err-to.ensures.missing h0.ends.within)))

pub tables::fields-fields-init : goal.tables::fields-fields-init
tables::fields-fields-init t c = let w = c.requires.within in record { read = so_far_start c.new-found.ensures; within = w; level = level_none field_levels _ _ c.new-found.ensures }

pub tables::fields-fields-preserved : goal.tables::fields-fields-preserved
tables::fields-fields-preserved t c = let h0 = c.in_ok-one.ensures in record { read = fields_more c.fields.invariant.read c.in_ok-push.ensures.ok (not_at _ c.is_at.ensures c.if-is_at.false) h0.ok h0.known c.in-Some.ensures.some; within = c.in-Some.ensures.within; level = level_more field_levels _ _ _ _ c.fields.invariant.level c.in_ok-push.ensures.ok h0.ok.level }

pub tables::fields-returns-in-None : goal.tables::fields-returns-in-None
tables::fields-returns-in-None t c = record { ok = fields_found c.fields.invariant.read (c.exact-in-None.ensures ∙ c.in_ok-push.ensures.ok) c.in_ok-one.ensures.ok c.fields.invariant.level; known = fields_known c.fields.invariant.read (c.exact-in-None.ensures ∙ c.in_ok-push.ensures.ok) (not_at _ c.is_at.ensures c.if-is_at.false) c.in_ok-one.ensures.ok c.in_ok-one.ensures.known c.in-None.ensures.none; stops = tt }

pub tables::fields-returns-then-is_at : goal.tables::fields-returns-then-is_at
tables::fields-returns-then-is_at t c = record { ok = fields_end_found c.fields.invariant.read c.exact.ensures c.fields.invariant.within c.fields.invariant.level; known = fields_all c.fields.invariant.read c.exact.ensures (is_at _ c.is_at.ensures c.if-is_at.true); stops = tt }

pub tables::fields-returns-in_err-one-clause-stops : goal.tables::fields-returns-in_err-one-clause-stops
tables::fields-returns-in_err-one-clause-stops t c = stopped _ c.from_residual.ensures.1 (fields_stop c.fields.invariant.read c.fields.invariant.level (not_at _ c.is_at.ensures c.if-is_at.false) (c.in_err-one.ensures.stops c.fields.invariant.within))

pub tables::field-returns : goal.tables::field-returns
tables::field-returns t c = record { ok = item_found c.in_ok-value-2.ensures.ok; known = item_known c.in_default.ensures.other c.in_default-assigned.ensures.none c.in_ok-value-2.ensures.ok c.in_ok-value-2.ensures.known; stops = λ _. tt }

pub tables::field-returns-in-Some-assigned : goal.tables::field-returns-in-Some-assigned
tables::field-returns-in-Some-assigned t c = record { ok = named_found c.in-Some-assigned.ensures.some.name c.in-Some-assigned.ensures.some.sign c.in_ok-value.ensures.ok; known = named_known c.in-Some-assigned.ensures.some.name c.in-Some-assigned.ensures.some.sign c.in_ok-value.ensures.ok c.in_ok-value.ensures.known; stops = λ _. tt }

pub tables::field-returns-in-Some-clause-known : goal.tables::field-returns-in-Some-clause-known
tables::field-returns-in-Some-clause-known t c = ok_map _ c.keyed.ensures.ok c.keyed.ensures.known (λ r ok known. field_known c.in-Some.ensures.token (on ok) known)

pub tables::field-returns-in-Some-clause-stops : goal.tables::field-returns-in-Some-clause-stops
tables::field-returns-in-Some-clause-stops t c = λ within. err_map _ (c.keyed.ensures.stops c.in-Some.ensures.within) (λ e h. field_keyed c.in-Some.ensures.token h)

pub tables::field-returns-in_err-value-clause-stops : goal.tables::field-returns-in_err-value-clause-stops
tables::field-returns-in_err-value-clause-stops t c = λ within. stopped _ c.from_residual.ensures.1 (named_value c.in-Some-assigned.ensures.some.name c.in-Some-assigned.ensures.some.sign (c.in_err-value.ensures.stops (assigned_within c.in-Some-assigned.ensures.some)))

pub tables::field-returns-in_err-value-2-clause-stops : goal.tables::field-returns-in_err-value-2-clause-stops
tables::field-returns-in_err-value-2-clause-stops t c = λ within. stopped _ c.from_residual-in_err-value-2.ensures.1 (item_value c.in_default.ensures.other c.in_default-assigned.ensures.none (c.in_err-value-2.ensures.stops within))

pub tables::keyed-returns : goal.tables::keyed-returns
tables::keyed-returns t c = record { ok = keyed_found c.requires.sign c.in_ok-inner.ensures.ok c.in_ok-key.ensures.ok c.in_ok-close.ensures.token c.in_ok-from.ensures.token c.in_ok-value.ensures.ok c.in_ok-key-2.ensures; known = keyed_known c.requires.sign c.in_ok-key.ensures.ok c.in_ok-key.ensures.known c.in_ok-close.ensures.token c.in_ok-from.ensures.token c.in_ok-value.ensures.ok c.in_ok-value.ensures.known c.in_ok-key-2.ensures; stops = λ _. tt }

pub tables::keyed-returns-in_err-inner-clause-stops : goal.tables::keyed-returns-in_err-inner-clause-stops
tables::keyed-returns-in_err-inner-clause-stops t c = λ within. stopped _ c.from_residual.ensures.1 (let f = c.in_err-inner.ensures.full (token_within c.requires.sign within) in here_stops f.is (keyed_deep c.requires.sign within f.none))

pub tables::keyed-returns-in_err-key-clause-stops : goal.tables::keyed-returns-in_err-key-clause-stops
tables::keyed-returns-in_err-key-clause-stops t c = λ within. stopped _ c.from_residual-in_err-key.ensures.1 (keyed_key c.requires.sign c.in_ok-inner.ensures.ok (c.in_err-key.ensures.stops within))

pub tables::keyed-returns-in_err-close-clause-stops : goal.tables::keyed-returns-in_err-close-clause-stops
tables::keyed-returns-in_err-close-clause-stops t c = λ within. stopped _ c.from_residual-in_err-close.ensures.1 (let h0 = c.in_ok-key.ensures.ok in keyed_close c.requires.sign c.in_ok-inner.ensures.ok h0.is (on h0) refl h0.level c.in_ok-key.ensures.known (token_stops h0.ends.within (c.in_err-close.ensures.missing h0.ends.within)))

pub tables::keyed-returns-in_err-from-clause-stops : goal.tables::keyed-returns-in_err-from-clause-stops
tables::keyed-returns-in_err-from-clause-stops t c = λ within. stopped _ c.from_residual-in_err-from.ensures.1 (let h0 = c.in_ok-key.ensures.ok in let h1 = c.in_ok-close.ensures in keyed_equal c.requires.sign c.in_ok-inner.ensures.ok h0.is (on h0) refl h0.level c.in_ok-key.ensures.known h1.token (token_stops h1.within (c.in_err-from.ensures.missing h1.within)))

pub tables::keyed-returns-in_err-value-clause-stops : goal.tables::keyed-returns-in_err-value-clause-stops
tables::keyed-returns-in_err-value-clause-stops t c = λ within. stopped _ c.from_residual-in_err-value.ensures.1 (let h0 = c.in_ok-key.ensures.ok in keyed_value c.requires.sign c.in_ok-inner.ensures.ok h0.is (on h0) refl h0.level c.in_ok-key.ensures.known c.in_ok-close.ensures.token c.in_ok-from.ensures.token (c.in_err-value.ensures.stops c.in_ok-from.ensures.within))

pub prefixes::prefix-returns-clause-ok : goal.prefixes::prefix-returns-clause-ok
prefixes::prefix-returns-clause-ok t c = ok_made (λ (p : PrefixExpr). Found (toks_of c.args.cut.now) (c.args.at + 1) (out-Expr p.expr).to c.args.left (expr_levels p.expr) (IsShaped (toks_of c.args.cut.now) c.args.at (out-Expr p.expr).to p.shape p.expr)) _ c.suffixed.ensures.made (suffixed_found c.in_ok-found.calls c.in_ok-head.ensures.ok c.in_ok-head.ensures.head c.in_ok-found.ensures.ok)

pub prefixes::prefix-returns-then-not-begins_suffix-clause-known : goal.prefixes::prefix-returns-then-not-begins_suffix-clause-known
prefixes::prefix-returns-then-not-begins_suffix-clause-known t c = prefix_known c.in_ok-head.ensures.known (cc (c.begins_suffix.ensures, c.if-not-begins_suffix.true))

pub prefixes::prefix-returns-clause-known : goal.prefixes::prefix-returns-clause-known
prefixes::prefix-returns-clause-known t c = known_from_made (λ (p : PrefixExpr). (out-Expr p.expr).to) _ c.suffixed.ensures.made (suffixed_known c.in_ok-head.ensures.known (cc (c.begins_suffix.ensures, c.if-not-begins_suffix.false)) c.in_ok-found.ensures.ok c.in_ok-found.ensures.known)

pub prefixes::prefix-returns-in_err-head-clause-stops : goal.prefixes::prefix-returns-in_err-head-clause-stops
prefixes::prefix-returns-in_err-head-clause-stops t c = λ within. stopped _ c.from_residual.ensures.1 (prefix_head (c.in_err-head.ensures.stops within))

pub prefixes::prefix-returns-in_err-found-clause-stops : goal.prefixes::prefix-returns-in_err-found-clause-stops
prefixes::prefix-returns-in_err-found-clause-stops t c = λ within. stopped _ c.from_residual-in_err-found.ensures.1 (let h0 = c.in_ok-head.ensures in prefix_suffixes h0.head (beyond h0.ok) refl h0.ok.level h0.known (cc (c.begins_suffix.ensures, c.if-not-begins_suffix.false)) (c.in_err-found.ensures.stops h0.ok.ends.within))

pub prefixes::prefix-returns-clause-stops : goal.prefixes::prefix-returns-clause-stops
prefixes::prefix-returns-clause-stops t c = λ within. made_memory (StopsPrefix (toks_of c.args.cut.now) c.args.left c.args.at) _ c.suffixed.ensures.memory (memory_stops refl)

pub prefixes::head-returns-clause-head : goal.prefixes::head-returns-clause-head
prefixes::head-returns-clause-head t c = paren_head c.in_ok-expr.ensures.ok.is

pub prefixes::head-returns-in-Some : goal.prefixes::head-returns-in-Some
prefixes::head-returns-in-Some t c = record { ok = name_found c.in-Some.ensures.token c.in-Some.ensures.within; head = name_head c.in-Some.ensures.token; known = name_known c.in-Some.ensures.token; stops = λ _. tt }

pub prefixes::head-returns-clause-known : goal.prefixes::head-returns-clause-known
prefixes::head-returns-clause-known t c = paren_head_known c.in_default.ensures.other (on c.in_ok-expr.ensures.ok) c.in_ok-expr.ensures.known

pub prefixes::head-returns-in_default-eat-clause-stops : goal.prefixes::head-returns-in_default-eat-clause-stops
prefixes::head-returns-in_default-eat-clause-stops t c = λ within. here_stops (c.refusal.ensures within) (head_missing within c.in_default.ensures.other c.in_default-eat.ensures.other)

pub prefixes::head-returns-in_err-expr-clause-stops : goal.prefixes::head-returns-in_err-expr-clause-stops
prefixes::head-returns-in_err-expr-clause-stops t c = λ within. stopped _ c.from_residual.ensures.1 (head_paren c.in_default.ensures.other (c.in_err-expr.ensures.stops c.in-Some-eat.ensures.within))

pub prefixes::paren-returns : goal.prefixes::paren-returns
prefixes::paren-returns t c = record { ok = ok_made (λ (e : Expr). Found (toks_of c.args.cut.now) (c.args.at + 1) (out-Expr e).to c.args.left (expr_levels e) (IsParen (toks_of c.args.cut.now) c.args.at (out-Expr e).to e)) _ c.paren.ensures.made (paren_found c.requires.sign c.in_ok-inner.ensures.ok c.in_ok-inside.ensures.ok c.in_ok-to.ensures.token c.in_ok-to.ensures.within); known = known_from_made (λ (e : Expr). (out-Expr e).to) _ c.paren.ensures.made (paren_known c.requires.sign c.in_ok-inside.ensures.ok c.in_ok-inside.ensures.known c.in_ok-to.ensures.token); stops = λ within. made_memory (StopsParen (toks_of c.args.cut.now) c.args.left c.args.at) _ c.paren.ensures.memory (memory_stops refl) }

pub prefixes::paren-returns-in_err-inner-clause-stops : goal.prefixes::paren-returns-in_err-inner-clause-stops
prefixes::paren-returns-in_err-inner-clause-stops t c = λ within. stopped _ c.from_residual.ensures.1 (let f = c.in_err-inner.ensures.full (token_within c.requires.sign within) in here_stops f.is (paren_deep c.requires.sign within f.none))

pub prefixes::paren-returns-in_err-inside-clause-stops : goal.prefixes::paren-returns-in_err-inside-clause-stops
prefixes::paren-returns-in_err-inside-clause-stops t c = λ within. stopped _ c.from_residual-in_err-inside.ensures.1 (paren_inside c.requires.sign c.in_ok-inner.ensures.ok (c.in_err-inside.ensures.stops within))

pub prefixes::paren-returns-in_err-to-clause-stops : goal.prefixes::paren-returns-in_err-to-clause-stops
prefixes::paren-returns-in_err-to-clause-stops t c = λ within. stopped _ c.from_residual-in_err-to.ensures.1 (let h0 = c.in_ok-inside.ensures.ok in paren_close c.requires.sign c.in_ok-inner.ensures.ok h0.is (on h0) refl h0.level c.in_ok-inside.ensures.known (token_stops h0.ends.within (c.in_err-to.ensures.missing h0.ends.within)))

pub prefixes::suffixes-loop-found-init : goal.prefixes::suffixes-loop-found-init
prefixes::suffixes-loop-found-init t c = record { read = suffixes_start c.new-found.ensures; within = λ w. w; level = level_none suffix_levels _ _ c.new-found.ensures }

pub prefixes::suffixes-loop-found-preserved : goal.prefixes::suffixes-loop-found-preserved
prefixes::suffixes-loop-found-preserved t c = let h0 = c.in_ok-one.ensures in record { read = suffixes_more c.loop-found.invariant.read c.in_ok-push.ensures.ok h0.ok h0.known (cc (c.begins_suffix.ensures, c.if-not-begins_suffix.false)); within = λ w. h0.ok.ends.within; level = level_more suffix_levels _ _ _ _ c.loop-found.invariant.level c.in_ok-push.ensures.ok h0.ok.level }

pub prefixes::suffixes-returns-then-not-begins_suffix-clause-ok : goal.prefixes::suffixes-returns-then-not-begins_suffix-clause-ok
prefixes::suffixes-returns-then-not-begins_suffix-clause-ok t c = suffixes_found c.loop-found.invariant.read (c.exact.ensures ∙ c.in_ok-push.ensures.ok) c.in_ok-one.ensures.ok c.loop-found.invariant.level

pub prefixes::suffixes-returns-then-not-begins_suffix-clause-known : goal.prefixes::suffixes-returns-then-not-begins_suffix-clause-known
prefixes::suffixes-returns-then-not-begins_suffix-clause-known t c = suffixes_known c.loop-found.invariant.read (c.exact.ensures ∙ c.in_ok-push.ensures.ok) c.in_ok-one.ensures.ok c.in_ok-one.ensures.known (cc (c.begins_suffix.ensures, c.if-not-begins_suffix.true))

pub prefixes::suffixes-returns-in_err-one-clause-stops : goal.prefixes::suffixes-returns-in_err-one-clause-stops
prefixes::suffixes-returns-in_err-one-clause-stops t c = λ within. stopped _ c.from_residual.ensures.1 (suffixes_stop c.loop-found.invariant.read c.loop-found.invariant.level (c.in_err-one.ensures.stops (c.loop-found.invariant.within within)))

pub prefixes::suffix-returns : goal.prefixes::suffix-returns
prefixes::suffix-returns t c = record { ok = call_found c.in_ok-given-2.ensures.ok; known = call_known c.in_default.ensures.other c.in_default-eat.ensures.other c.in_default-eat-2.ensures.other (on c.in_ok-given-2.ensures.ok) c.in_ok-given-2.ensures.known; stops = λ _. tt }

pub prefixes::suffix-returns-in-Some : goal.prefixes::suffix-returns-in-Some
prefixes::suffix-returns-in-Some t c = record { ok = dot_found c.in-Some.ensures.token c.in_ok-to.ensures.token c.in_ok-to.ensures.within; known = dot_known c.in-Some.ensures.token c.in_ok-to.ensures.token; stops = λ _. tt }

pub prefixes::suffix-returns-in-Some-eat-2 : goal.prefixes::suffix-returns-in-Some-eat-2
prefixes::suffix-returns-in-Some-eat-2 t c = record { ok = method_found c.in-Some-eat-2.ensures.token c.in_ok-after.ensures.token c.in_ok-given.ensures.ok; known = method_known c.in-Some-eat-2.ensures.token c.in_ok-after.ensures.token c.in_ok-given.ensures.ok c.in_ok-given.ensures.known; stops = λ _. tt }

pub prefixes::suffix-returns-in-Some-eat : goal.prefixes::suffix-returns-in-Some-eat
prefixes::suffix-returns-in-Some-eat t c = record { ok = index_found c.in-Some-eat.ensures.token c.in_ok-inner.ensures.ok c.in_ok-key.ensures.ok c.in_ok-to-2.ensures.token c.in_ok-to-2.ensures.within c.in_ok-new.ensures; known = index_known c.in-Some-eat.ensures.token c.in_ok-key.ensures.ok c.in_ok-key.ensures.known c.in_ok-to-2.ensures.token c.in_ok-new.ensures; stops = λ _. tt }

pub prefixes::suffix-returns-in_err-to-clause-stops : goal.prefixes::suffix-returns-in_err-to-clause-stops
prefixes::suffix-returns-in_err-to-clause-stops t c = λ within. stopped _ c.from_residual.ensures.1 (let h0 = c.in-Some.ensures in dot_name h0.token (token_stops h0.within (c.in_err-to.ensures.missing h0.within)))

pub prefixes::suffix-returns-in_err-inner-clause-stops : goal.prefixes::suffix-returns-in_err-inner-clause-stops
prefixes::suffix-returns-in_err-inner-clause-stops t c = λ within. stopped _ c.from_residual-in_err-inner.ensures.1 (let h0 = c.in-Some-eat.ensures in let f = c.in_err-inner.ensures.full (token_within h0.token h0.within) in here_stops f.is (index_deep h0.token h0.within f.none))

pub prefixes::suffix-returns-in_err-key-clause-stops : goal.prefixes::suffix-returns-in_err-key-clause-stops
prefixes::suffix-returns-in_err-key-clause-stops t c = λ within. stopped _ c.from_residual-in_err-key.ensures.1 (index_key c.in-Some-eat.ensures.token c.in_ok-inner.ensures.ok (c.in_err-key.ensures.stops c.in-Some-eat.ensures.within))

pub prefixes::suffix-returns-in_err-to-2-clause-stops : goal.prefixes::suffix-returns-in_err-to-2-clause-stops
prefixes::suffix-returns-in_err-to-2-clause-stops t c = λ within. stopped _ c.from_residual-in_err-to-2.ensures.1 (let h0 = c.in_ok-key.ensures.ok in index_close c.in-Some-eat.ensures.token c.in_ok-inner.ensures.ok h0.is (on h0) refl h0.level c.in_ok-key.ensures.known (token_stops h0.ends.within (c.in_err-to-2.ensures.missing h0.ends.within)))

pub prefixes::suffix-returns-in_err-after-clause-stops : goal.prefixes::suffix-returns-in_err-after-clause-stops
prefixes::suffix-returns-in_err-after-clause-stops t c = λ within. stopped _ c.from_residual-in_err-after.ensures.1 (let h0 = c.in-Some-eat-2.ensures in let m = c.in_err-after.ensures.missing h0.within in here_stops m.is (method_name h0.token h0.within m.other))

pub prefixes::suffix-returns-in_err-given-clause-stops : goal.prefixes::suffix-returns-in_err-given-clause-stops
prefixes::suffix-returns-in_err-given-clause-stops t c = λ within. stopped _ c.from_residual-in_err-given.ensures.1 (method_args c.in-Some-eat-2.ensures.token c.in_ok-after.ensures.token (c.in_err-given.ensures.stops c.in_ok-after.ensures.within))

pub prefixes::suffix-returns-in_err-given-2-clause-stops : goal.prefixes::suffix-returns-in_err-given-2-clause-stops
prefixes::suffix-returns-in_err-given-2-clause-stops t c = λ within. stopped _ c.from_residual-in_err-given-2.ensures.1 (call_args c.in_default.ensures.other c.in_default-eat.ensures.other c.in_default-eat-2.ensures.other (c.in_err-given-2.ensures.stops within))

pub prefixes::args-returns-in-Some-clause-known : goal.prefixes::args-returns-in-Some-clause-known
prefixes::args-returns-in-Some-clause-known t c = ok_map _ c.list_args.ensures.ok c.list_args.ensures.known (λ a ok known. args_known c.in-Some.ensures.token (on ok) known)

pub prefixes::args-returns-in-Some-clause-stops : goal.prefixes::args-returns-in-Some-clause-stops
prefixes::args-returns-in-Some-clause-stops t c = λ within. err_map _ (c.list_args.ensures.stops c.in-Some.ensures.within) (λ e h. args_listed c.in-Some.ensures.token h)

pub prefixes::args-returns-clause-known : goal.prefixes::args-returns-clause-known
prefixes::args-returns-clause-known t c = made_args_known _ _ _ _ (lone_known c.in_default.ensures.other (on c.in_ok-item.ensures.ok) c.in_ok-item.ensures.known (c.exact.ensures ∙ c.in_ok-push.ensures.ok ∙ ap (λ xs. xs ++ c.in_ok-item.item ∷ []) c.new-items.ensures))

pub prefixes::args-returns-in_err-item-clause-stops : goal.prefixes::args-returns-in_err-item-clause-stops
prefixes::args-returns-in_err-item-clause-stops t c = λ within. stopped _ c.from_residual.ensures.1 (args_single c.in_default.ensures.other (c.in_err-item.ensures.stops within))

pub prefixes::list_args-returns : goal.prefixes::list_args-returns
prefixes::list_args-returns t c = record { ok = made_args _ _ _ _ (list_args_found c.requires.sign c.in_ok-inner.ensures.ok c.in_ok-items.ensures.ok c.in_ok-to.ensures.token c.in_ok-to.ensures.within); known = made_args_known _ _ _ _ (list_args_known c.in_default.ensures.other c.in_ok-items.ensures.ok c.in_ok-items.ensures.known c.in_ok-to.ensures.token); stops = λ _. tt }

pub prefixes::list_args-returns-in-Some : goal.prefixes::list_args-returns-in-Some
prefixes::list_args-returns-in-Some t c = record { ok = made_args _ _ _ _ (no_args_found _ c.requires.sign c.in_ok-inner.ensures.ok c.in-Some.ensures.token c.in-Some.ensures.within c.new.ensures); known = made_args_known _ _ _ _ (no_args_known c.requires.sign c.in-Some.ensures.token c.new.ensures); stops = λ _. tt }

pub prefixes::list_args-returns-in_err-inner-clause-stops : goal.prefixes::list_args-returns-in_err-inner-clause-stops
prefixes::list_args-returns-in_err-inner-clause-stops t c = λ within. stopped _ c.from_residual.ensures.1 (let f = c.in_err-inner.ensures.full (token_within c.requires.sign within) in here_stops f.is (list_deep c.requires.sign within f.none))

pub prefixes::list_args-returns-in_err-items-clause-stops : goal.prefixes::list_args-returns-in_err-items-clause-stops
prefixes::list_args-returns-in_err-items-clause-stops t c = λ within. stopped _ c.from_residual-in_err-items.ensures.1 (list_exprs c.requires.sign c.in_default.ensures.other c.in_ok-inner.ensures.ok (c.in_err-items.ensures.stops within))

pub prefixes::list_args-returns-in_err-to-clause-stops : goal.prefixes::list_args-returns-in_err-to-clause-stops
prefixes::list_args-returns-in_err-to-clause-stops t c = λ within. stopped _ c.from_residual-in_err-to.ensures.1 (let h0 = c.in_ok-items.ensures.ok in list_close c.requires.sign c.in_default.ensures.other c.in_ok-inner.ensures.ok h0.is (on h0) h0.level c.in_ok-items.ensures.known (token_stops h0.ends.within (c.in_err-to.ensures.missing h0.ends.within)))

pub prefixes::lone_arg-returns-in-Some : goal.prefixes::lone_arg-returns-in-Some
prefixes::lone_arg-returns-in-Some t c = record { ok = string_arg_found _ c.in-Some.ensures.some c.in-Some.ensures.forward c.in_ok-enter.ensures.ok c.in-Some.ensures.within; known = lone_string_known c.in-Some.ensures.some c.in-Some.ensures.forward; stops = λ _. tt }

pub prefixes::lone_arg-returns : goal.prefixes::lone_arg-returns
prefixes::lone_arg-returns t c = record { ok = table_arg_found c.in_ok-inner.ensures.ok c.in_ok-fields.ensures.ok; known = lone_table_known c.in_default.ensures.none (on c.in_ok-fields.ensures.ok) c.in_ok-fields.ensures.known; stops = λ _. tt }

pub prefixes::lone_arg-returns-in_err-enter-clause-stops : goal.prefixes::lone_arg-returns-in_err-enter-clause-stops
prefixes::lone_arg-returns-in_err-enter-clause-stops t c = λ within. stopped _ c.from_residual.ensures.1 (let h0 = c.in-Some.ensures in let f = c.in_err-enter.ensures.full (string_within _ h0.forward h0.within) in here_stops f.is (lone_string_deep h0.some h0.within f.none))

pub prefixes::lone_arg-returns-in_err-expect-clause-stops : goal.prefixes::lone_arg-returns-in_err-expect-clause-stops
prefixes::lone_arg-returns-in_err-expect-clause-stops t c = λ within. stopped _ c.from_residual-in_err-expect.ensures.1 (let m = c.in_err-expect.ensures.missing within in here_stops m.is (lone_missing within c.in_default.ensures.none m.other))

pub prefixes::lone_arg-returns-in_err-inner-clause-stops : goal.prefixes::lone_arg-returns-in_err-inner-clause-stops
prefixes::lone_arg-returns-in_err-inner-clause-stops t c = λ within. stopped _ c.from_residual-in_err-inner.ensures.1 (let h0 = c.in_ok-expect.ensures in let f = c.in_err-inner.ensures.full (token_within h0.token h0.within) in here_stops f.is (lone_table_deep h0.token h0.within f.none))

pub prefixes::lone_arg-returns-in_err-fields-clause-stops : goal.prefixes::lone_arg-returns-in_err-fields-clause-stops
prefixes::lone_arg-returns-in_err-fields-clause-stops t c = λ within. stopped _ c.from_residual-in_err-fields.ensures.1 (lone_fields c.in_default.ensures.none c.in_ok-inner.ensures.ok (c.in_err-fields.ensures.stops within))

pub blocks::func_body-returns : goal.blocks::func_body-returns
blocks::func_body-returns t c = record { ok = made_body _ _ _ _ _ (func_body_found c.in_ok-first.ensures.token c.in_ok-params.ensures.ok c.in_ok-inside.ensures.token c.in_ok-body.ensures.ok c.in_ok-to.ensures.token c.in_ok-to.ensures.within); known = made_body_known _ _ _ _ _ (body_known c.in_ok-first.ensures.token c.in_ok-params.ensures.ok c.in_ok-params.ensures.known c.in_ok-inside.ensures.token c.in_ok-body.ensures.ok c.in_ok-body.ensures.known c.in_ok-to.ensures.token); stops = λ _. tt }

pub blocks::func_body-returns-in_err-first-clause-stops : goal.blocks::func_body-returns-in_err-first-clause-stops
blocks::func_body-returns-in_err-first-clause-stops t c = λ within. stopped _ c.from_residual.ensures.1 (let m = c.in_err-first.ensures.missing within in here_stops m.is (body_open within m.other))

pub blocks::func_body-returns-in_err-params-clause-stops : goal.blocks::func_body-returns-in_err-params-clause-stops
blocks::func_body-returns-in_err-params-clause-stops t c = λ within. stopped _ c.from_residual-in_err-params.ensures.1 (body_params c.in_ok-first.ensures.token (c.in_err-params.ensures.stops 0))

pub blocks::func_body-returns-in_err-inside-clause-stops : goal.blocks::func_body-returns-in_err-inside-clause-stops
blocks::func_body-returns-in_err-inside-clause-stops t c = λ within. stopped _ c.from_residual-in_err-inside.ensures.1 (let h0 = c.in_ok-params.ensures in body_close c.in_ok-first.ensures.token h0.ok.is h0.ok.ends.forward h0.known (token_stops h0.ok.ends.within (c.in_err-inside.ensures.missing h0.ok.ends.within)))

pub blocks::func_body-returns-in_err-body-clause-stops : goal.blocks::func_body-returns-in_err-body-clause-stops
blocks::func_body-returns-in_err-body-clause-stops t c = λ within. stopped _ c.from_residual-in_err-body.ensures.1 (let h0 = c.in_ok-params.ensures in body_block c.in_ok-first.ensures.token h0.ok.is h0.ok.ends.forward h0.known c.in_ok-inside.ensures.token c.in_err-body.ensures.stops)

pub blocks::func_body-returns-in_err-to-clause-stops : goal.blocks::func_body-returns-in_err-to-clause-stops
blocks::func_body-returns-in_err-to-clause-stops t c = λ within. stopped _ c.from_residual-in_err-to.ensures.1 (let h0 = c.in_ok-params.ensures in let h1 = c.in_ok-body.ensures in body_end c.in_ok-first.ensures.token h0.ok.is h0.ok.ends.forward h0.known c.in_ok-inside.ensures.token h1.ok.is h1.ok.ends.forward refl h1.ok.level h1.known (token_stops h1.ok.ends.within (c.in_err-to.ensures.missing h1.ok.ends.within)))

pub blocks::block-loop-stats-init : goal.blocks::block-loop-stats-init
blocks::block-loop-stats-init t c = let w = c.requires.within in record { read = so_far_start c.new-stats.ensures; within = w; level = level_none stat_levels _ _ c.new-stats.ensures }

pub blocks::block-loop-stats-preserved : goal.blocks::block-loop-stats-preserved
blocks::block-loop-stats-preserved t c = let h0 = c.in_ok-one.ensures in record { read = stats_more c.loop-stats.invariant.read c.in_ok-push.ensures.ok (sym c.ends_block.ensures ∙ c.loop-stats-test.true) h0.ok h0.known; within = h0.ok.ends.within; level = level_more stat_levels _ _ _ _ c.loop-stats.invariant.level c.in_ok-push.ensures.ok h0.ok.level }

pub blocks::block-returns-then-is_at : goal.blocks::block-returns-then-is_at
blocks::block-returns-then-is_at t c = record { ok = let h0 = c.in_ok-last.ensures in let read = c.loop-stats.invariant.read in let f = read.forward in let k = h0.ok.ends.forward in made_block _ _ _ (block_found (joins_last (AreStats (toks_of c.args.cut.now)) _ _ _ _ _ _ (read.joins _ (room_self _ _)) (c.exact.ensures ∙ c.in_ok-push-2.ensures.ok) (last_stat h0.ok.is)) (omega arith) h0.ok.ends.within (level_more stat_levels _ _ _ _ c.loop-stats.invariant.level (c.exact.ensures ∙ c.in_ok-push-2.ensures.ok) h0.ok.level)); known = made_block_known _ _ _ (block_last_known c.loop-stats.invariant.read (c.exact.ensures ∙ c.in_ok-push-2.ensures.ok) (is_at _ c.is_at.ensures c.if-is_at.true) c.in_ok-last.ensures.ok c.in_ok-last.ensures.known); stops = tt }

pub blocks::block-returns : goal.blocks::block-returns
blocks::block-returns t c = record { ok = let read = c.loop-stats.invariant.read in made_block _ _ _ (block_found (joins_end (AreStats (toks_of c.args.cut.now)) _ _ _ _ (read.joins _ (room_self _ _)) c.exact-2.ensures no_stats) read.forward c.loop-stats.invariant.within (level_end stat_levels _ _ _ c.loop-stats.invariant.level c.exact-2.ensures)); known = made_block_known _ _ _ (block_end_known c.loop-stats.invariant.read c.exact-2.ensures (sym c.ends_block.ensures ∙ c.loop-stats-test.false) (not_at _ c.is_at.ensures c.if-is_at.false)); stops = tt }

pub blocks::block-returns-in_err-one-clause-stops : goal.blocks::block-returns-in_err-one-clause-stops
blocks::block-returns-in_err-one-clause-stops t c = stopped _ c.from_residual.ensures.1 (block_stop c.loop-stats.invariant.read c.loop-stats.invariant.level (sym c.ends_block.ensures ∙ c.loop-stats-test.true) (c.in_err-one.ensures.stops c.loop-stats.invariant.within))

pub blocks::block-returns-in_err-last-clause-stops : goal.blocks::block-returns-in_err-last-clause-stops
blocks::block-returns-in_err-last-clause-stops t c = stopped _ c.from_residual-in_err-last.ensures.1 (block_return c.loop-stats.invariant.read c.loop-stats.invariant.level (is_at _ c.is_at.ensures c.if-is_at.true) (c.in_err-last.ensures.stops c.loop-stats.invariant.within))

pub blocks::last-returns : goal.blocks::last-returns
blocks::last-returns t c = record { ok = return_values_found c.in_ok-next.ensures.token c.in_ok-values.ensures.ok c.semicolon-2.ensures.found; known = return_known c.in_ok-next.ensures.token (sym c.ends_return.ensures ∙ c.if-ends_return.false) c.in_ok-values.ensures.ok c.in_ok-values.ensures.known c.semicolon-2.ensures.found c.semicolon-2.ensures.known; stops = λ _. tt }

pub blocks::last-returns-then-ends_return : goal.blocks::last-returns-then-ends_return
blocks::last-returns-then-ends_return t c = record { ok = return_nothing_found c.in_ok-next.ensures.token c.semicolon.ensures.found c.new.ensures; known = return_empty_known c.in_ok-next.ensures.token (sym c.ends_return.ensures ∙ c.if-ends_return.true) c.semicolon.ensures.found c.semicolon.ensures.known c.new.ensures; stops = λ _. tt }

pub blocks::last-returns-in_err-next-clause-stops : goal.blocks::last-returns-in_err-next-clause-stops
blocks::last-returns-in_err-next-clause-stops t c = λ within. stopped _ c.from_residual.ensures.1 (let m = c.in_err-next.ensures.missing within in here_stops m.is (return_missing within m.other))

pub blocks::last-returns-in_err-values-clause-stops : goal.blocks::last-returns-in_err-values-clause-stops
blocks::last-returns-in_err-values-clause-stops t c = λ within. stopped _ c.from_residual-in_err-values.ensures.1 (return_exprs c.in_ok-next.ensures.token (sym c.ends_return.ensures ∙ c.if-ends_return.false) (c.in_err-values.ensures.stops c.in_ok-next.ensures.within))

pub blocks::ended_block-returns : goal.blocks::ended_block-returns
blocks::ended_block-returns t c = record { ok = ended_found c.in_ok-inner.ensures.ok c.in_ok-body.ensures.ok c.in_ok-to.ensures.token c.in_ok-to.ensures.within c.in_ok-new.ensures; known = ended_known c.in_ok-body.ensures.ok c.in_ok-body.ensures.known c.in_ok-to.ensures.token c.in_ok-new.ensures; stops = λ _. tt }

pub blocks::ended_block-returns-in_err-inner-clause-stops : goal.blocks::ended_block-returns-in_err-inner-clause-stops
blocks::ended_block-returns-in_err-inner-clause-stops t c = λ next. stopped _ c.from_residual.ensures.1 (let w = c.requires.within in let f = c.in_err-inner.ensures.full (string_within _ next w) in here_stops f.is (ended_deep next w f.none))

pub blocks::ended_block-returns-in_err-body-clause-stops : goal.blocks::ended_block-returns-in_err-body-clause-stops
blocks::ended_block-returns-in_err-body-clause-stops t c = λ next. stopped _ c.from_residual-in_err-body.ensures.1 (ended_body c.in_ok-inner.ensures.ok c.in_err-body.ensures.stops)

pub blocks::ended_block-returns-in_err-to-clause-stops : goal.blocks::ended_block-returns-in_err-to-clause-stops
blocks::ended_block-returns-in_err-to-clause-stops t c = λ next. stopped _ c.from_residual-in_err-to.ensures.1 (let h0 = c.in_ok-body.ensures in ended_close c.in_ok-inner.ensures.ok h0.ok.is h0.ok.ends.forward refl h0.ok.level h0.known (token_stops h0.ok.ends.within (c.in_err-to.ensures.missing h0.ok.ends.within)))

pub statements::stat-returns-in-Some-clause-known : goal.statements::stat-returns-in-Some-clause-known
statements::stat-returns-in-Some-clause-known t c = ok_map _ c.local_stat.ensures.ok c.local_stat.ensures.known (λ s ok known. word_known word.Local c.in-Some.ensures.token (on ok) known)

pub statements::stat-returns-in-Some-clause-stops : goal.statements::stat-returns-in-Some-clause-stops
statements::stat-returns-in-Some-clause-stops t c = λ within. err_map _ (c.local_stat.ensures.stops c.in-Some.ensures.within) (λ e h. stat_word word.Local c.in-Some.ensures.token h)

pub statements::stat-returns-in-Some-eat-clause-known : goal.statements::stat-returns-in-Some-eat-clause-known
statements::stat-returns-in-Some-eat-clause-known t c = ok_map _ c.if_stat.ensures.ok c.if_stat.ensures.known (λ s ok known. word_known word.If c.in-Some-eat.ensures.token (on ok) known)

pub statements::stat-returns-in-Some-eat-clause-stops : goal.statements::stat-returns-in-Some-eat-clause-stops
statements::stat-returns-in-Some-eat-clause-stops t c = λ within. err_map _ (c.if_stat.ensures.stops c.in-Some-eat.ensures.within) (λ e h. stat_word word.If c.in-Some-eat.ensures.token h)

pub statements::stat-returns-in-Some-eat-2-clause-known : goal.statements::stat-returns-in-Some-eat-2-clause-known
statements::stat-returns-in-Some-eat-2-clause-known t c = ok_map _ c.for_stat.ensures.ok c.for_stat.ensures.known (λ s ok known. word_known word.For c.in-Some-eat-2.ensures.token (on ok) known)

pub statements::stat-returns-in-Some-eat-2-clause-stops : goal.statements::stat-returns-in-Some-eat-2-clause-stops
statements::stat-returns-in-Some-eat-2-clause-stops t c = λ within. err_map _ (c.for_stat.ensures.stops c.in-Some-eat-2.ensures.within) (λ e h. stat_word word.For c.in-Some-eat-2.ensures.token h)

pub statements::stat-returns-in-Some-eat-3-clause-known : goal.statements::stat-returns-in-Some-eat-3-clause-known
statements::stat-returns-in-Some-eat-3-clause-known t c = ok_map _ c.function_stat.ensures.ok c.function_stat.ensures.known (λ s ok known. word_known word.Function c.in-Some-eat-3.ensures.token (on ok) known)

pub statements::stat-returns-in-Some-eat-3-clause-stops : goal.statements::stat-returns-in-Some-eat-3-clause-stops
statements::stat-returns-in-Some-eat-3-clause-stops t c = λ within. err_map _ (c.function_stat.ensures.stops c.in-Some-eat-3.ensures.within) (λ e h. stat_word word.Function c.in-Some-eat-3.ensures.token h)

pub statements::stat-returns-in-Some-eat-4-clause-known : goal.statements::stat-returns-in-Some-eat-4-clause-known
statements::stat-returns-in-Some-eat-4-clause-known t c = ok_map _ c.while_stat.ensures.ok c.while_stat.ensures.known (λ s ok known. word_known word.While c.in-Some-eat-4.ensures.token (on ok) known)

pub statements::stat-returns-in-Some-eat-4-clause-stops : goal.statements::stat-returns-in-Some-eat-4-clause-stops
statements::stat-returns-in-Some-eat-4-clause-stops t c = λ within. err_map _ (c.while_stat.ensures.stops c.in-Some-eat-4.ensures.within) (λ e h. stat_word word.While c.in-Some-eat-4.ensures.token h)

pub statements::stat-returns-in-Some-eat-5-clause-known : goal.statements::stat-returns-in-Some-eat-5-clause-known
statements::stat-returns-in-Some-eat-5-clause-known t c = ok_map _ c.do_stat.ensures.ok c.do_stat.ensures.known (λ s ok known. word_known word.Do c.in-Some-eat-5.ensures.token (on ok) known)

pub statements::stat-returns-in-Some-eat-5-clause-stops : goal.statements::stat-returns-in-Some-eat-5-clause-stops
statements::stat-returns-in-Some-eat-5-clause-stops t c = λ within. err_map _ c.do_stat.ensures.stops (λ e h. stat_word word.Do c.in-Some-eat-5.ensures.token h)

pub statements::stat-returns-in-Some-eat-6-clause-known : goal.statements::stat-returns-in-Some-eat-6-clause-known
statements::stat-returns-in-Some-eat-6-clause-known t c = ok_map _ c.repeat_stat.ensures.ok c.repeat_stat.ensures.known (λ s ok known. word_known word.Repeat c.in-Some-eat-6.ensures.token (on ok) known)

pub statements::stat-returns-in-Some-eat-6-clause-stops : goal.statements::stat-returns-in-Some-eat-6-clause-stops
statements::stat-returns-in-Some-eat-6-clause-stops t c = λ within. err_map _ c.repeat_stat.ensures.stops (λ e h. stat_word word.Repeat c.in-Some-eat-6.ensures.token h)

pub statements::stat-returns-then-begins_prefix-clause-known : goal.statements::stat-returns-then-begins_prefix-clause-known
statements::stat-returns-then-begins_prefix-clause-known t c = ok_map _ c.expr_stat.ensures.ok c.expr_stat.ensures.known (λ s ok known. expr_stat_known (sym c.begins_prefix.ensures ∙ c.if-begins_prefix.true) (on ok) known)

pub statements::stat-returns-then-begins_prefix-clause-stops : goal.statements::stat-returns-then-begins_prefix-clause-stops
statements::stat-returns-then-begins_prefix-clause-stops t c = λ within. err_map _ (c.expr_stat.ensures.stops within) (λ e h. stat_expr (sym c.begins_prefix.ensures ∙ c.if-begins_prefix.true) h)

pub statements::stat-returns-clause-known : goal.statements::stat-returns-clause-known
statements::stat-returns-clause-known t c = ok_map _ c.short_stat.ensures.ok c.short_stat.ensures.known (λ s ok known. short_known (sym c.begins_prefix.ensures ∙ c.if-begins_prefix.false) c.in_default.ensures.other c.in_default-eat.ensures.other c.in_default-eat-2.ensures.other c.in_default-eat-3.ensures.other c.in_default-eat-4.ensures.other c.in_default-eat-5.ensures.other c.in_default-eat-6.ensures.other (on ok) known)

pub statements::stat-returns-clause-stops : goal.statements::stat-returns-clause-stops
statements::stat-returns-clause-stops t c = λ within. err_map _ (c.short_stat.ensures.stops c.args.left within) (λ e h. stat_short (sym c.begins_prefix.ensures ∙ c.if-begins_prefix.false) c.in_default.ensures.other c.in_default-eat.ensures.other c.in_default-eat-2.ensures.other c.in_default-eat-3.ensures.other c.in_default-eat-4.ensures.other c.in_default-eat-5.ensures.other c.in_default-eat-6.ensures.other h)

pub statements::do_stat-returns : goal.statements::do_stat-returns
statements::do_stat-returns t c = record { ok = do_found c.requires.word c.in_ok-body.ensures.ok; known = do_known c.in_ok-body.ensures.known; stops = tt }

pub statements::do_stat-returns-in_err-body-clause-stops : goal.statements::do_stat-returns-in_err-body-clause-stops
statements::do_stat-returns-in_err-body-clause-stops t c = stopped _ c.from_residual.ensures.1 (do_stops c.requires.word (c.in_err-body.ensures.stops c.requires.word.next))

pub statements::while_stat-returns : goal.statements::while_stat-returns
statements::while_stat-returns t c = record { ok = ok_made (λ (s : Stat). Found (toks_of c.args.cut.now) (c.args.at + 1) (out-Stat s).to c.args.left (stat_levels s) (IsStat (toks_of c.args.cut.now) c.args.at (out-Stat s).to s)) _ c.while_stat.ensures.made (while_found c.requires.word c.in_ok-test.ensures.ok c.in_ok-inside.ensures.token c.in_ok-body.ensures.ok); known = known_from_made (λ (s : Stat). (out-Stat s).to) _ c.while_stat.ensures.made (while_known c.in_ok-test.ensures.ok c.in_ok-test.ensures.known c.in_ok-inside.ensures.token (on c.in_ok-body.ensures.ok) c.in_ok-body.ensures.known); stops = λ within. made_memory (StopsStat (toks_of c.args.cut.now) c.args.left c.args.at (λ l n. ReadWhile l n c.args.at c.args.next)) _ c.while_stat.ensures.memory (memory_stops refl) }

pub statements::while_stat-returns-in_err-test-clause-stops : goal.statements::while_stat-returns-in_err-test-clause-stops
statements::while_stat-returns-in_err-test-clause-stops t c = λ within. stopped _ c.from_residual.ensures.1 (while_test c.requires.word (c.in_err-test.ensures.stops within))

pub statements::while_stat-returns-in_err-inside-clause-stops : goal.statements::while_stat-returns-in_err-inside-clause-stops
statements::while_stat-returns-in_err-inside-clause-stops t c = λ within. stopped _ c.from_residual-in_err-inside.ensures.1 (let h0 = c.in_ok-test.ensures in let m = c.in_err-inside.ensures.missing h0.ok.ends.within in here_stops m.is (while_do c.requires.word h0.ok.is (on h0.ok) refl h0.ok.level h0.known h0.ok.ends.within m.other))

pub statements::while_stat-returns-in_err-body-clause-stops : goal.statements::while_stat-returns-in_err-body-clause-stops
statements::while_stat-returns-in_err-body-clause-stops t c = λ within. stopped _ c.from_residual-in_err-body.ensures.1 (let h0 = c.in_ok-test.ensures in while_ended c.requires.word h0.ok.is (on h0.ok) refl h0.ok.level h0.known c.in_ok-inside.ensures.token (c.in_err-body.ensures.stops c.in_ok-inside.ensures.token.next))

pub statements::repeat_stat-returns : goal.statements::repeat_stat-returns
statements::repeat_stat-returns t c = record { ok = ok_made (λ (s : Stat). Found (toks_of c.args.cut.now) (c.args.at + 1) (out-Stat s).to c.args.left (stat_levels s) (IsStat (toks_of c.args.cut.now) c.args.at (out-Stat s).to s)) _ c.repeat_stat.ensures.made (repeat_found c.requires.word c.in_ok-inner.ensures.ok c.in_ok-body.ensures.ok c.in_ok-from.ensures.token c.in_ok-test.ensures.ok); known = known_from_made (λ (s : Stat). (out-Stat s).to) _ c.repeat_stat.ensures.made (repeat_known c.in_ok-body.ensures.known c.in_ok-from.ensures.token c.in_ok-test.ensures.ok c.in_ok-test.ensures.known); stops = made_memory (StopsStat (toks_of c.args.cut.now) c.args.left c.args.at (λ l n. ReadRepeat l n c.args.at c.args.next)) _ c.repeat_stat.ensures.memory (memory_stops refl) }

pub statements::repeat_stat-returns-in_err-inner-clause-stops : goal.statements::repeat_stat-returns-in_err-inner-clause-stops
statements::repeat_stat-returns-in_err-inner-clause-stops t c = stopped _ c.from_residual.ensures.1 (let h0 = c.requires in let f = c.in_err-inner.ensures.full (token_within h0.word h0.within) in here_stops f.is (repeat_deep h0.word h0.within f.none))

pub statements::repeat_stat-returns-in_err-body-clause-stops : goal.statements::repeat_stat-returns-in_err-body-clause-stops
statements::repeat_stat-returns-in_err-body-clause-stops t c = stopped _ c.from_residual-in_err-body.ensures.1 (repeat_body c.requires.word c.in_ok-inner.ensures.ok c.in_err-body.ensures.stops)

pub statements::repeat_stat-returns-in_err-from-clause-stops : goal.statements::repeat_stat-returns-in_err-from-clause-stops
statements::repeat_stat-returns-in_err-from-clause-stops t c = stopped _ c.from_residual-in_err-from.ensures.1 (let h0 = c.in_ok-body.ensures in repeat_until c.requires.word c.in_ok-inner.ensures.ok h0.ok.is h0.ok.ends.forward refl h0.ok.level h0.known (token_stops h0.ok.ends.within (c.in_err-from.ensures.missing h0.ok.ends.within)))

pub statements::repeat_stat-returns-in_err-test-clause-stops : goal.statements::repeat_stat-returns-in_err-test-clause-stops
statements::repeat_stat-returns-in_err-test-clause-stops t c = stopped _ c.from_residual-in_err-test.ensures.1 (let h0 = c.in_ok-body.ensures in repeat_test c.requires.word c.in_ok-inner.ensures.ok h0.ok.is h0.ok.ends.forward refl h0.ok.level h0.known c.in_ok-from.ensures.token (c.in_err-test.ensures.stops c.in_ok-from.ensures.within))

pub statements::if_stat-returns : goal.statements::if_stat-returns
statements::if_stat-returns t c = record { ok = if_found c.requires.word c.in_ok-arms.ensures.ok c.in_ok-last.ensures.ok c.in_ok-to.ensures.token c.in_ok-to.ensures.within; known = if_known c.in_ok-arms.ensures.known c.in_ok-last.ensures.ok c.in_ok-last.ensures.known c.in_ok-to.ensures.token; stops = λ _. tt }

pub statements::if_stat-returns-in_err-arms-clause-stops : goal.statements::if_stat-returns-in_err-arms-clause-stops
statements::if_stat-returns-in_err-arms-clause-stops t c = λ within. stopped _ c.from_residual.ensures.1 (if_arms c.requires.word (c.in_err-arms.ensures.stops within))

pub statements::if_stat-returns-in_err-last-clause-stops : goal.statements::if_stat-returns-in_err-last-clause-stops
statements::if_stat-returns-in_err-last-clause-stops t c = λ within. stopped _ c.from_residual-in_err-last.ensures.1 (let h0 = c.in_ok-arms.ensures in if_else c.requires.word h0.ok.is (on h0.ok) h0.ok.level h0.known c.in_err-last.ensures.stops)

pub statements::if_stat-returns-in_err-to-clause-stops : goal.statements::if_stat-returns-in_err-to-clause-stops
statements::if_stat-returns-in_err-to-clause-stops t c = λ within. stopped _ c.from_residual-in_err-to.ensures.1 (let h0 = c.in_ok-arms.ensures in let h1 = c.in_ok-last.ensures in if_end c.requires.word h0.ok.is (on h0.ok) h0.ok.level h0.known h1.ok.is h1.ok.ends.forward h1.ok.level h1.known (token_stops h1.ok.ends.within (c.in_err-to.ensures.missing h1.ok.ends.within)))

pub statements::arms-loop-found-init : goal.statements::arms-loop-found-init
statements::arms-loop-found-init t c = record { read = so_far_start c.new-found.ensures; within = λ w. w; level = level_none arm_levels _ _ c.new-found.ensures }

pub statements::arms-loop-found-preserved : goal.statements::arms-loop-found-preserved
statements::arms-loop-found-preserved t c = let h0 = c.in_ok-one.ensures in record { read = arms_more c.loop-found.invariant.read c.in_ok-push.ensures.ok h0.ok h0.known c.in-Some.ensures.token; within = λ w. c.in-Some.ensures.within; level = level_more arm_levels _ _ _ _ c.loop-found.invariant.level c.in_ok-push.ensures.ok h0.ok.level }

pub statements::arms-returns-in-None : goal.statements::arms-returns-in-None
statements::arms-returns-in-None t c = record { ok = arms_found c.loop-found.invariant.read (c.exact.ensures ∙ c.in_ok-push.ensures.ok) c.in_ok-one.ensures.ok c.loop-found.invariant.level; known = arms_known c.loop-found.invariant.read (c.exact.ensures ∙ c.in_ok-push.ensures.ok) c.in_ok-one.ensures.ok c.in_ok-one.ensures.known c.in-None.ensures.other; stops = λ _. tt }

pub statements::arms-returns-in_err-one-clause-stops : goal.statements::arms-returns-in_err-one-clause-stops
statements::arms-returns-in_err-one-clause-stops t c = λ within. stopped _ c.from_residual.ensures.1 (arms_stop c.loop-found.invariant.read c.loop-found.invariant.level (c.in_err-one.ensures.stops (c.loop-found.invariant.within within)))

pub statements::arm-returns : goal.statements::arm-returns
statements::arm-returns t c = record { ok = arm_found c.in_ok-test.ensures.ok c.in_ok-inside.ensures.token c.in_ok-inner.ensures.ok c.in_ok-body.ensures.ok; known = arm_known c.in_ok-test.ensures.known c.in_ok-inside.ensures.token c.in_ok-body.ensures.ok c.in_ok-body.ensures.known; stops = λ _. tt }

pub statements::arm-returns-in_err-test-clause-stops : goal.statements::arm-returns-in_err-test-clause-stops
statements::arm-returns-in_err-test-clause-stops t c = λ within. stopped _ c.from_residual.ensures.1 (arm_test (c.in_err-test.ensures.stops within))

pub statements::arm-returns-in_err-inside-clause-stops : goal.statements::arm-returns-in_err-inside-clause-stops
statements::arm-returns-in_err-inside-clause-stops t c = λ within. stopped _ c.from_residual-in_err-inside.ensures.1 (let h0 = c.in_ok-test.ensures in let m = c.in_err-inside.ensures.missing h0.ok.ends.within in here_stops m.is (arm_then h0.ok.is (on h0.ok) refl h0.ok.level h0.known h0.ok.ends.within m.other))

pub statements::arm-returns-in_err-inner-clause-stops : goal.statements::arm-returns-in_err-inner-clause-stops
statements::arm-returns-in_err-inner-clause-stops t c = λ within. stopped _ c.from_residual-in_err-inner.ensures.1 (let h0 = c.in_ok-test.ensures.ok in let h1 = c.in_ok-inside.ensures in let f = c.in_err-inner.ensures.full (token_within h1.token h1.within) in here_stops f.is (arm_deep h0.is (on h0) h0.level h1.token h1.within f.none))

pub statements::arm-returns-in_err-body-clause-stops : goal.statements::arm-returns-in_err-body-clause-stops
statements::arm-returns-in_err-body-clause-stops t c = λ within. stopped _ c.from_residual-in_err-body.ensures.1 (let h0 = c.in_ok-test.ensures in arm_block h0.ok.is (on h0.ok) refl h0.ok.level h0.known c.in_ok-inside.ensures.token c.in_ok-inner.ensures.ok c.in_err-body.ensures.stops)

pub statements::else_block-returns : goal.statements::else_block-returns
statements::else_block-returns t c = record { ok = else_found c.in-Some.ensures.token c.in_ok-inner.ensures.ok c.in_ok-body.ensures.ok c.in_ok-new.ensures; known = else_known c.in-Some.ensures.token c.in_ok-body.ensures.ok c.in_ok-body.ensures.known c.in_ok-new.ensures; stops = tt }

pub statements::else_block-returns-in_default : goal.statements::else_block-returns-in_default
statements::else_block-returns-in_default t c = record { ok = let r = c.requires in record { is = no_else; ends = record { forward = omega arith; within = omega arith }; level = omega arith }; known = no_else_known c.in_default.ensures.other; stops = tt }

pub statements::else_block-returns-in_err-inner-clause-stops : goal.statements::else_block-returns-in_err-inner-clause-stops
statements::else_block-returns-in_err-inner-clause-stops t c = stopped _ c.from_residual.ensures.1 (let h0 = c.in-Some.ensures in let f = c.in_err-inner.ensures.full (token_within h0.token h0.within) in here_stops f.is (else_deep h0.token h0.within f.none))

pub statements::else_block-returns-in_err-body-clause-stops : goal.statements::else_block-returns-in_err-body-clause-stops
statements::else_block-returns-in_err-body-clause-stops t c = stopped _ c.from_residual-in_err-body.ensures.1 (else_block c.in-Some.ensures.token c.in_ok-inner.ensures.ok c.in_err-body.ensures.stops)

pub statements::function_stat-returns : goal.statements::function_stat-returns
statements::function_stat-returns t c = record { ok = ok_made (λ (s : Stat). Found (toks_of c.args.cut.now) (c.args.at + 1) (out-Stat s).to c.args.left (stat_levels s) (IsStat (toks_of c.args.cut.now) c.args.at (out-Stat s).to s)) _ c.function_stat.ensures.made (function_stat_found c.requires.word c.in_ok-inner.ensures.ok c.in_ok-path.ensures.ok c.in_ok-method.ensures.ok c.in_ok-body.ensures.ok); known = known_from_made (λ (s : Stat). (out-Stat s).to) _ c.function_stat.ensures.made (function_stat_known c.in_ok-path.ensures.known c.in_ok-method.ensures.ok c.in_ok-method.ensures.known c.in_ok-body.ensures.ok c.in_ok-body.ensures.known); stops = λ within. made_memory (StopsStat (toks_of c.args.cut.now) c.args.left c.args.at (λ l n. ReadFunctionStat l n c.args.at c.args.next)) _ c.function_stat.ensures.memory (memory_stops refl) }

pub statements::function_stat-returns-in_err-inner-clause-stops : goal.statements::function_stat-returns-in_err-inner-clause-stops
statements::function_stat-returns-in_err-inner-clause-stops t c = λ within. stopped _ c.from_residual.ensures.1 (let f = c.in_err-inner.ensures.full (token_within c.requires.word within) in here_stops f.is (function_stat_deep c.requires.word within f.none))

pub statements::function_stat-returns-in_err-path-clause-stops : goal.statements::function_stat-returns-in_err-path-clause-stops
statements::function_stat-returns-in_err-path-clause-stops t c = λ within. stopped _ c.from_residual-in_err-path.ensures.1 (function_stat_path _ c.requires.word c.in_ok-inner.ensures.ok (c.in_err-path.ensures.stops within))

pub statements::function_stat-returns-in_err-method-clause-stops : goal.statements::function_stat-returns-in_err-method-clause-stops
statements::function_stat-returns-in_err-method-clause-stops t c = λ within. stopped _ c.from_residual-in_err-method.ensures.1 (let h0 = c.in_ok-path.ensures in function_stat_method _ c.requires.word c.in_ok-inner.ensures.ok h0.ok.is (on h0.ok) h0.known c.in_err-method.ensures.stops)

pub statements::function_stat-returns-in_err-body-clause-stops : goal.statements::function_stat-returns-in_err-body-clause-stops
statements::function_stat-returns-in_err-body-clause-stops t c = λ within. stopped _ c.from_residual-in_err-body.ensures.1 (let h0 = c.in_ok-path.ensures in let h1 = c.in_ok-method.ensures in function_stat_body c.requires.word c.in_ok-inner.ensures.ok h0.ok.is (on h0.ok) h0.known h1.ok.is h1.ok.ends.forward h1.known (c.in_err-body.ensures.stops h1.ok.ends.within))

pub statements::local_stat-returns : goal.statements::local_stat-returns
statements::local_stat-returns t c = record { ok = local_values_found c.requires.word c.in_ok-names.ensures.ok c.in-Some-eat.ensures.token c.in_ok-values.ensures.ok; known = local_values_known c.in_default.ensures.other c.in_ok-names.ensures.ok c.in_ok-names.ensures.known c.in-Some-eat.ensures.token c.in_ok-values.ensures.ok c.in_ok-values.ensures.known; stops = λ _. tt }

pub statements::local_stat-returns-in-Some : goal.statements::local_stat-returns-in-Some
statements::local_stat-returns-in-Some t c = record { ok = ok_made (λ (s : Stat). Found (toks_of c.args.cut.now) (c.args.at + 1) (out-Stat s).to c.args.left (stat_levels s) (IsStat (toks_of c.args.cut.now) c.args.at (out-Stat s).to s)) _ c.local_function.ensures.made (local_function_found c.requires.word c.in-Some.ensures.token c.in_ok-inside.ensures.token c.in_ok-inner.ensures.ok c.in_ok-body.ensures.ok); known = known_from_made (λ (s : Stat). (out-Stat s).to) _ c.local_function.ensures.made (local_function_known c.in-Some.ensures.token c.in_ok-inside.ensures.token c.in_ok-body.ensures.ok c.in_ok-body.ensures.known); stops = λ within. made_memory (StopsStat (toks_of c.args.cut.now) c.args.left c.args.at (λ l n. ReadLocal l n c.args.at c.args.next)) _ c.local_function.ensures.memory (memory_stops refl) }

pub statements::local_stat-returns-in_default-eat : goal.statements::local_stat-returns-in_default-eat
statements::local_stat-returns-in_default-eat t c = record { ok = local_found c.requires.word c.in_ok-names.ensures.ok c.new.ensures; known = local_known c.in_default.ensures.other c.in_ok-names.ensures.ok c.in_ok-names.ensures.known c.in_default-eat.ensures.other c.new.ensures; stops = λ _. tt }

pub statements::local_stat-returns-in_err-inner-clause-stops : goal.statements::local_stat-returns-in_err-inner-clause-stops
statements::local_stat-returns-in_err-inner-clause-stops t c = λ within. stopped _ c.from_residual.ensures.1 (let h0 = c.in-Some.ensures in let f = c.in_err-inner.ensures.full (token_within h0.token h0.within) in here_stops f.is (local_function_deep c.requires.word h0.token h0.within f.none))

pub statements::local_stat-returns-in_err-inside-clause-stops : goal.statements::local_stat-returns-in_err-inside-clause-stops
statements::local_stat-returns-in_err-inside-clause-stops t c = λ within. stopped _ c.from_residual-in_err-inside.ensures.1 (let h0 = c.in-Some.ensures in let m = c.in_err-inside.ensures.missing h0.within in here_stops m.is (local_function_name _ c.requires.word h0.token c.in_ok-inner.ensures.ok h0.within m.other))

pub statements::local_stat-returns-in_err-body-clause-stops : goal.statements::local_stat-returns-in_err-body-clause-stops
statements::local_stat-returns-in_err-body-clause-stops t c = λ within. stopped _ c.from_residual-in_err-body.ensures.1 (local_function_body c.requires.word c.in-Some.ensures.token c.in_ok-inner.ensures.ok c.in_ok-inside.ensures.token (c.in_err-body.ensures.stops c.in_ok-inside.ensures.within))

pub statements::local_stat-returns-in_err-names-clause-stops : goal.statements::local_stat-returns-in_err-names-clause-stops
statements::local_stat-returns-in_err-names-clause-stops t c = λ within. stopped _ c.from_residual-in_err-names.ensures.1 (local_names_stop c.requires.word c.in_default.ensures.other (c.in_err-names.ensures.stops c.args.left within))

pub statements::local_stat-returns-in_err-values-clause-stops : goal.statements::local_stat-returns-in_err-values-clause-stops
statements::local_stat-returns-in_err-values-clause-stops t c = λ within. stopped _ c.from_residual-in_err-values.ensures.1 (let h0 = c.in_ok-names.ensures in local_values_stop c.requires.word c.in_default.ensures.other h0.ok.is (on h0.ok) h0.known c.in-Some-eat.ensures.token (c.in_err-values.ensures.stops c.in-Some-eat.ensures.within))

pub loops::for_stat-returns : goal.loops::for_stat-returns
loops::for_stat-returns t c = record { ok = ok_made (λ (s : Stat). Found (toks_of c.args.cut.now) (c.args.at + 1) (out-Stat s).to c.args.left (stat_levels s) (IsStat (toks_of c.args.cut.now) c.args.at (out-Stat s).to s)) _ c.for_in.ensures.made (for_in_found c.requires.word c.in_ok-names.ensures.ok c.in_ok-from.ensures.token c.in_ok-values.ensures.ok c.in_ok-inside.ensures.token c.in_ok-body.ensures.ok); known = known_from_made (λ (s : Stat). (out-Stat s).to) _ c.for_in.ensures.made (for_in_known c.in_default.ensures.none c.in_ok-names.ensures.ok c.in_ok-names.ensures.known c.in_ok-from.ensures.token c.in_ok-values.ensures.ok c.in_ok-values.ensures.known c.in_ok-inside.ensures.token (on c.in_ok-body.ensures.ok) c.in_ok-body.ensures.known); stops = λ within. made_memory (StopsStat (toks_of c.args.cut.now) c.args.left c.args.at (λ l n. ReadFor l n c.args.at c.args.next)) _ c.for_in.ensures.memory (memory_stops refl) }

pub loops::for_stat-returns-in-Some-clause-known : goal.loops::for_stat-returns-in-Some-clause-known
loops::for_stat-returns-in-Some-clause-known t c = ok_map {P = λ (s : Stat). c.in-Some.from ≤ (out-Stat s).to} _ c.count_stat.ensures.further c.count_stat.ensures.known (λ s le known. for_count_known c.in-Some.ensures.some le known)

pub loops::for_stat-returns-in-Some-clause-stops : goal.loops::for_stat-returns-in-Some-clause-stops
loops::for_stat-returns-in-Some-clause-stops t c = λ within. err_map _ (c.count_stat.ensures.stops (assigned_within c.in-Some.ensures.some)) (λ e h. for_count c.requires.word c.in-Some.ensures.some h)

pub loops::for_stat-returns-in_err-names-clause-stops : goal.loops::for_stat-returns-in_err-names-clause-stops
loops::for_stat-returns-in_err-names-clause-stops t c = λ within. stopped _ c.from_residual.ensures.1 (for_names c.requires.word c.in_default.ensures.none (c.in_err-names.ensures.stops c.args.left within))

pub loops::for_stat-returns-in_err-from-clause-stops : goal.loops::for_stat-returns-in_err-from-clause-stops
loops::for_stat-returns-in_err-from-clause-stops t c = λ within. stopped _ c.from_residual-in_err-from.ensures.1 (let h0 = c.in_ok-names.ensures in for_in c.requires.word c.in_default.ensures.none h0.ok.is (beyond h0.ok) h0.known (token_stops h0.ok.ends.within (c.in_err-from.ensures.missing h0.ok.ends.within)))

pub loops::for_stat-returns-in_err-values-clause-stops : goal.loops::for_stat-returns-in_err-values-clause-stops
loops::for_stat-returns-in_err-values-clause-stops t c = λ within. stopped _ c.from_residual-in_err-values.ensures.1 (let h0 = c.in_ok-names.ensures in for_values c.requires.word c.in_default.ensures.none h0.ok.is (beyond h0.ok) h0.known c.in_ok-from.ensures.token (c.in_err-values.ensures.stops c.in_ok-from.ensures.within))

pub loops::for_stat-returns-in_err-inside-clause-stops : goal.loops::for_stat-returns-in_err-inside-clause-stops
loops::for_stat-returns-in_err-inside-clause-stops t c = λ within. stopped _ c.from_residual-in_err-inside.ensures.1 (let h0 = c.in_ok-names.ensures in let h1 = c.in_ok-values.ensures in let m = c.in_err-inside.ensures.missing h1.ok.ends.within in here_stops m.is (for_do c.requires.word c.in_default.ensures.none h0.ok.is (beyond h0.ok) h0.known c.in_ok-from.ensures.token h1.ok.is (on h1.ok) h1.ok.level h1.known h1.ok.ends.within m.other))

pub loops::for_stat-returns-in_err-body-clause-stops : goal.loops::for_stat-returns-in_err-body-clause-stops
loops::for_stat-returns-in_err-body-clause-stops t c = λ within. stopped _ c.from_residual-in_err-body.ensures.1 (let h0 = c.in_ok-names.ensures in let h1 = c.in_ok-values.ensures in for_ended c.requires.word c.in_default.ensures.none h0.ok.is (beyond h0.ok) h0.known c.in_ok-from.ensures.token h1.ok.is (on h1.ok) h1.ok.level h1.known c.in_ok-inside.ensures.token (c.in_err-body.ensures.stops c.in_ok-inside.ensures.token.next))

pub loops::count_stat-returns : goal.loops::count_stat-returns
loops::count_stat-returns t c = record { ok = ok_made (λ (s : Stat). Found (toks_of c.args.cut.now) (c.args.at + 1) (out-Stat s).to c.args.left (stat_levels s) (IsStat (toks_of c.args.cut.now) c.args.at (out-Stat s).to s)) _ c.count_stat.ensures.made (for_found c.requires.word c.requires.name.name c.requires.name.sign c.in_ok-first.ensures.ok c.in_ok-second.ensures.token c.in_ok-limit.ensures.ok c.in_ok-step.ensures.ok c.in_ok-inside.ensures.token c.in_ok-body.ensures.ok); further = ok_made (λ (s : Stat). c.args.from ≤ (out-Stat s).to) _ c.count_stat.ensures.made (count_further c.in_ok-first.ensures.ok c.in_ok-second.ensures.token c.in_ok-limit.ensures.ok c.in_ok-step.ensures.ok c.in_ok-inside.ensures.token c.in_ok-body.ensures.ok); known = known_from_made (λ (s : Stat). (out-Stat s).to) _ c.count_stat.ensures.made (count_known c.in_ok-first.ensures.known c.in_ok-second.ensures.token c.in_ok-limit.ensures.ok c.in_ok-limit.ensures.known c.in_ok-step.ensures.ok c.in_ok-step.ensures.known c.in_ok-inside.ensures.token (on c.in_ok-body.ensures.ok) c.in_ok-body.ensures.known); stops = λ within. made_memory (StopsCount (toks_of c.args.cut.now) c.args.left c.args.at c.args.name c.args.from) _ c.count_stat.ensures.memory (memory_stops refl) }

pub loops::count_stat-returns-in_err-first-clause-stops : goal.loops::count_stat-returns-in_err-first-clause-stops
loops::count_stat-returns-in_err-first-clause-stops t c = λ within. stopped _ c.from_residual.ensures.1 (count_first c.requires.word c.requires.name (c.in_err-first.ensures.stops within))

pub loops::count_stat-returns-in_err-second-clause-stops : goal.loops::count_stat-returns-in_err-second-clause-stops
loops::count_stat-returns-in_err-second-clause-stops t c = λ within. stopped _ c.from_residual-in_err-second.ensures.1 (let h0 = c.in_ok-first.ensures in count_second c.requires.word c.requires.name h0.ok.is (on h0.ok) refl h0.ok.level h0.known (token_stops h0.ok.ends.within (c.in_err-second.ensures.missing h0.ok.ends.within)))

pub loops::count_stat-returns-in_err-limit-clause-stops : goal.loops::count_stat-returns-in_err-limit-clause-stops
loops::count_stat-returns-in_err-limit-clause-stops t c = λ within. stopped _ c.from_residual-in_err-limit.ensures.1 (let h0 = c.in_ok-first.ensures in count_limit c.requires.word c.requires.name h0.ok.is (on h0.ok) refl h0.ok.level h0.known c.in_ok-second.ensures.token (c.in_err-limit.ensures.stops c.in_ok-second.ensures.within))

pub loops::count_stat-returns-in_err-step-clause-stops : goal.loops::count_stat-returns-in_err-step-clause-stops
loops::count_stat-returns-in_err-step-clause-stops t c = λ within. stopped _ c.from_residual-in_err-step.ensures.1 (let h0 = c.in_ok-first.ensures in let h1 = c.in_ok-limit.ensures in count_step c.requires.word c.requires.name h0.ok.is (on h0.ok) refl h0.ok.level h0.known c.in_ok-second.ensures.token h1.ok.is (on h1.ok) refl h1.ok.level h1.known c.in_err-step.ensures.stops)

pub loops::count_stat-returns-in_err-inside-clause-stops : goal.loops::count_stat-returns-in_err-inside-clause-stops
loops::count_stat-returns-in_err-inside-clause-stops t c = λ within. stopped _ c.from_residual-in_err-inside.ensures.1 (let h0 = c.in_ok-first.ensures in let h1 = c.in_ok-limit.ensures in let h2 = c.in_ok-step.ensures in let m = c.in_err-inside.ensures.missing h2.ok.ends.within in here_stops m.is (count_do c.requires.word c.requires.name h0.ok.is (on h0.ok) refl h0.ok.level h0.known c.in_ok-second.ensures.token h1.ok.is (on h1.ok) refl h1.ok.level h1.known h2.ok.is h2.ok.ends.forward h2.ok.level h2.known h2.ok.ends.within m.other))

pub loops::count_stat-returns-in_err-body-clause-stops : goal.loops::count_stat-returns-in_err-body-clause-stops
loops::count_stat-returns-in_err-body-clause-stops t c = λ within. stopped _ c.from_residual-in_err-body.ensures.1 (let h0 = c.in_ok-first.ensures in let h1 = c.in_ok-limit.ensures in let h2 = c.in_ok-step.ensures in count_ended c.requires.word c.requires.name h0.ok.is (on h0.ok) refl h0.ok.level h0.known c.in_ok-second.ensures.token h1.ok.is (on h1.ok) refl h1.ok.level h1.known h2.ok.is h2.ok.ends.forward h2.ok.level h2.known c.in_ok-inside.ensures.token (c.in_err-body.ensures.stops c.in_ok-inside.ensures.token.next))

pub loops::for_step-returns : goal.loops::for_step-returns
loops::for_step-returns t c = record { ok = for_step_found c.in-Some.ensures.token c.in_ok-step.ensures.ok c.in_ok-new.ensures; known = step_known c.in-Some.ensures.token c.in_ok-step.ensures.ok c.in_ok-step.ensures.known c.in_ok-new.ensures; stops = tt }

pub loops::for_step-returns-in_default : goal.loops::for_step-returns-in_default
loops::for_step-returns-in_default t c = record { ok = let r = c.requires in record { is = no_for_step; ends = record { forward = omega arith; within = omega arith }; level = omega arith }; known = no_step_known c.in_default.ensures.other; stops = tt }

pub loops::for_step-returns-in_err-step-clause-stops : goal.loops::for_step-returns-in_err-step-clause-stops
loops::for_step-returns-in_err-step-clause-stops t c = stopped _ c.from_residual.ensures.1 (step_value c.in-Some.ensures.token (c.in_err-step.ensures.stops c.in-Some.ensures.within))

pub assignments::expr_stat-returns-in-Call : goal.assignments::expr_stat-returns-in-Call
assignments::expr_stat-returns-in-Call t c = record { ok = call_shaped c.in_ok-first.first.shape c.in-Call.is c.in_ok-first.ensures.ok c.in_ok-first.ensures.closed; known = call_stat_known c.in_ok-first.ensures.known c.in-Call.is; stops = λ _. tt }

pub assignments::expr_stat-returns-in-Variable-clause-known : goal.assignments::expr_stat-returns-in-Variable-clause-known
assignments::expr_stat-returns-in-Variable-clause-known t c = ok_map {P = λ (s : Stat). (out-Expr c.in_ok-first.first.expr).to ≤ (out-Stat s).to} _ c.assign.ensures.further c.assign.ensures.known (λ s le known. assign_stat_known c.in_ok-first.ensures.known c.in-Variable.is le known)

pub assignments::expr_stat-returns-in-Variable-clause-stops : goal.assignments::expr_stat-returns-in-Variable-clause-stops
assignments::expr_stat-returns-in-Variable-clause-stops t c = λ within. err_map _ c.assign.ensures.stops (λ e h. stat_assign c.in_ok-first.ensures.known c.in-Variable.is (on c.in_ok-first.ensures.ok) h)

pub assignments::expr_stat-returns-in-Paren-clause-stops : goal.assignments::expr_stat-returns-in-Paren-clause-stops
assignments::expr_stat-returns-in-Paren-clause-stops t c = λ within. let h0 = c.in_ok-first.ensures in here_stops (c.refusal.ensures h0.ok.ends.within) (stat_refused (shaped_prefix c.in_ok-first.first.shape h0.ok.is) (on h0.ok) h0.ok.ends.within h0.ok.level h0.known c.in-Paren.is)

pub assignments::expr_stat-returns-in_err-first-clause-stops : goal.assignments::expr_stat-returns-in_err-first-clause-stops
assignments::expr_stat-returns-in_err-first-clause-stops t c = λ within. stopped _ c.from_residual.ensures.1 (stat_prefix (c.in_err-first.ensures.stops within))

pub assignments::assign-returns : goal.assignments::assign-returns
assignments::assign-returns t c = record { ok = assign_found c.in_ok-targets.ensures.ok c.in_ok-from.ensures.token c.in_ok-values.ensures.ok; further = assign_further c.in_ok-targets.ensures.further c.in_ok-from.ensures.token c.in_ok-values.ensures.ok; known = assign_known c.in_ok-targets.ensures.known c.in_ok-from.ensures.token c.in_ok-values.ensures.ok c.in_ok-values.ensures.known; stops = tt }

pub assignments::assign-returns-in_err-targets-clause-stops : goal.assignments::assign-returns-in_err-targets-clause-stops
assignments::assign-returns-in_err-targets-clause-stops t c = stopped _ c.from_residual.ensures.1 (assign_targets c.in_err-targets.ensures.stops)

pub assignments::assign-returns-in_err-from-clause-stops : goal.assignments::assign-returns-in_err-from-clause-stops
assignments::assign-returns-in_err-from-clause-stops t c = stopped _ c.from_residual-in_err-from.ensures.1 (let h0 = c.in_ok-targets.ensures in assign_sign h0.ok.is h0.further h0.ok.level h0.known (token_stops h0.ok.ends.within (c.in_err-from.ensures.missing h0.ok.ends.within)))

pub assignments::assign-returns-in_err-values-clause-stops : goal.assignments::assign-returns-in_err-values-clause-stops
assignments::assign-returns-in_err-values-clause-stops t c = stopped _ c.from_residual-in_err-values.ensures.1 (let h0 = c.in_ok-targets.ensures in assign_values h0.ok.is h0.further h0.ok.level h0.known c.in_ok-from.ensures.token (c.in_err-values.ensures.stops c.in_ok-from.ensures.within))

pub assignments::targets-loop-found-init : goal.assignments::targets-loop-found-init
assignments::targets-loop-found-init t c = let h0 = c.requires.first in record { read = targets_start c.new-found.ensures; one = h0; forward = omega arith; level = level_none expr_levels _ _ c.new-found.ensures }

pub assignments::targets-loop-found-preserved : goal.assignments::targets-loop-found-preserved
assignments::targets-loop-found-preserved t c = let h0 = c.in-Some.ensures in let h1 = c.in_ok-one.ensures in let one = c.loop-found.invariant.one in let f = one.ends.forward in let w = c.loop-found.invariant.forward in let n = h0.token.next in record { read = targets_more c.loop-found.invariant.read c.in_ok-push.ensures.ok one h0.token h1.ok h1.known; one = h1.ok; forward = omega arith; level = level_more expr_levels _ _ _ _ c.loop-found.invariant.level c.in_ok-push.ensures.ok one.level }

pub assignments::targets-returns-in_default : goal.assignments::targets-returns-in_default
assignments::targets-returns-in_default t c = record { ok = targets_found c.loop-found.invariant.read (c.exact.ensures ∙ c.in_ok-push.ensures.ok) c.loop-found.invariant.forward c.loop-found.invariant.one c.loop-found.invariant.level; further = c.loop-found.invariant.read.forward; known = targets_known c.loop-found.invariant.read (c.exact.ensures ∙ c.in_ok-push.ensures.ok) c.in_default.ensures.other; stops = tt }

pub assignments::targets-returns-in_err-one-clause-stops : goal.assignments::targets-returns-in_err-one-clause-stops
assignments::targets-returns-in_err-one-clause-stops t c = stopped _ c.from_residual-in_err-one.ensures.1 (let h0 = c.loop-found.invariant in targets_stop h0.read c.in_ok-push.ensures.ok h0.one c.in-Some.ensures.token (level_more expr_levels _ _ _ _ h0.level c.in_ok-push.ensures.ok h0.one.level) (c.in_err-one.ensures.stops c.in-Some.ensures.within))

pub assignments::variable-returns-in-Variable-clause-known : goal.assignments::variable-returns-in-Variable-clause-known
assignments::variable-returns-in-Variable-clause-known t c = variable_known c.in_ok-prefix.ensures.known c.in-Variable.is

pub assignments::variable-returns-in_err-prefix-clause-stops : goal.assignments::variable-returns-in_err-prefix-clause-stops
assignments::variable-returns-in_err-prefix-clause-stops t c = λ within. stopped _ c.from_residual.ensures.1 (variable_stops (c.in_err-prefix.ensures.stops within))

pub assignments::variable-returns-in_default-clause-stops : goal.assignments::variable-returns-in_default-clause-stops
assignments::variable-returns-in_default-clause-stops t c = λ within. let h0 = c.in_ok-prefix.ensures in here_stops (c.refusal.ensures h0.ok.ends.within) (variable_refused (shaped_prefix c.in_ok-prefix.prefix.shape h0.ok.is) (on h0.ok) h0.ok.ends.within h0.closed h0.ok.level h0.known c.in_default.not-Variable)

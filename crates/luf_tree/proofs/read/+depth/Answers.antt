use Rattle.std.proofs.Common.{ap, map, arith}
use Rattle.luf_tree.specs.Level.{deepest, block_if_there, block_levels, expr_levels, field_levels, suffix_levels, step_levels, stat_levels, arm_levels}
use Rattle.luf_tree.proofs.LevelLemmas.{greatest_more}
use Rattle.std.specs.Option.{option_map}
use Rattle.luf_tree.proofs.LevelEquations.{call_suffix_levels, method_levels}
use Rattle.luf_tree.proofs.LevelReads as read
use Rattle.luf_tree.proofs.read.+depth.Goals as goal

pub of_arms-loop-a-preserved : goal.of_arms-loop-a-preserved
of_arms-loop-a-preserved t c = greatest_more arm_levels c.args.arms.now c.loop-a.a-index _ _ _ c.a-item.result c.max-most.ensures c.loop-a-test.true c.a-item.is c.loop-a.invariant c.of_arm.ensures

pub of_exprs-loop-e-preserved : goal.of_exprs-loop-e-preserved
of_exprs-loop-e-preserved t c = greatest_more expr_levels c.args.exprs.now c.loop-e.e-index _ _ _ c.e-item.result c.max-most.ensures c.loop-e-test.true c.e-item.is c.loop-e.invariant c.of_expr.ensures

pub of_fields-loop-f-preserved : goal.of_fields-loop-f-preserved
of_fields-loop-f-preserved t c = greatest_more field_levels c.args.fields.now c.loop-f.f-index _ _ _ c.f-item.result c.max-most.ensures c.loop-f-test.true c.f-item.is c.loop-f.invariant c.of_field.ensures

pub of_stats-loop-s-preserved : goal.of_stats-loop-s-preserved
of_stats-loop-s-preserved t c = greatest_more stat_levels c.args.stats.now c.loop-s.s-index _ _ _ c.s-item.result c.max-most.ensures c.loop-s-test.true c.s-item.is c.loop-s.invariant c.of_stat.ensures

pub of_steps-loop-s-preserved : goal.of_steps-loop-s-preserved
of_steps-loop-s-preserved t c = greatest_more step_levels c.args.steps.now c.loop-s.s-index _ _ _ c.s-item.result c.max-most.ensures c.loop-s-test.true c.s-item.is c.loop-s.invariant c.of_step.ensures

pub of_suffixes-loop-s-preserved : goal.of_suffixes-loop-s-preserved
of_suffixes-loop-s-preserved t c = greatest_more suffix_levels c.args.suffixes.now c.loop-s.s-index _ _ _ c.s-item.result c.max-most.ensures c.loop-s-test.true c.s-item.is c.loop-s.invariant c.of_suffix.ensures

pub of_expr-returns-in-Table : goal.of_expr-returns-in-Table
of_expr-returns-in-Table t c = omega (arith, read.table_read c.args.e.now c.in-Table.fields c.in-Table.is, ap (λ xs. deepest (map field_levels xs)) c.as_slice.ensures)

pub of_expr-returns-in-Chain : goal.of_expr-returns-in-Chain
of_expr-returns-in-Chain t c = omega (arith, read.chain_read c.args.e.now c.in-Chain.first c.in-Chain.rest c.in-Chain.is, ap (λ xs. deepest (map step_levels xs)) c.as_slice-in-Chain.ensures, ap expr_levels c.get-in-Chain.ensures)

pub of_expr-returns-in-NameSuffixed : goal.of_expr-returns-in-NameSuffixed
of_expr-returns-in-NameSuffixed t c = omega (arith, read.name_suffixed_read c.args.e.now c.in-NameSuffixed.suffixes c.in-NameSuffixed.is, ap (λ xs. deepest (map suffix_levels xs)) c.as_slice-in-NameSuffixed.ensures)

pub of_expr-returns-in-Suffixed : goal.of_expr-returns-in-Suffixed
of_expr-returns-in-Suffixed t c = omega (arith, read.suffixed_read c.args.e.now c.in-Suffixed.head c.in-Suffixed.suffixes c.in-Suffixed.is, ap (λ xs. deepest (map suffix_levels xs)) c.as_slice-in-Suffixed.ensures, ap expr_levels c.get-in-Suffixed.ensures)

pub of_stat-returns-in-Local : goal.of_stat-returns-in-Local
of_stat-returns-in-Local t c = omega (arith, read.local_read c.args.s.now c.in-Local.names c.in-Local.values c.in-Local.is, ap (λ xs. deepest (map expr_levels xs)) c.as_slice.ensures)

pub of_stat-returns-in-Assign : goal.of_stat-returns-in-Assign
of_stat-returns-in-Assign t c = omega (arith, read.assign_read c.args.s.now c.in-Assign.targets c.in-Assign.values c.in-Assign.is, ap (λ xs. deepest (map expr_levels xs)) c.as_slice-in-Assign.ensures, ap (λ xs. deepest (map expr_levels xs)) c.as_slice-in-Assign-2.ensures)

pub of_stat-returns-in-Return : goal.of_stat-returns-in-Return
of_stat-returns-in-Return t c = omega (arith, read.return_read c.args.s.now c.in-Return.values c.in-Return.is, ap (λ xs. deepest (map expr_levels xs)) c.as_slice-in-Return.ensures)

pub of_stat-returns-in-ForIn : goal.of_stat-returns-in-ForIn
of_stat-returns-in-ForIn t c = omega (arith, read.for_in_read c.args.s.now c.in-ForIn.names c.in-ForIn.values c.in-ForIn.body c.in-ForIn.is, ap (λ xs. deepest (map expr_levels xs)) c.as_slice-in-ForIn.ensures, ap block_levels c.get-in-ForIn.ensures)

pub of_stat-returns-in-Some : goal.of_stat-returns-in-Some
of_stat-returns-in-Some t c = omega (arith, read.if_read c.args.s.now c.in-If.arms c.in-If.last c.in-If.is, ap (λ xs. deepest (map arm_levels xs)) c.as_slice-in-If.ensures, ap (λ b. block_if_there (option_map block_levels b)) c.in-Some.is, ap block_levels c.get-in-Some.ensures)

pub of_stat-returns-in-None : goal.of_stat-returns-in-None
of_stat-returns-in-None t c = omega (arith, read.if_read c.args.s.now c.in-If.arms c.in-If.last c.in-If.is, ap (λ xs. deepest (map arm_levels xs)) c.as_slice-in-If.ensures, ap (λ b. block_if_there (option_map block_levels b)) c.in-None.is)

pub of_suffix-returns-in-Call : goal.of_suffix-returns-in-Call
of_suffix-returns-in-Call t c = omega (arith, ap suffix_levels c.in-Call.is, call_suffix_levels c.in-Call.args, read.args_read c.in-Call.args, ap (λ xs. deepest (map expr_levels xs)) c.as_slice.ensures)

pub of_suffix-returns-in-Method : goal.of_suffix-returns-in-Method
of_suffix-returns-in-Method t c = omega (arith, ap suffix_levels c.in-Method.is, method_levels c.in-Method.name c.in-Method.args, read.args_read c.in-Method.args, ap (λ xs. deepest (map expr_levels xs)) c.as_slice-in-Method.ensures)

pub of_block-returns : goal.of_block-returns
of_block-returns t c = omega (arith, read.block_read c.args.b.now, ap (λ xs. deepest (map stat_levels xs)) c.as_slice.ensures)

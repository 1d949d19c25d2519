use Rattle.std.proofs.Common.{ℕ, ◌+◌, ◌-◌, ◌*◌, ◌≤◌, List, length, map}
use Rattle.luf_lex.specs.declared.token.Tok.{Tok}
use Rattle.luf_lex.specs.Tokens.{toks_of}
use Rattle.luf_tree.specs.declared.tree.Expr.{Expr, out-Expr}
use Rattle.luf_tree.specs.Agree.{AgreeBefore}
use Rattle.luf_tree.specs.Level.{deepest, expr_levels, field_levels, step_levels, suffix_levels, stat_levels, arm_levels}
use Rattle.luf_tree.specs.Grammar.{IsExpr, IsVariable}
use Rattle.luf_descent.specs.Reads.{Found}
use Rattle.luf_descent.specs.Follow.{precedence_at}
use Rattle.luf_descent.specs.Parts.{ReadExpr}
use Rattle.luf_descent.proofs.ExprForms.{Grown}
use Rattle.luf_descent.proofs.SoFar.{ExprsSoFar, FieldsSoFar, SuffixesSoFar, StatsSoFar, ArmsSoFar, StepsSoFar, TargetsSoFar}
use Rattle.luf_descent.proofs.+parse.Given as goal

-- A level more counts 64; within a level each function has a rank above those that it calls there.
abbrev pub decreases-expressions::expr : goal.decreases-expressions::expr
decreases-expressions::expr l = 64 * l.left + (10 + 2 * (12 - l.least))

abbrev pub decreases-expressions::chain : goal.decreases-expressions::chain
decreases-expressions::chain l = 64 * l.left + (9 + 2 * (12 - l.precedence))

abbrev pub decreases-expressions::operand : goal.decreases-expressions::operand
decreases-expressions::operand l = 64 * l.left + 9

abbrev pub decreases-expressions::power : goal.decreases-expressions::power
decreases-expressions::power l = 64 * l.left + 8

abbrev pub decreases-expressions::simple : goal.decreases-expressions::simple
decreases-expressions::simple l = 64 * l.left + 7

abbrev pub decreases-expressions::function : goal.decreases-expressions::function
decreases-expressions::function l = 64 * l.left + 6

abbrev pub decreases-tables::table_expr : goal.decreases-tables::table_expr
decreases-tables::table_expr l = 64 * l.left + 6

abbrev pub decreases-tables::table : goal.decreases-tables::table
decreases-tables::table l = 64 * l.left + 5

abbrev pub decreases-prefixes::prefix : goal.decreases-prefixes::prefix
decreases-prefixes::prefix l = 64 * l.left + 6

abbrev pub decreases-prefixes::head : goal.decreases-prefixes::head
decreases-prefixes::head l = 64 * l.left + 5

abbrev pub decreases-prefixes::paren : goal.decreases-prefixes::paren
decreases-prefixes::paren l = 64 * l.left + 4

abbrev pub decreases-prefixes::suffixes : goal.decreases-prefixes::suffixes
decreases-prefixes::suffixes l = 64 * l.left + 5

abbrev pub decreases-prefixes::suffix : goal.decreases-prefixes::suffix
decreases-prefixes::suffix l = 64 * l.left + 4

abbrev pub decreases-prefixes::args : goal.decreases-prefixes::args
decreases-prefixes::args l = 64 * l.left + 3

abbrev pub decreases-prefixes::list_args : goal.decreases-prefixes::list_args
decreases-prefixes::list_args l = 64 * l.left + 2

abbrev pub decreases-prefixes::lone_arg : goal.decreases-prefixes::lone_arg
decreases-prefixes::lone_arg l = 64 * l.left + 2

abbrev pub decreases-expressions::exprs : goal.decreases-expressions::exprs
decreases-expressions::exprs l = 64 * l.left + 40

abbrev pub decreases-tables::field : goal.decreases-tables::field
decreases-tables::field l = 64 * l.left + 41

abbrev pub decreases-tables::keyed : goal.decreases-tables::keyed
decreases-tables::keyed l = 64 * l.left + 40

abbrev pub decreases-tables::fields : goal.decreases-tables::fields
decreases-tables::fields l = 64 * l.left + 42

abbrev pub decreases-blocks::func_body : goal.decreases-blocks::func_body
decreases-blocks::func_body l = 64 * l.left + 62

abbrev pub decreases-blocks::block : goal.decreases-blocks::block
decreases-blocks::block l = 64 * l.left + 60

abbrev pub decreases-blocks::last : goal.decreases-blocks::last
decreases-blocks::last l = 64 * l.left + 50

abbrev pub decreases-statements::stat : goal.decreases-statements::stat
decreases-statements::stat l = 64 * l.left + 59

abbrev pub decreases-assignments::expr_stat : goal.decreases-assignments::expr_stat
decreases-assignments::expr_stat l = 64 * l.left + 50

abbrev pub decreases-assignments::assign : goal.decreases-assignments::assign
decreases-assignments::assign l = 64 * l.left + 49

abbrev pub decreases-assignments::targets : goal.decreases-assignments::targets
decreases-assignments::targets l = 64 * l.left + 48

abbrev pub decreases-assignments::variable : goal.decreases-assignments::variable
decreases-assignments::variable l = 64 * l.left + 47

abbrev pub decreases-blocks::ended_block : goal.decreases-blocks::ended_block
decreases-blocks::ended_block l = 64 * l.left + 1

abbrev pub decreases-statements::do_stat : goal.decreases-statements::do_stat
decreases-statements::do_stat l = 64 * l.left + 50

abbrev pub decreases-statements::while_stat : goal.decreases-statements::while_stat
decreases-statements::while_stat l = 64 * l.left + 50

abbrev pub decreases-statements::repeat_stat : goal.decreases-statements::repeat_stat
decreases-statements::repeat_stat l = 64 * l.left + 50

abbrev pub decreases-statements::if_stat : goal.decreases-statements::if_stat
decreases-statements::if_stat l = 64 * l.left + 50

abbrev pub decreases-statements::arms : goal.decreases-statements::arms
decreases-statements::arms l = 64 * l.left + 49

abbrev pub decreases-statements::arm : goal.decreases-statements::arm
decreases-statements::arm l = 64 * l.left + 48

abbrev pub decreases-statements::else_block : goal.decreases-statements::else_block
decreases-statements::else_block l = 64 * l.left + 48

abbrev pub decreases-loops::for_stat : goal.decreases-loops::for_stat
decreases-loops::for_stat l = 64 * l.left + 50

abbrev pub decreases-loops::count_stat : goal.decreases-loops::count_stat
decreases-loops::count_stat l = 64 * l.left + 49

abbrev pub decreases-loops::for_step : goal.decreases-loops::for_step
decreases-loops::for_step l = 64 * l.left + 45

abbrev pub decreases-statements::function_stat : goal.decreases-statements::function_stat
decreases-statements::function_stat l = 64 * l.left + 50

abbrev pub decreases-statements::local_stat : goal.decreases-statements::local_stat
decreases-statements::local_stat l = 64 * l.left + 50

abbrev pub invariant-expressions::expr-chains : goal.invariant-expressions::expr-chains
invariant-expressions::expr-chains l = record {
  grown : (toks : List Tok) → AgreeBefore (toks_of l.cut) toks ((out-Expr l.whole).to + 1) → (n : ℕ) (e : Expr) → ReadExpr toks l.least n l.at e → Grown toks n l.at l.whole l.least e;
  part : Found (toks_of l.cut) (l.at + 1) (out-Expr l.whole).to l.left (expr_levels l.whole) (IsExpr (toks_of l.cut) (precedence_at (toks_of l.cut) (out-Expr l.whole).to + 1) l.at (out-Expr l.whole).to l.whole);
  least : IsExpr (toks_of l.cut) l.least l.at (out-Expr l.whole).to l.whole;
}

abbrev pub decreases-expressions::expr-chains : goal.decreases-expressions::expr-chains
decreases-expressions::expr-chains l = precedence_at (toks_of l.cut) (out-Expr l.whole).to

abbrev pub invariant-expressions::chain-loop-next : goal.invariant-expressions::chain-loop-next
invariant-expressions::chain-loop-next l = record {
  steps : StepsSoFar (toks_of l.cut) l.precedence (out-Expr l.first).to l.sign l.rest;
  level : deepest (map step_levels l.rest) ≤ l.left;
}

abbrev pub decreases-expressions::chain-loop-next : goal.decreases-expressions::chain-loop-next
decreases-expressions::chain-loop-next l = length (toks_of l.cut) - l.sign

abbrev pub invariant-expressions::exprs-loop-found : goal.invariant-expressions::exprs-loop-found
invariant-expressions::exprs-loop-found l = record {
  read : ExprsSoFar (toks_of l.cut) l.fn.at l.at l.found;
  within : l.fn.at ≤ length (toks_of l.cut) → l.at ≤ length (toks_of l.cut);
  level : deepest (map expr_levels l.found) ≤ l.left;
}

abbrev pub decreases-expressions::exprs-loop-found : goal.decreases-expressions::exprs-loop-found
decreases-expressions::exprs-loop-found l = length (toks_of l.cut) - l.at

abbrev pub invariant-tables::fields-fields : goal.invariant-tables::fields-fields
invariant-tables::fields-fields l = record {
  read : FieldsSoFar (toks_of l.cut) l.fn.at l.at l.found;
  within : l.at ≤ length (toks_of l.cut);
  level : deepest (map field_levels l.found) ≤ l.left;
}

abbrev pub decreases-tables::fields-fields : goal.decreases-tables::fields-fields
decreases-tables::fields-fields l = length (toks_of l.cut) - l.at

abbrev pub invariant-statements::arms-loop-found : goal.invariant-statements::arms-loop-found
invariant-statements::arms-loop-found l = record {
  read : ArmsSoFar (toks_of l.cut) l.fn.at l.at l.found;
  within : l.fn.at ≤ length (toks_of l.cut) → l.at ≤ length (toks_of l.cut);
  level : deepest (map arm_levels l.found) ≤ l.left;
}

abbrev pub decreases-statements::arms-loop-found : goal.decreases-statements::arms-loop-found
decreases-statements::arms-loop-found l = length (toks_of l.cut) - l.at

abbrev pub invariant-prefixes::suffixes-loop-found : goal.invariant-prefixes::suffixes-loop-found
invariant-prefixes::suffixes-loop-found l = record {
  read : SuffixesSoFar (toks_of l.cut) l.fn.at l.at l.found;
  within : l.fn.at ≤ length (toks_of l.cut) → l.at ≤ length (toks_of l.cut);
  level : deepest (map suffix_levels l.found) ≤ l.left;
}

abbrev pub decreases-prefixes::suffixes-loop-found : goal.decreases-prefixes::suffixes-loop-found
decreases-prefixes::suffixes-loop-found l = length (toks_of l.cut) - l.at

abbrev pub invariant-blocks::block-loop-stats : goal.invariant-blocks::block-loop-stats
invariant-blocks::block-loop-stats l = record {
  read : StatsSoFar (toks_of l.cut) l.at l.to l.stats;
  within : l.to ≤ length (toks_of l.cut);
  level : deepest (map stat_levels l.stats) ≤ l.left;
}

abbrev pub decreases-blocks::block-loop-stats : goal.decreases-blocks::block-loop-stats
decreases-blocks::block-loop-stats l = length (toks_of l.cut) - l.to

abbrev pub invariant-assignments::targets-loop-found : goal.invariant-assignments::targets-loop-found
invariant-assignments::targets-loop-found l = record {
  read : TargetsSoFar (toks_of l.cut) l.fn.at l.fn.first l.at l.one l.found;
  one : Found (toks_of l.cut) (l.at + 1) (out-Expr l.one).to l.left (expr_levels l.one) (IsVariable (toks_of l.cut) l.at (out-Expr l.one).to l.one);
  forward : l.fn.at ≤ l.at;
  level : deepest (map expr_levels l.found) ≤ l.left;
}

abbrev pub decreases-assignments::targets-loop-found : goal.decreases-assignments::targets-loop-found
decreases-assignments::targets-loop-found l = length (toks_of l.cut) - l.at

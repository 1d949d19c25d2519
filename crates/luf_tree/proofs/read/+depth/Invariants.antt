use Rattle.std.proofs.Common.{◌≡◌, map, min, take}
use Rattle.luf_tree.specs.Level.{deepest, expr_levels, field_levels, suffix_levels, step_levels, stat_levels, arm_levels}
use Rattle.luf_tree.proofs.read.+depth.Given as goal

abbrev pub invariant-of_arms-loop-a : goal.invariant-of_arms-loop-a
invariant-of_arms-loop-a l = l.most ≡ min (deepest (map arm_levels (take l.a-index l.arms))) 4294967295

abbrev pub invariant-of_exprs-loop-e : goal.invariant-of_exprs-loop-e
invariant-of_exprs-loop-e l = l.most ≡ min (deepest (map expr_levels (take l.e-index l.exprs))) 4294967295

abbrev pub invariant-of_fields-loop-f : goal.invariant-of_fields-loop-f
invariant-of_fields-loop-f l = l.most ≡ min (deepest (map field_levels (take l.f-index l.fields))) 4294967295

abbrev pub invariant-of_stats-loop-s : goal.invariant-of_stats-loop-s
invariant-of_stats-loop-s l = l.most ≡ min (deepest (map stat_levels (take l.s-index l.stats))) 4294967295

abbrev pub invariant-of_steps-loop-s : goal.invariant-of_steps-loop-s
invariant-of_steps-loop-s l = l.most ≡ min (deepest (map step_levels (take l.s-index l.steps))) 4294967295

abbrev pub invariant-of_suffixes-loop-s : goal.invariant-of_suffixes-loop-s
invariant-of_suffixes-loop-s l = l.most ≡ min (deepest (map suffix_levels (take l.s-index l.suffixes))) 4294967295

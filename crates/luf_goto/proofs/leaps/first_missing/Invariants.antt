use Rattle.std.proofs.Common.{◌≡◌, drop}
use Rattle.luf_goto.specs.inner.Leaps.{first_failing, has_none}
use Rattle.luf_goto.proofs.leaps.first_missing.Given as goal

abbrev pub invariant-loop-i : goal.invariant-loop-i
invariant-loop-i l = first_failing has_none (drop l.i l.gotos) (drop l.i l.targets) ≡ first_failing has_none l.gotos l.targets

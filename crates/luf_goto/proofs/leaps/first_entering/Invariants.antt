use Rattle.std.proofs.Common.{◌≡◌, drop}
use Rattle.luf_goto.specs.inner.Leaps.{first_failing, enters_scope}
use Rattle.luf_goto.proofs.leaps.first_entering.Given as goal

abbrev pub invariant-loop-i : goal.invariant-loop-i
invariant-loop-i l = first_failing (enters_scope l.labels l.scopes) (drop l.i l.gotos) (drop l.i l.targets) ≡ first_failing (enters_scope l.labels l.scopes) l.gotos l.targets

use Rattle.luf_scope.specs.inner.Starts.{StandBefore}
use Rattle.luf_scope.proofs.marks.mark_from.Given as goal

abbrev pub invariant-loop-place : goal.invariant-loop-place
invariant-loop-place g l = StandBefore l.marks l.place l.token

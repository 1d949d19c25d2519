use Rattle.std.proofs.Common.{◌≡◌, ℕ, ◌<◌, ◌≤◌, ◌++◌, length, drop, All}
use Rattle.luf_scope.specs.Order.{place}
use Rattle.luf_goto.specs.inner.Marking.{marks_from, occurrence_at}
use Rattle.luf_goto.proofs.jumps.Jumps.of.Given as goal

abbrev pub invariant-loop-o : goal.invariant-loop-o
invariant-loop-o l = record {
  roles : l.marking.roles ++ marks_from l.targets l.marking.label l.marking.goto (drop l.o-index l.os) ≡ marks_from l.targets 0 0 l.os;
  behind : (k : ℕ) → l.o-index ≤ k → k < length l.os → All (λ m. m.0 < place (occurrence_at l.os k)) l.marking.roles;
  count : l.marking.goto ≤ l.o-index;
}

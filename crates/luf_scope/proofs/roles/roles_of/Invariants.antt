use Rattle.std.proofs.Common.{◌≡◌, ℕ, ◌+◌, ◌<◌, ◌≤◌, ◌++◌, Option, length, map, drop, get_or, All}
use Rattle.std.specs.List.{count_by}
use Rattle.luf_scope.specs.Order.{place, declares}
use Rattle.luf_scope.specs.declared.occurrence.Occurrence.{Occurrence}
use Rattle.luf_scope.specs.inner.Laid.{roles_from}
use Rattle.luf_scope.proofs.roles.roles_of.Given as goal

abbrev pub invariant-loop-i : goal.invariant-loop-i
invariant-loop-i l = record {
  number : l.number + count_by declares (drop l.i l.os) ≡ count_by declares l.os;
  low : (j : ℕ) (d : Occurrence) → l.i ≤ j → j < length l.os → All (λ m. m.0 < place (get_or l.os j d)) l.roles;
  roles : (means : Occurrence → Option ℕ) → l.meanings ≡ map means l.os → l.roles ++ roles_from means l.number (drop l.i l.os) ≡ roles_from means 0 l.os;
}

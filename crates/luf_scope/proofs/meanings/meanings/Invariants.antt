use Rattle.std.proofs.Common.{◌≡◌, ℕ, ◌<◌, ◌≤◌, ◌++◌, length, map, drop, get_or}
use Rattle.luf_scope.specs.Links.{spelling_in}
use Rattle.luf_scope.specs.Order.{place}
use Rattle.luf_scope.specs.declared.occurrence.Occurrence.{Occurrence}
use Rattle.luf_scope.specs.inner.Buckets.{number_in}
use Rattle.luf_scope.specs.inner.Scopes.{meant_by}
use Rattle.luf_scope.specs.inner.Sweep.{IsSweep}
use Rattle.luf_scope.proofs.meanings.meanings.Given as goal

abbrev pub invariant-loop-o : goal.invariant-loop-o
invariant-loop-o l = record {
  sweep : IsSweep l.scopes l.sweep.place l.sweep.entered l.sweep.stacks.items;
  ahead : (j : ℕ) (d : Occurrence) → l.o-index ≤ j → j < length l.os → l.sweep.place ≤ place (get_or l.os j d);
  found : l.found.items ++ map (meant_by (spelling_in l.src l.cut) (number_in l.names.buckets.items) l.scopes) (drop l.o-index l.os) ≡ map (meant_by (spelling_in l.src l.cut) (number_in l.names.buckets.items) l.scopes) l.os;
}

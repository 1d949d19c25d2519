use Rattle.std.proofs.Common.{◌≡◌, map, take}
use Rattle.luf_goto.specs.inner.Rows.{scope_spot}
use Rattle.luf_goto.proofs.scopes.scope_spots.Given as goal

abbrev pub invariant-loop-l : goal.invariant-loop-l
invariant-loop-l l = l.spots.items ≡ map scope_spot (take l.l-index l.labels)

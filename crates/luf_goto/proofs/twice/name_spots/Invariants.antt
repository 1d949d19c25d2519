use Rattle.std.proofs.Common.{◌≡◌, map, take}
use Rattle.luf_goto.specs.inner.Rows.{name_spot}
use Rattle.luf_goto.proofs.twice.name_spots.Given as goal

abbrev pub invariant-loop-l : goal.invariant-loop-l
invariant-loop-l l = l.spots.items ≡ map name_spot (take l.l-index l.labels)

use Rattle.std.proofs.Common.{◌≡◌, map, take}
use Rattle.luf_goto.specs.inner.Rows.{goto_spot}
use Rattle.luf_goto.proofs.targets.goto_spots.Given as goal

abbrev pub invariant-loop-g : goal.invariant-loop-g
invariant-loop-g l = l.spots.items ≡ map goto_spot (take l.g-index l.gotos)

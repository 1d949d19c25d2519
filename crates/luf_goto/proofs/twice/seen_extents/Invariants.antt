use Rattle.std.proofs.Common.{◌≡◌, map, take}
use Rattle.luf_goto.specs.inner.Rows.{seen_extent}
use Rattle.luf_goto.proofs.twice.seen_extents.Given as goal

abbrev pub invariant-loop-l : goal.invariant-loop-l
invariant-loop-l l = l.extents.items ≡ map seen_extent (take l.l-index l.labels)

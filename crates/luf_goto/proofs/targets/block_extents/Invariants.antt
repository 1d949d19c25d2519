use Rattle.std.proofs.Common.{◌≡◌, ◌++◌, drop}
use Rattle.luf_goto.specs.inner.Rows.{block_extents}
use Rattle.luf_goto.proofs.targets.block_extents.Given as goal

abbrev pub invariant-loop-i : goal.invariant-loop-i
invariant-loop-i l = l.extents.items ++ block_extents l.i (drop l.i l.labels) ≡ block_extents 0 l.labels

use Rattle.std.proofs.Common.{◌≡◌, map, take}
use Rattle.luf_goto.specs.inner.Innermost.{extent_numbered}
use Rattle.luf_goto.proofs.innermost.extents_at.Given as goal

abbrev pub invariant-loop-n : goal.invariant-loop-n
invariant-loop-n l = l.at.items ≡ map (extent_numbered l.extents) (take l.n-index l.numbers)

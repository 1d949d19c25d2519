use Rattle.std.proofs.Common.{◌≡◌, map, take}
use Rattle.luf_goto.specs.inner.Rows.{target_of}
use Rattle.luf_goto.proofs.targets.numbers_of.Given as goal

abbrev pub invariant-loop-e : goal.invariant-loop-e
invariant-loop-e l = l.numbers.items ≡ map target_of (take l.e-index l.found)

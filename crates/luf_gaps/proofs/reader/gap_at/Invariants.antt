use Rattle.std.proofs.Common.{◌≡◌, suc, ◌-◌, length}
use Rattle.luf_gaps.specs.inner.Left.{left_at, left_from}
use Rattle.luf_gaps.proofs.reader.gap_at.Given as goal

abbrev pub invariant-loop-n : goal.invariant-loop-n
invariant-loop-n l = left_from l.src l.cut l.dropped l.n (suc (length l.dropped) - l.n) l.gap ≡ left_at l.src l.cut l.dropped l.at

-- What stands behind a place has been measured.
use Rattle.std.proofs.Common.{◌≤◌, drop, length, map}
use Rattle.luf_draft.specs.Flat.{shown}
use Rattle.luf_style.specs.inner.Measured.{IsMeasured}
use Rattle.luf_style.proofs.measuring.needs_of.Given as goal

abbrev pub invariant-loop-n : goal.invariant-loop-n
invariant-loop-n l = record {
  within : l.n ≤ length l.marks;
  measured : IsMeasured (drop l.n (map (shown l.written) l.marks)) l.gaps l.left l.measuring;
}

abbrev pub decreases-loop-n : goal.decreases-loop-n
decreases-loop-n l = l.n

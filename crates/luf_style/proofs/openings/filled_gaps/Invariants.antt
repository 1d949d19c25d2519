use Rattle.std.proofs.Common.{drop, map}
use Rattle.luf_draft.specs.Flat.{shown}
use Rattle.luf_style.specs.inner.Openings.{GoesOn}
use Rattle.luf_style.proofs.openings.filled_gaps.Given as goal

abbrev pub invariant-loop-n : goal.invariant-loop-n
invariant-loop-n l = GoesOn l.written (map (shown l.written) l.marks) l.fn.notes (map (shown l.written) (drop l.n l.marks)) l.openings

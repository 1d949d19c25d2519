use Rattle.std.proofs.Common.{◌≡◌, ℕ, ◌≤◌, length, take}
use Rattle.luf_scope.specs.inner.Last.{last_such}
use Rattle.luf_interf.specs.inner.LabelRows.{reaches}
use Rattle.luf_interf.proofs.label_rows.top.Given as goal

abbrev pub invariant-loop-left : goal.invariant-loop-left
invariant-loop-left l = record {
  within : l.left ≤ length l.holders.items;
  kept : (later : ℕ) → l.place ≤ later → last_such (reaches later) (take l.left l.holders.items) ≡ last_such (reaches later) l.holders.items;
}

abbrev pub decreases-loop-left : goal.decreases-loop-left
decreases-loop-left l = l.left

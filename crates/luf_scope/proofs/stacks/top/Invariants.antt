use Rattle.std.proofs.Common.{◌≡◌, ℕ, ◌≤◌, length, take}
use Rattle.luf_scope.specs.inner.Last.{last_such, outlasts}
use Rattle.luf_scope.proofs.stacks.top.Given as goal

abbrev pub invariant-loop-left : goal.invariant-loop-left
invariant-loop-left g l = record {
  within : l.left ≤ length l.stack.items;
  kept : (later : ℕ) → l.place ≤ later → last_such (outlasts later) (take l.left l.stack.items) ≡ last_such (outlasts later) l.stack.items;
}

abbrev pub decreases-loop-left : goal.decreases-loop-left
decreases-loop-left g l = l.left

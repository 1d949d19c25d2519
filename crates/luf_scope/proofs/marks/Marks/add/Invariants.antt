use Rattle.std.proofs.Common.{◌≡◌, ◌+◌, ◌-◌, length}
use Rattle.luf_scope.specs.inner.Starts.{AreStarts}
use Rattle.luf_scope.proofs.marks.Marks.add.Given as goal

abbrev pub invariant-loop-self : goal.invariant-loop-self
invariant-loop-self g l = record {
  marks : l.self-inside.marks.items ≡ l.initial.self-inside.marks.items;
  starts : AreStarts l.self-inside.marks.items l.self-inside.starts.items;
}

abbrev pub decreases-loop-self : goal.decreases-loop-self
decreases-loop-self g l = l.block + 1 - length l.self-inside.starts.items

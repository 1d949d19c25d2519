use Rattle.std.proofs.Common.{◌≡◌, ◌++◌, ◌≤◌, length, take}
use Rattle.luf_proto.specs.Chunk.{groups}
use Rattle.luf_chunk.proofs.field.append_groups.Given as goal

abbrev pub decreases-loop-left : goal.decreases-loop-left
decreases-loop-left l = l.left

-- the groups so far, and those that are left
abbrev pub invariant-loop-left : goal.invariant-loop-left
invariant-loop-left l = record {
  few : l.left ≤ 9;
  whole : l.into.items ++ groups l.left l.n ≡ l.initial.into.items ++ groups 9 l.n;
  kept : take (length l.initial.into.items) l.into.items ≡ l.initial.into.items;
}

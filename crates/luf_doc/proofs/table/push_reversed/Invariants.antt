use Rattle.std.proofs.Common.{◌≡◌, ◌++◌, length, reverse}
use Rattle.luf_doc.proofs.table.push_reversed.Given as goal

abbrev pub invariant-loop-item : goal.invariant-loop-item
invariant-loop-item l = l.left.items ++ reverse l.items ≡ l.fn.left.items ++ reverse l.initial.items

abbrev pub decreases-loop-item : goal.decreases-loop-item
decreases-loop-item l = length l.items

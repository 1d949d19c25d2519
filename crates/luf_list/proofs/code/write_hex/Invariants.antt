use Rattle.std.proofs.Common.{◌≡◌, ◌++◌, ◌≤◌, length, take}
use Rattle.luf_list.specs.Listing.{hex}
use Rattle.luf_list.proofs.code.write_hex.Given as goal

-- what is written and what is left are the whole, and what was there before is kept
abbrev pub invariant-loop-left : goal.invariant-loop-left
invariant-loop-left l = (l.left ≤ 16) × (l.into.items ++ hex l.left l.number ≡ l.fn.into.items ++ hex l.digits l.number) × (take (length l.fn.into.items) l.into.items ≡ l.fn.into.items)

abbrev pub decreases-loop-left : goal.decreases-loop-left
decreases-loop-left l = l.left

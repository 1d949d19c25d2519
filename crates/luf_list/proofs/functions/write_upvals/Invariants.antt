use Rattle.std.proofs.Common.{◌≡◌, ◌++◌, drop, length, take}
use Rattle.luf_list.specs.Listing.{upvalue_lines}
use Rattle.luf_list.proofs.functions.write_upvals.Given as goal

-- what is written and what is left are the whole, and what was there before is kept
abbrev pub invariant-loop-index : goal.invariant-loop-index
invariant-loop-index l = (l.into.items ++ upvalue_lines l.index (drop l.index l.upvals) ≡ l.fn.into.items ++ upvalue_lines 0 l.upvals) × (take (length l.fn.into.items) l.into.items ≡ l.fn.into.items)

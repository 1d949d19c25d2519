use Rattle.std.proofs.Common.{◌≡◌, ◌++◌, drop, length, take}
use Rattle.luf_list.specs.Listing.{constant_lines}
use Rattle.luf_list.proofs.constants.write_constants.Given as goal

-- what is written and what is left are the whole, and what was there before is kept
abbrev pub invariant-loop-index : goal.invariant-loop-index
invariant-loop-index l = (l.into.items ++ constant_lines l.index (drop l.index l.consts) ≡ l.fn.into.items ++ constant_lines 0 l.consts) × (take (length l.fn.into.items) l.into.items ≡ l.fn.into.items)

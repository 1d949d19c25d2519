use Rattle.std.proofs.Common.{◌≡◌, ◌++◌, drop, length, take}
use Rattle.luf_list.specs.Listing.{code_lines}
use Rattle.luf_list.proofs.code.write_code.Given as goal

-- what is written and what is left are the whole, and what was there before is kept
abbrev pub invariant-loop-position : goal.invariant-loop-position
invariant-loop-position l = (l.into.items ++ code_lines l.position (drop l.position l.code) ≡ l.fn.into.items ++ code_lines 0 l.code) × (take (length l.fn.into.items) l.into.items ≡ l.fn.into.items)

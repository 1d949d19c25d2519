use Rattle.std.proofs.Common.{◌≡◌, ◌++◌, drop, length, take}
use Rattle.std.specs.List.{flat_map}
use Rattle.luf_list.specs.Listing.{escaped}
use Rattle.luf_list.proofs.constants.write_string.Given as goal

-- what is written and what is left are the whole, and what was there before is kept
abbrev pub invariant-loop-b : goal.invariant-loop-b
invariant-loop-b l = (l.into.items ++ flat_map escaped (drop l.b-index l.text) ≡ l.initial.into.items ++ flat_map escaped l.text) × (take (length l.fn.into.items) l.into.items ≡ l.fn.into.items)

use Rattle.std.proofs.Common.{◌≡◌, ◌-◌, ◌≤◌, ◌++◌, List, ℕ, length, drop}
use Rattle.luf_str.proofs.LongLaws.{IsLongReadTo}
use Rattle.luf_str.proofs.values.push_lines.Given as goal

abbrev pub invariant-lines : goal.invariant-lines
invariant-lines l = (l.at ≤ length l.body) × ((done : List ℕ) × IsLongReadTo l.body (drop l.at l.body) done × (l.into.items ≡ l.initial.into.items ++ done))

abbrev pub decreases-lines : goal.decreases-lines
decreases-lines l = length l.body - l.at

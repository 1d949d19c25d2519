use Rattle.std.proofs.Common.{◌≡◌, ◌-◌, ◌≤◌, ◌++◌, List, ℕ, length, drop}
use Rattle.luf_str.proofs.PartLaws.{IsReadTo}
use Rattle.luf_str.proofs.values.push_short.Given as goal

abbrev pub invariant-parts : goal.invariant-parts
invariant-parts l = (l.at ≤ length l.spelling) × ((done : List ℕ) × IsReadTo l.quote l.spelling l.at (drop l.at l.spelling) done × (l.into.items ≡ l.initial.into.items ++ done))

abbrev pub decreases-parts : goal.decreases-parts
decreases-parts l = length l.spelling - l.at

use Rattle.std.proofs.Common.{◌-◌, ◌≤◌, List, ℕ, length, drop}
use Rattle.luf_str.proofs.PartLaws.{IsReadTo}
use Rattle.luf_str.proofs.ends.short_end.Given as goal

abbrev pub invariant-parts : goal.invariant-parts
invariant-parts l = (l.at ≤ length l.text) × ((done : List ℕ) × IsReadTo l.quote l.text l.at (drop l.at l.text) done)

abbrev pub decreases-parts : goal.decreases-parts
decreases-parts l = length l.text - l.at

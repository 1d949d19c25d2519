use Rattle.std.proofs.Common.{◌≡◌, ◌-◌, ◌<◌, ◌++◌, List, ℕ, length, drop}
use Rattle.luf_str.specs.Requote.{quote_byte}
use Rattle.luf_str.proofs.UnitReading.{IsCutTo}
use Rattle.luf_str.proofs.quoting.push_short.Given as goal

abbrev pub invariant-loop-at : goal.invariant-loop-at
invariant-loop-at l = (l.at < length l.spelling) × ((done : List ℕ) × IsCutTo l.from (quote_byte l.quotes) l.spelling (drop l.at l.spelling) done × (l.into.items ≡ l.fn.into.items ++ done))

abbrev pub decreases-loop-at : goal.decreases-loop-at
decreases-loop-at l = length l.spelling - l.at

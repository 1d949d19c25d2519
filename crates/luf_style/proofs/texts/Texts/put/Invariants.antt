-- What was added so far is as none.
use Rattle.std.proofs.Common.{◌≡◌, ◌≤◌, ◌-◌, ℕ, [], length, get_or}
use Rattle.luf_style.proofs.texts.Texts.put.Given as goal

abbrev pub invariant-loop-self : goal.invariant-loop-self
invariant-loop-self l = record {
  few : length l.self ≤ l.n;
  same : (i : ℕ) → get_or l.self i [] ≡ get_or l.initial.self i [];
}

abbrev pub decreases-loop-self : goal.decreases-loop-self
decreases-loop-self l = l.n - length l.self

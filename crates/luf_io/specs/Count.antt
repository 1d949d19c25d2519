-- Counts of faults, and of calls. Our own rule.
use Rattle.std.specs.Prelude.{◌≡◌, ℕ, ◌+◌, ◌-◌, ◌^◌, ◌<◌, ◌≤◌, ◌⊎◌, min}

-- the last value of a counter: a count stands still there
abbrev pub last_count : ℕ
last_count = 2 ^ 64 - 1

-- the count after one more
abbrev pub next_count : ℕ → ℕ
next_count count = min (count + 1) last_count

-- A count of faults rose in a call: it is greater, or it stands at its last value. It never falls.
pub record Rose (before after : ℕ) : Type 0 where
  pub no_less : before ≤ after
  pub rose_or_last : (before < after) ⊎ (after ≡ last_count)

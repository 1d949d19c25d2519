-- What a whole read answers. Our own rule.
use Rattle.std.specs.Prelude.{◌≡◌, ℕ, ◌+◌, ◌≤◌, Result, Ok, Err}
use Rattle.luf_io.specs.Count.{Rose}
use Rattle.luf_io.specs.declared.read.ReadErr.{ReadErr}
use Rattle.luf_io.specs.declared.read.ReadErr.TheVariants.{Fault, TooLarge, Memory}

-- The source's count of faults rises at `Fault`, and stays at every other answer.
abbrev pub CountsFault : {T : Type 0} → Result T ReadErr → ℕ → ℕ → Type 0
CountsFault (Ok _) before after = after ≡ before
CountsFault (Err Fault) before after = Rose before after
CountsFault (Err TooLarge) before after = after ≡ before
CountsFault (Err Memory) before after = after ≡ before

-- How many bytes were pulled: one over the limit at `TooLarge`, and within it at every other answer.
abbrev pub PullsWithin : {T : Type 0} → Result T ReadErr → ℕ → ℕ → Type 0
PullsWithin (Ok _) most pulled = pulled ≤ most
PullsWithin (Err Fault) most pulled = pulled ≤ most
PullsWithin (Err TooLarge) most pulled = pulled ≡ most + 1
PullsWithin (Err Memory) most pulled = pulled ≤ most

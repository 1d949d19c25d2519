-- Where a token is looked for among marks.
use Rattle.std.specs.Prelude.{ℕ, ◌*◌, ◌<◌, ◌≤◌, List, length, get_or, All}

-- all marks before a place stand before a token
abbrev pub StandBefore : {T : Type 0} → List (ℕ × T) → ℕ → ℕ → Type 0
StandBefore {T} marks place token = (i : ℕ) (d : ℕ × T) → i < place → i < length marks → (get_or marks i d).0 < token

-- for each 16 tokens in turn a place, so that all marks before it stand before them; no mark stands behind them all
pub record AreStarts {T : Type 0} (marks : List (ℕ × T)) (starts : List ℕ) : Type 0 where
  pub within : All (λ start. start ≤ length marks) starts
  pub before : (k d : ℕ) → k < length starts → StandBefore marks (get_or starts k d) (16 * k)
  pub last : All (λ m. m.0 < 16 * length starts) marks

-- Bytes that go outside. A sink may tell what was written; a clause on it holds where it is told. Our own rule.
use Rattle.std.specs.Prelude.{◌≡◌, ℕ, List, ◌++◌, Option, option_map}

-- A piece was put at the end of what was written. A sink that tells nothing goes on telling nothing.
abbrev pub Appends : Option (List ℕ) → List ℕ → Option (List ℕ) → Type 0
Appends before piece after = after ≡ option_map (λ written. written ++ piece) before

-- What a sink in memory is: the bytes that were written, how many more it has room for, the most that one
-- put takes, the numbers of the calls that fail, and how many calls there were and how many of them failed.
pub record SinkState : Type 0 where
  pub written : List ℕ
  pub room : ℕ
  pub step : ℕ
  pub fails : List ℕ
  pub calls : ℕ
  pub faults : ℕ

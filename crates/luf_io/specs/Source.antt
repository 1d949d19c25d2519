-- Bytes that come from outside. A source may tell what is left; a clause on it holds where it is told.
-- Our own rule.
use Rattle.std.specs.Prelude.{◌≡◌, ℕ, List, [], ◌++◌, Option, option_map}
use Rattle.std.specs.Option.{ForSome}

-- A piece was taken from the front: what was left is the piece, and then what is left now.
-- A source that tells nothing goes on telling nothing.
abbrev pub Taken : Option (List ℕ) → List ℕ → Option (List ℕ) → Type 0
Taken before piece after = before ≡ option_map (λ rest. piece ++ rest) after

-- nothing is left, where it is told
abbrev pub IsAtEnd : Option (List ℕ) → Type 0
IsAtEnd left = ForSome left (λ bytes. bytes ≡ [])

-- What a source in memory is: the bytes that are left, the most that one pull gives, the numbers of the
-- calls that fail, and how many calls there were and how many of them failed.
pub record SourceState : Type 0 where
  pub left : List ℕ
  pub step : ℕ
  pub fails : List ℕ
  pub calls : ℕ
  pub faults : ℕ

-- Numbers in a row, and above each 64 of them one that is not less than any.
use Rattle.std.specs.Prelude.{◌≡◌, ℕ, ◌*◌, ◌/◌, ◌<◌, ◌≤◌, ◌⊎◌, List, [], ◌∷◌, ◌++◌, length, slice_index}

-- nothing is less than what it stands above
pub record IsAbove (numbers above : List ℕ) : Type 0 where
  pub room : length numbers ≤ length above * 64
  pub high : (i : ℕ) → i < length numbers → slice_index numbers i ≤ slice_index above (i / 64)

pub record AreLevels (numbers blocks groups tops : List ℕ) : Type 0 where
  pub first : IsAbove numbers blocks
  pub second : IsAbove blocks groups
  pub third : IsAbove groups tops

-- as it was, or with a 0 behind it
abbrev pub IsLonger : List ℕ → List ℕ → Type 0
IsLonger old new = (new ≡ old) ⊎ (new ≡ old ++ 0 ∷ [])

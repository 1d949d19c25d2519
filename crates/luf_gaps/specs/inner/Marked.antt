-- A mask of tokens in which some are marked.
use Rattle.std.specs.Prelude.{◌≡◌, ℕ, Bool, true, List, [], ◌∷◌, slice_set}

-- a mask in which these are marked as well
abbrev pub marked : List ℕ → List Bool → List Bool
marked [] mask = mask
marked (n ∷ more) mask = marked more (slice_set mask n true)

-- The tokens that a part puts in front of any more were marked.
pub record Marks (part : List ℕ → List ℕ) (old new : List Bool) : Type 0 where
  pub each : (more : List ℕ) → marked (part more) old ≡ marked more new

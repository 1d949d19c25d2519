-- The numbers of barred names, word by word.
use Rattle.std.specs.Prelude.{◌≡◌, ℕ, ◌<◌, ◌⊎◌, List, length, slice_index_or}
use Rattle.luf_name.specs.Order.{IsNth}
use Rattle.luf_interf.specs.inner.Uses.{nowhere}
use Rattle.luf_interf.specs.inner.Among.{Among}

-- the number of one of these words
pub record IsNumbered (words : List (List ℕ)) (k : ℕ) : Type 0 where
  pub name : List ℕ
  pub is : IsNth name k
  pub among : Among name words

-- of so many numbers, 0 at those of these words, and nowhere at all others
pub record AreBarredBy (words : List (List ℕ)) (size : ℕ) (heads : List ℕ) : Type 0 where
  pub count : length heads ≡ size
  pub told : (k : ℕ) → k < size → (IsNumbered words k × (slice_index_or heads k 0 ≡ 0)) ⊎ ((IsNumbered words k → ⊥) × (slice_index_or heads k 0 ≡ nowhere))

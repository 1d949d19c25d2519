-- The eight bytes in which a name lies: behind it are zeros, so that equal names have equal bytes.
use Rattle.std.specs.Prelude.{◌≡◌, ℕ, ◌-◌, ◌≤◌, List, ◌++◌, length, take, replicate}
use Rattle.std.proofs.Common.{length-take-le, arith}

abbrev pub padded : List ℕ → List ℕ
padded name = name ++ replicate (8 - length name) 0

pub record IsPadded (bytes : List ℕ) (len : ℕ) : Type 0 where
  pub within : len ≤ 8
  pub eight : length bytes ≡ 8
  pub zeros : padded (take len bytes) ≡ bytes

-- so the length is kept by the name
pub length-name : (bytes : List ℕ) (len : ℕ) → IsPadded bytes len → length (take len bytes) ≡ len
length-name bytes len p = length-take-le len bytes (omega (arith, p.within, p.eight))

-- The parts into which the spelling of a numeral is cut, from the left.
use Rattle.std.specs.Prelude.{◌≡◌, ℕ, Bool, ◌==◌, List, [], ◌∷◌, ◌++◌, IsTrue}
use Rattle.std.specs.List.{list_all}
use Rattle.std.specs.Str.{byte}
use Rattle.luf_byte.specs.Front.{NoneAtFront}

-- s is cut after all the bytes from the front on that pass the test
pub record SplitsWhile (test : ℕ → Bool) (s front back : List ℕ) : Type 0 where
  pub spelled : s ≡ front ++ back
  pub passes : IsTrue (list_all test front)
  pub stops : NoneAtFront test back

-- the test that a byte is a point
abbrev pub is_point : ℕ → Bool
is_point b = b == byte "."

-- s is cut after its first byte, if that passes the test
abbrev pub SplitsFirst : (ℕ → Bool) → List ℕ → List ℕ → List ℕ → Type 0
SplitsFirst test s [] rest = (s ≡ rest) × NoneAtFront test rest
SplitsFirst test s (x ∷ xs) rest = (s ≡ x ∷ rest) × (xs ≡ []) × IsTrue (test x)

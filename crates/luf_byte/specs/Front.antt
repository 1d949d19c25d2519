-- The byte with which a text begins.
use Rattle.std.specs.Prelude.{ℕ, Bool, false, List, [], ◌∷◌, ⊤, IsFalse}

-- whether the text begins with a byte of the class
abbrev pub begins : (ℕ → Bool) → List ℕ → Bool
begins class [] = false
begins class (b ∷ text) = class b

-- the text does not begin with a byte of the class
abbrev pub NoneAtFront : (ℕ → Bool) → List ℕ → Type 0
NoneAtFront class [] = ⊤
NoneAtFront class (b ∷ text) = IsFalse (class b)

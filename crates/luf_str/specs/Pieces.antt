-- Texts cut into pieces, and texts that grow.
use Rattle.std.specs.Prelude.{◌≡◌, ℕ, List, [], ◌∷◌, ◌++◌, ⊤}
use Rattle.std.specs.List.{flat_map}

-- Each piece is as P says, where the bytes of the pieces behind it and then next follow it.
abbrev pub AllInPlace : {X : Type 0} → (X → List ℕ → Type 0) → (X → List ℕ) → List X → List ℕ → Type 0
AllInPlace P bytes [] next = ⊤
AllInPlace P bytes (x ∷ xs) next = P x (flat_map bytes xs ++ next) × AllInPlace P bytes xs next

-- new is old with bytes of this kind at its end
abbrev pub GrowsBy : (List ℕ → Type 0) → List ℕ → List ℕ → Type 0
GrowsBy kind old new = (bytes : List ℕ) × kind bytes × (new ≡ old ++ bytes)

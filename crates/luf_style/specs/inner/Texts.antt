-- Texts in one buffer. What only private functions cite.
use Rattle.std.specs.Prelude.{◌≡◌, ℕ, ◌≤◌, List, [], ◌∷◌, slice_range}

-- the texts that end there, of which the first begins at `from`
abbrev pub texts_from : ℕ → List ℕ → List ℕ → List (List ℕ)
texts_from from [] bytes = []
texts_from from (end ∷ ends) bytes = slice_range bytes from end ∷ texts_from end ends bytes

-- none ends before it begins, and the last one ends where the bytes end
abbrev pub AreEnds : ℕ → List ℕ → ℕ → Type 0
AreEnds from [] total = from ≡ total
AreEnds from (end ∷ ends) total = (from ≤ end) × AreEnds end ends total

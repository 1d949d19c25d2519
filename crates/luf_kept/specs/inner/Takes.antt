-- The words of a draft, one after another: each trail has a `,` or has none.
use Rattle.std.specs.Prelude.{◌≡◌, ℕ, ◌⊎◌, List, ◌∷◌, codes}
use Rattle.luf_draft.specs.Draft.{Draft, Drafts, word, opening, trail, nest, group, sequence, nothing, also}

-- these words are those of the draft, and then the rest
abbrev mutual
  pub Takes : Draft → List (List ℕ) → List (List ℕ) → Type 0
  Takes (word bytes) words rest = words ≡ bytes ∷ rest
  Takes (opening gap) words rest = words ≡ rest
  Takes trail words rest = (words ≡ rest) ⊎ (words ≡ codes "," ∷ rest)
  Takes (nest inner) words rest = Takes inner words rest
  Takes (group inner) words rest = Takes inner words rest
  Takes (sequence items) words rest = TakeAll items words rest

  pub TakeAll : Drafts → List (List ℕ) → List (List ℕ) → Type 0
  TakeAll nothing words rest = words ≡ rest
  TakeAll (also first items) words rest = (mid : List (List ℕ)) × Takes first words mid × TakeAll items mid rest

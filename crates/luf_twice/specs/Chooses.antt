-- Which texts of a document are tokens that are dropped, and that each gap stands before one that is not. Rules of our own.
use Rattle.std.specs.Prelude.{◌≡◌, ℕ, suc, Bool, true, false, List, [], ◌∷◌, ◌⊎◌}
use Rattle.luf_bare.specs.Significant.{is_among}
use Rattle.luf_doc.specs.Document.{Document, Documents, text, between, trail, nest, group, sequence, nothing, also}
use Rattle.luf_doc.specs.Layout.{comma}
use Rattle.luf_again.specs.Tells.{Sight, Told, token, comment, and_token, and_gap}

-- how many tokens are told
abbrev pub tokens_told : List Sight → ℕ
tokens_told [] = 0
tokens_told (token bytes blank ∷ before) = suc (tokens_told before)
tokens_told (comment note ∷ before) = tokens_told before

module _ (dropped : List ℕ) where
  -- The document tells this from one place to another, as `Tells` says. `open`: a gap stands before the place, and behind it
  -- only dropped tokens. A token that is not dropped stands where it is open, a gap where it is not; a trail is dropped.
  abbrev mutual
    pub Chooses : Document → Told → Told → Bool → Bool → Type 0
    Chooses (text bytes) from to was is =
        (to ≡ and_token bytes from) × (((is_among (tokens_told from.sights) dropped ≡ true) × (is ≡ was)) ⊎ ((is_among (tokens_told from.sights) dropped ≡ false) × (was ≡ true) × (is ≡ false)))
    Chooses (between gap) from to was is = (to ≡ and_gap gap from) × (was ≡ false) × (is ≡ true)
    Chooses trail from to was is = (is ≡ was) × ((to ≡ from) ⊎ ((to ≡ and_token comma from) × (is_among (tokens_told from.sights) dropped ≡ true)))
    Chooses (nest inner) from to was is = Chooses inner from to was is
    Chooses (group inner) from to was is = Chooses inner from to was is
    Chooses (sequence items) from to was is = AllChoose items from to was is

    pub AllChoose : Documents → Told → Told → Bool → Bool → Type 0
    AllChoose nothing from to was is = (to ≡ from) × (is ≡ was)
    AllChoose (also first rest) from to was is = (mid : Told) × (between_them : Bool) × Chooses first from mid was between_them × AllChoose rest mid to between_them is

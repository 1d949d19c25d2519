-- Which words of a draft are added: each gap stands before one word of the program, behind any number of added ones.
use Rattle.std.specs.Prelude.{◌≡◌, ℕ, ◌⊎◌, Bool, true, false, List, ◌∷◌, codes}
use mathlib.Core.Logic.{inl, inr}
use Rattle.luf_bare.specs.ReadBack.{TextWord}
use Rattle.luf_draft.specs.Draft.{Draft, Drafts, word, opening, trail, nest, group, sequence, nothing, also}
use Rattle.luf_kept.specs.inner.Takes.{Takes, TakeAll}

-- `open`: a gap stands before the place, and behind it only added words. An added word leaves a place as it is; one of the
-- program stands where it is open.
abbrev pub Turns : Bool → Bool → Bool → Type 0
Turns added was is = ((added ≡ true) × (is ≡ was)) ⊎ ((added ≡ false) × (was ≡ true) × (is ≡ false))

-- a trail that was taken so: an added `,` or nothing
abbrev pub MarksTrail : (words rest : List (List ℕ)) → (words ≡ rest) ⊎ (words ≡ codes "," ∷ rest) → List TextWord → List TextWord → Type 0
MarksTrail words rest (inl same) text more = text ≡ more
MarksTrail words rest (inr same) text more = (w : TextWord) × (text ≡ w ∷ more) × (w.spelled.spelling ≡ codes ",") × (w.added ≡ true)

-- Where the words of a draft are taken so, a text has these words and then more: a gap stands where it is not open.
abbrev mutual
  pub Marks : (d : Draft) (words rest : List (List ℕ)) → Takes d words rest → List TextWord → List TextWord → Bool → Bool → Type 0
  Marks (word bytes) words rest takes text more was is = (w : TextWord) × (text ≡ w ∷ more) × (w.spelled.spelling ≡ bytes) × Turns w.added was is
  Marks (opening gap) words rest takes text more was is = (text ≡ more) × (was ≡ false) × (is ≡ true)
  Marks trail words rest takes text more was is = MarksTrail words rest takes text more × (is ≡ was)
  Marks (nest inner) words rest takes text more was is = Marks inner words rest takes text more was is
  Marks (group inner) words rest takes text more was is = Marks inner words rest takes text more was is
  Marks (sequence items) words rest takes text more was is = MarkAll items words rest takes text more was is

  pub MarkAll : (ds : Drafts) (words rest : List (List ℕ)) → TakeAll ds words rest → List TextWord → List TextWord → Bool → Bool → Type 0
  MarkAll nothing words rest takes text more was is = (text ≡ more) × (is ≡ was)
  MarkAll (also first items) words rest takes text more was is =
      (mid : List TextWord) × (between : Bool) × Marks first words takes.0 takes.1 text mid was between × MarkAll items takes.0 rest takes.2 mid more between is

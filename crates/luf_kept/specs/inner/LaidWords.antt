-- The words of a draft and of a layout.
use Rattle.std.specs.Prelude.{◌≡◌, ℕ, ◌==◌, false, List, [], ◌∷◌, codes}
use Rattle.luf_byte.specs.Front.{begins}
use Rattle.luf_guard.specs.Space.{IsTokenSpelling}
use Rattle.luf_doc.specs.Layout.{Piece}
use Rattle.luf_doc.specs.Layout as laid
use Rattle.luf_draft.specs.Draft.{Draft, Drafts, word, opening, trail, nest, group, sequence, nothing, also}

-- each word of a draft is the spelling of a token
abbrev mutual
  pub AreSpellings : Draft → Type 0
  AreSpellings (word bytes) = IsTokenSpelling bytes
  AreSpellings (opening gap) = Unit {0}
  AreSpellings trail = Unit {0}
  AreSpellings (nest inner) = AreSpellings inner
  AreSpellings (group inner) = AreSpellings inner
  AreSpellings (sequence items) = AllSpellings items

  pub AllSpellings : Drafts → Type 0
  AllSpellings nothing = Unit {0}
  AllSpellings (also first items) = AreSpellings first × AllSpellings items

-- the words of a layout, in order
abbrev pub words_of : List Piece → List (List ℕ)
words_of [] = []
words_of (laid.word bytes ∷ ps) = bytes ∷ words_of ps
words_of (_ ∷ ps) = words_of ps

-- no `[` is followed by what begins with `=`
abbrev pub BracketsApart : List (List ℕ) → Type 0
BracketsApart [] = Unit {0}
BracketsApart (a ∷ []) = Unit {0}
BracketsApart (a ∷ b ∷ words) = (a ≡ codes "[" → begins (λ c. c == 61) b ≡ false) × BracketsApart (b ∷ words)

-- the first word is no `#`
abbrev pub NoHashWord : List (List ℕ) → Type 0
NoHashWord [] = Unit {0}
NoHashWord (a ∷ words) = a ≡ codes "#" → ⊥

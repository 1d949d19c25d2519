-- That the document of a source has what its layout needs. Rules of our own.
use Rattle.std.specs.Prelude.{◌≡◌, ℕ, true, false, List, []}
use Rattle.luf_doc.specs.declared.doc.Chance.TheVariants.{Hard}
use Rattle.luf_doc.specs.Document.{Document}
use Rattle.luf_doc.specs.Layout.{has_bytes}
use Rattle.luf_draft.specs.Draft.{Draft, Drafts, word, opening, trail, nest, group, sequence, nothing, also}
use Rattle.luf_lex.specs.Cut.{IsCut}
use Rattle.luf_lex.specs.declared.token.Piece.{Piece}
use Rattle.luf_gaps.specs.Gaps.{is_short, gaps}
use Rattle.luf_style.specs.Filled.{IsFilled}
use Rattle.luf_kept.specs.inner.Steps.{Steps, begun, free}
use Rattle.luf_again.specs.Apart.{IsApart, IsClosed}
use Rattle.luf_again.specs.Formed.{IsFormed}
use Rattle.luf_twice.specs.Again.{IsTrimmed}

-- each word of a draft has bytes
abbrev mutual
  pub HasWords : Draft → Type 0
  HasWords (word bytes) = has_bytes bytes ≡ true
  HasWords (opening gap) = Unit {0}
  HasWords trail = Unit {0}
  HasWords (nest inner) = HasWords inner
  HasWords (group inner) = HasWords inner
  HasWords (sequence items) = AllHaveWords items

  pub AllHaveWords : Drafts → Type 0
  AllHaveWords nothing = Unit {0}
  AllHaveWords (also first rest) = HasWords first × AllHaveWords rest

-- its first part is a gap
abbrev pub IsOpening : Draft → Type 0
IsOpening (word bytes) = ⊥
IsOpening (opening gap) = Unit {0}
IsOpening trail = ⊥
IsOpening (nest inner) = ⊥
IsOpening (group inner) = ⊥
IsOpening (sequence items) = ⊥

abbrev pub FirstIsOpening : Drafts → Type 0
FirstIsOpening nothing = ⊥
FirstIsOpening (also first rest) = IsOpening first

abbrev pub OpensFirst : Draft → Type 0
OpensFirst (word bytes) = ⊥
OpensFirst (opening gap) = Unit {0}
OpensFirst trail = ⊥
OpensFirst (nest inner) = ⊥
OpensFirst (group inner) = ⊥
OpensFirst (sequence items) = FirstIsOpening items

-- its last part is a Hard gap
abbrev mutual
  pub EndsHard : Draft → Type 0
  EndsHard (word bytes) = ⊥
  EndsHard (opening gap) = gap.chance ≡ Hard
  EndsHard trail = ⊥
  EndsHard (nest inner) = EndsHard inner
  EndsHard (group inner) = EndsHard inner
  EndsHard (sequence items) = LastEndsHard items

  pub LastEndsHard : Drafts → Type 0
  LastEndsHard nothing = ⊥
  LastEndsHard (also first nothing) = EndsHard first
  LastEndsHard (also first (also second rest)) = LastEndsHard (also second rest)

-- what is needed of a document
pub record IsReady (d : Document) : Type 0 where
  pub formed : IsFormed is_short false false d
  pub apart : IsApart true d
  pub closed : IsClosed d
  pub trimmed : IsTrimmed d

abbrev pub DocumentIsReady : Type 0
DocumentIsReady = (source : List ℕ) (pieces : List Piece) (dropped : List ℕ) (draft : Draft) (d : Document) → IsCut source pieces → Steps draft begun free → OpensFirst draft → EndsHard draft → HasWords draft
    → IsFilled [] [] draft (gaps source pieces dropped) [] d → IsReady d

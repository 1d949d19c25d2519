-- What is needed of a document for its layout to show its flags. Rules of our own.
use Rattle.std.specs.Prelude.{◌≡◌, Bool, true, false, List, [], ◌∷◌, All}
use Rattle.std.specs.Bool.{⊤}
use Rattle.luf_doc.specs.declared.doc.Chance.TheVariants.{Hard}
use Rattle.luf_doc.specs.declared.doc.Remark.{Remark}
use Rattle.luf_doc.specs.Document.{Document, Documents, text, between, trail, nest, group, sequence, nothing, also}
use Rattle.luf_doc.specs.Layout.{has_bytes}

abbrev pub HasBytes : Remark → Type 0
HasBytes note = has_bytes note.text ≡ true

-- a text stands last in it, or did before it where it writes nothing
abbrev mutual
  pub settles : Bool → Document → Bool
  settles settled (text bytes) = true
  settles settled (between gap) = false
  settles settled trail = settled
  settles settled (nest inner) = settles settled inner
  settles settled (group inner) = settles settled inner
  settles settled (sequence items) = all_settle settled items

  pub all_settle : Bool → Documents → Bool
  all_settle settled nothing = settled
  all_settle settled (also first rest) = all_settle (settles settled first) rest

-- Each text and each note has bytes, and a text stands between any two gaps. `settled`: before it stands a text, or nothing.
abbrev mutual
  pub IsApart : Bool → Document → Type 0
  IsApart settled (text bytes) = has_bytes bytes ≡ true
  IsApart settled (between gap) = (settled ≡ true) × All HasBytes gap.notes
  IsApart settled trail = ⊤
  IsApart settled (nest inner) = IsApart settled inner
  IsApart settled (group inner) = IsApart settled inner
  IsApart settled (sequence items) = AreApart settled items

  pub AreApart : Bool → Documents → Type 0
  AreApart settled nothing = ⊤
  AreApart settled (also first rest) = IsApart settled first × AreApart (settles settled first) rest

-- the last of these notes ends its line, if there is one
abbrev pub ends_last : List Remark → Bool
ends_last [] = true
ends_last (note ∷ []) = note.ends_line
ends_last (note ∷ other ∷ notes) = ends_last (other ∷ notes)

-- Its last part is a Hard gap of which the last note ends its line: so no space stands last.
abbrev mutual
  pub IsClosed : Document → Type 0
  IsClosed (text bytes) = ⊥
  IsClosed (between gap) = (gap.chance ≡ Hard) × (ends_last gap.notes ≡ true)
  IsClosed trail = ⊥
  IsClosed (nest inner) = IsClosed inner
  IsClosed (group inner) = IsClosed inner
  IsClosed (sequence items) = AreClosed items

  pub AreClosed : Documents → Type 0
  AreClosed nothing = ⊥
  AreClosed (also first nothing) = IsClosed first
  AreClosed (also first (also second rest)) = AreClosed (also second rest)

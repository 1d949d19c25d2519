-- What is needed of a document for its layout to be kept. Rules of our own.
use Rattle.std.specs.Prelude.{◌≡◌, ℕ, Bool, true, false, ◌||◌, List, All}
use Rattle.std.specs.Bool.{⊤}
use Rattle.std.specs.List.{list_any}
use Rattle.luf_doc.specs.declared.doc.Remark.{Remark}
use Rattle.luf_doc.specs.Document.{Document, Documents, text, between, trail, nest, group, sequence, nothing, also}
use Rattle.luf_doc.specs.Layout.{has_bytes}

abbrev pub note_writes : Remark → Bool
note_writes note = has_bytes note.text

-- it surely writes something
abbrev mutual
  pub writes : Document → Bool
  writes (text bytes) = has_bytes bytes
  writes (between gap) = list_any note_writes gap.notes
  writes trail = false
  writes (nest inner) = writes inner
  writes (group inner) = writes inner
  writes (sequence items) = any_writes items

  pub any_writes : Documents → Bool
  any_writes nothing = false
  any_writes (also first rest) = writes first || any_writes rest

module _ (short : List ℕ → Bool) where
  abbrev pub ShortEnds : Remark → Type 0
  ShortEnds note = short note.text ≡ true → note.ends_line ≡ true

  -- Each short note ends its line, and before each gap of a group something is written. `grouped`: it stands in a group;
  -- `begun`: something is written before it.
  abbrev mutual
    pub IsFormed : Bool → Bool → Document → Type 0
    IsFormed grouped begun (text bytes) = ⊤
    IsFormed grouped begun (between gap) = (grouped ≡ true → begun ≡ true) × All ShortEnds gap.notes
    IsFormed grouped begun trail = ⊤
    IsFormed grouped begun (nest inner) = IsFormed grouped begun inner
    IsFormed grouped begun (group inner) = IsFormed true begun inner
    IsFormed grouped begun (sequence items) = AreFormed grouped begun items

    pub AreFormed : Bool → Bool → Documents → Type 0
    AreFormed grouped begun nothing = ⊤
    AreFormed grouped begun (also first rest) = IsFormed grouped begun first × AreFormed grouped (writes first || begun) rest

-- What a document tells of the comments and the empty lines of a text, token by token. Rules of our own.
use Rattle.std.specs.Prelude.{◌≡◌, ℕ, Bool, false, List, [], ◌∷◌, ◌++◌, ◌⊎◌}
use Rattle.luf_doc.specs.declared.doc.Gap.{Gap}
use Rattle.luf_doc.specs.declared.doc.Remark.{Remark}
use Rattle.luf_doc.specs.Document.{Document, Documents, text, between, trail, nest, group, sequence, nothing, also}
use Rattle.luf_doc.specs.Layout.{comma}

-- a token, and whether an empty line stands directly before it; or a comment
pub data Sight : Type 0 where
  token : (bytes : List ℕ) (blank : Bool) → Sight
  comment : (note : Remark) → Sight

-- what stands before a place, the last first, and whether an empty line stands directly before the place
pub record Told : Type 0 where
  pub sights : List Sight
  pub blank : Bool

abbrev pub untold : Told
untold = record { sights = []; blank = false }

abbrev pub and_token : List ℕ → Told → Told
and_token bytes before = record { sights = token bytes before.blank ∷ before.sights; blank = false }

abbrev pub and_notes : List Remark → List Sight → List Sight
and_notes [] before = before
and_notes (note ∷ notes) before = and_notes notes (comment note ∷ before)

abbrev pub and_gap : Gap → Told → Told
and_gap gap before = record { sights = and_notes gap.notes before.sights; blank = gap.blank }

-- With a document between them, from what stands before it to what stands before its end. A trail may be a `,`.
abbrev mutual
  pub Tells : Document → Told → Told → Type 0
  Tells (text bytes) from to = to ≡ and_token bytes from
  Tells (between gap) from to = to ≡ and_gap gap from
  Tells trail from to = (to ≡ from) ⊎ (to ≡ and_token comma from)
  Tells (nest inner) from to = Tells inner from to
  Tells (group inner) from to = Tells inner from to
  Tells (sequence items) from to = AllTell items from to

  pub AllTell : Documents → Told → Told → Type 0
  AllTell nothing from to = to ≡ from
  AllTell (also first rest) from to = (mid : Told) × Tells first from mid × AllTell rest mid to

-- ---- the comments alone

-- those of a document, in order, and then others
abbrev mutual
  pub notes_of : Document → List Remark → List Remark
  notes_of (text bytes) more = more
  notes_of (between gap) more = gap.notes ++ more
  notes_of trail more = more
  notes_of (nest inner) more = notes_of inner more
  notes_of (group inner) more = notes_of inner more
  notes_of (sequence items) more = all_notes items more

  pub all_notes : Documents → List Remark → List Remark
  all_notes nothing more = more
  all_notes (also first rest) more = notes_of first (all_notes rest more)

-- those that are told, where the last stands first, in order, and then others
abbrev pub notes_told : List Sight → List Remark → List Remark
notes_told [] more = more
notes_told (token bytes blank ∷ before) more = notes_told before more
notes_told (comment note ∷ before) more = notes_told before (note ∷ more)

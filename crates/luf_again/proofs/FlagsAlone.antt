-- Only flags change when a document is read again, and its notes in order are those that are told.
use Rattle.std.proofs.Common.{◌≡◌, ℕ, ◌+◌, Bool, true, false, ◌||◌, List, [], ◌∷◌, ◌++◌, map, refl, ap, ◌∙◌, ⊎_elim}
use Rattle.luf_doc.specs.declared.doc.Remark.{Remark}
use Rattle.luf_doc.specs.declared.page.Page.{Page}
use Rattle.luf_doc.specs.Document.{Document, Documents, text, between, trail, nest, group, sequence, nothing, also}
use Rattle.luf_doc.specs.Flat.{forces, flat, all_lead}
use Rattle.luf_doc.specs.Layout.{Piece, Mode, outside, is_begun, has_bytes, column_of, must_break, mode_of, lay, pieces}
use Rattle.luf_again.specs.Reread.{reread_notes, reread, reread_all, reread_whole}
use Rattle.luf_again.specs.Unflagged.{bare_note, unflagged, all_unflagged}
use Rattle.luf_again.specs.Apart.{IsApart, IsClosed}
use Rattle.luf_again.specs.Tells.{Sight, comment, Told, untold, and_notes, Tells, AllTell, notes_of, all_notes, notes_told}
use Rattle.luf_again.specs.Shown.{shown}
use Rattle.luf_again.proofs.DocumentShown.{text_tells}

module _ (short : List ℕ → Bool) where
  notes_bare : (m g h e : Bool) (notes : List Remark) → map bare_note (reread_notes short m g h e notes) ≡ map bare_note notes
  notes_bare m g h e [] = refl
  notes_bare m g h e (r ∷ notes) = ap (λ (l : List Remark). bare_note r ∷ l) (notes_bare m (has_bytes r.text || g) (h || (r.own_line || e)) r.ends_line notes)

  module _ (page : Page) where
    mutual
      bare_same : (mode : Mode) (level after : ℕ) (d : Document) (done : List Piece) → unflagged (reread short page mode level after d done) ≡ unflagged d
      bare_same mode level after (text bytes) done = refl
      bare_same mode level after (between gap) done =
          ap (λ (l : List Remark). between (record { chance = gap.chance; notes = l; blank = false; deeper = gap.deeper })) (notes_bare (must_break gap.chance mode) (is_begun done) false false gap.notes)
      bare_same mode level after trail done = refl
      bare_same mode level after (nest inner) done = ap nest (bare_same mode (level + 1) after inner done)
      bare_same mode level after (group inner) done =
          ap group (bare_same (mode_of page mode (forces inner) (column_of page done + flat inner after)) level after inner done)
      bare_same mode level after (sequence items) done = ap sequence (all_bare_same mode level after items done)

      all_bare_same : (mode : Mode) (level after : ℕ) (ds : Documents) (done : List Piece) → all_unflagged (reread_all short page mode level after ds done) ≡ all_unflagged ds
      all_bare_same mode level after nothing done = refl
      all_bare_same mode level after (also first rest) done =
          λ i. also (bare_same mode level (all_lead rest after) first done i) (all_bare_same mode level after rest (lay page mode level (all_lead rest after) first done) i)

pub flags_alone : (short : List ℕ → Bool) (page : Page) (d : Document) → unflagged (reread_whole short page d) ≡ unflagged d
flags_alone short page d = bare_same short page outside 0 0 d []

-- ---- the notes in order

gap_notes : (notes : List Remark) (before : List Sight) (more : List Remark) → notes_told (and_notes notes before) more ≡ notes_told before (notes ++ more)
gap_notes [] before more = refl
gap_notes (r ∷ notes) before more = gap_notes notes (comment r ∷ before) more

mutual
  notes_alone : (d : Document) (from to : Told) (more : List Remark) → Tells d from to → notes_told to.sights more ≡ notes_told from.sights (notes_of d more)
  notes_alone (text bytes) from to more is = ap (λ (t : Told). notes_told t.sights more) is
  notes_alone (between gap) from to more is = ap (λ (t : Told). notes_told t.sights more) is ∙ gap_notes gap.notes from.sights more
  notes_alone trail from to more is = ⊎_elim (λ same. ap (λ (t : Told). notes_told t.sights more) same) (λ told. ap (λ (t : Told). notes_told t.sights more) told) is
  notes_alone (nest inner) from to more is = notes_alone inner from to more is
  notes_alone (group inner) from to more is = notes_alone inner from to more is
  notes_alone (sequence items) from to more is = all_alone items from to more is

  all_alone : (ds : Documents) (from to : Told) (more : List Remark) → AllTell ds from to → notes_told to.sights more ≡ notes_told from.sights (all_notes ds more)
  all_alone nothing from to more is = ap (λ (t : Told). notes_told t.sights more) is
  all_alone (also first rest) from to more is = all_alone rest is.0 to more is.2 ∙ notes_alone first from is.0 (all_notes rest more) is.1

pub notes_again : (short : List ℕ → Bool) (page : Page) (d : Document) → IsApart true d → IsClosed d
    → notes_told (shown short (pieces page d)).sights [] ≡ notes_of (reread_whole short page d) []
notes_again short page d apart ends = notes_alone (reread_whole short page d) untold (shown short (pieces page d)) [] (text_tells short page d apart ends)

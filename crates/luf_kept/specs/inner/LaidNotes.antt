-- The notes of gaps and of a layout.
use Rattle.std.specs.Prelude.{ℕ, List, [], ◌∷◌, ◌++◌, map}
use Rattle.luf_doc.specs.declared.doc.Remark.{Remark}
use Rattle.luf_doc.specs.Layout.{Piece}
use Rattle.luf_doc.specs.Layout as laid
use Rattle.luf_gaps.specs.declared.notes.GapNotes.{GapNotes}

-- the notes of a layout, in order
abbrev pub notes_of : List Piece → List (List ℕ)
notes_of [] = []
notes_of (laid.note bytes ∷ ps) = bytes ∷ notes_of ps
notes_of (_ ∷ ps) = notes_of ps

abbrev pub texts_of : List Remark → List (List ℕ)
texts_of notes = map (λ note. note.text) notes

-- the notes of gaps, gap after gap
abbrev pub gap_texts : List GapNotes → List (List ℕ)
gap_texts [] = []
gap_texts (gap ∷ gaps) = texts_of gap.notes ++ gap_texts gaps

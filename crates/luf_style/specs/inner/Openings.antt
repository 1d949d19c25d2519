-- The gaps of a draft that is written flat, from its start to its end.
use Rattle.std.specs.Prelude.{ℕ, List, [], ◌∷◌, ◌++◌}
use Rattle.luf_doc.specs.declared.doc.Gap.{Gap}
use Rattle.luf_draft.specs.Flat.{Flat, shown}
use Rattle.luf_draft.specs.declared.mark.Mark.{Mark}
use Rattle.luf_gaps.specs.declared.notes.GapNotes.{GapNotes}
use Rattle.luf_style.specs.inner.Running.{text_of}
use Rattle.luf_style.specs.inner.Tape.{AreGaps}
use Rattle.luf_style.specs.declared.openings.Openings.{Openings}

-- What goes on from here goes on from there: if these are the gaps of what is left, then those so far and these are the
-- gaps of all.
pub record GoesOn (written : List (List ℕ)) (all : List Flat) (notes : List GapNotes) (rest : List Flat) (o : Openings) : Type 0 where
  pub goes : (more : List Gap) → AreGaps (text_of (shown written o.last)) rest o.left more → AreGaps [] all notes (o.gaps ++ more)

-- one mark takes the one to the other
pub record AddsGaps (written : List (List ℕ)) (mark : Mark) (rest : List Flat) (before behind : Openings) : Type 0 where
  pub goes : (all : List Flat) (notes : List GapNotes) → GoesOn written all notes (shown written mark ∷ rest) before → GoesOn written all notes rest behind

-- The comments of a cut, with their places.
use Rattle.std.specs.Prelude.{◌≡◌, ℕ, zero, suc, ◌+◌, ◌&&◌, nat_le, nat_lt, List, [], ◌∷◌, ◌++◌, if◌then◌else◌, slice_index_or}
use Rattle.luf_lex.specs.Note.{is_comment, note_of}
use Rattle.luf_lex.specs.inner.Growing.{comment_places}
use Rattle.luf_lex.specs.declared.note.Note.{Note}
use Rattle.luf_lex.specs.declared.token.Piece.{Piece}

-- the comments among the later pieces, in order, where the earlier pieces stand before them all
abbrev pub notes_from : List Piece → List Piece → List Note
notes_from before [] = []
notes_from before (p ∷ after) = if is_comment p.kind then note_of before p after ∷ notes_from (before ++ p ∷ []) after else notes_from (before ++ p ∷ []) after

-- the comments of these pieces, and where they stand among them
pub record IsLeadIndex (notes : List Note) (places : List ℕ) (pieces : List Piece) : Type 0 where
  pub places_at : places ≡ comment_places 0 pieces
  pub notes_at : notes ≡ notes_from [] pieces

-- the notes whose places are not before the one and before the other
abbrev pub notes_between : List Note → List ℕ → ℕ → ℕ → List Note
notes_between [] places from to = []
notes_between (x ∷ notes) [] from to = []
notes_between (x ∷ notes) (i ∷ places) from to = (if nat_le from i && nat_lt i to then x ∷ [] else []) ++ notes_between notes places from to

-- the place behind token n - 1, or the first, by the places of the tokens; those from their number on stand at an end
abbrev pub gap_start : List ℕ → ℕ → ℕ → ℕ
gap_start tokens end zero = 0
gap_start tokens end (suc n) = slice_index_or tokens n end + 1

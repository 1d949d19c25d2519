-- What the pieces of a layout show of comments and empty lines, as a cut of the text tells it: blanks are passed over, and
-- the end counts as a line end. Rules of our own.
use Rattle.std.specs.Prelude.{ℕ, ◌+◌, Bool, true, false, ◌||◌, List, [], ◌∷◌, nat_le, reverse}
use Rattle.luf_doc.specs.Layout.{Piece, word, note, space, line_end, empty_line, indentation}
use Rattle.luf_again.specs.Tells.{Sight, Told, token, comment}

-- ---- Below, `done` are the pieces before a place, the last piece first.

-- No token and no comment stands or ends earlier on the line.
abbrev pub is_line_start : List Piece → Bool
is_line_start [] = true
is_line_start (word bytes ∷ done) = false
is_line_start (note bytes ∷ done) = false
is_line_start (space ∷ done) = is_line_start done
is_line_start (line_end ∷ done) = true
is_line_start (empty_line ∷ done) = true
is_line_start (indentation level ∷ done) = is_line_start done

-- the line ends behind the last token and the last comment
abbrev pub line_ends : List Piece → ℕ
line_ends [] = 0
line_ends (word bytes ∷ done) = 0
line_ends (note bytes ∷ done) = 0
line_ends (space ∷ done) = line_ends done
line_ends (line_end ∷ done) = 1 + line_ends done
line_ends (empty_line ∷ done) = 1 + line_ends done
line_ends (indentation level ∷ done) = line_ends done

-- An empty line stands directly before the place: the first line end ends the line of what stands before.
abbrev pub has_blank : List Piece → Bool
has_blank done = nat_le 2 (line_ends done)

-- `short`: the comments that end with their line.
module _ (short : List ℕ → Bool) where
  -- The tokens and comments, the last first. `ended`: only blanks stand between the place and a line end or the end.
  abbrev pub shown_before : Bool → List Piece → List Sight
  shown_before ended [] = []
  shown_before ended (word bytes ∷ done) = token bytes (has_blank done) ∷ shown_before false done
  shown_before ended (note bytes ∷ done) =
      comment (record { text = bytes; own_line = is_line_start done; ends_line = short bytes || ended; blank = has_blank done }) ∷ shown_before false done
  shown_before ended (space ∷ done) = shown_before ended done
  shown_before ended (line_end ∷ done) = shown_before true done
  shown_before ended (empty_line ∷ done) = shown_before true done
  shown_before ended (indentation level ∷ done) = shown_before ended done

  -- all that pieces in order show
  abbrev pub shown : List Piece → Told
  shown pieces = record { sights = shown_before true (reverse pieces); blank = has_blank (reverse pieces) }

-- Which pieces of a layout stand side by side. Rules of our own.
use Rattle.std.specs.Prelude.{◌≡◌, ℕ, Bool, true, false, List, [], ◌∷◌}
use Rattle.std.specs.Bool.{⊤}
use Rattle.luf_doc.specs.Layout.{Piece, word, note, space, line_end, empty_line, indentation, has_bytes}

-- It may stand first.
pub data Begins : Piece → Type 0 where
  word_first : (bytes : List ℕ) → Begins (word bytes)
  note_first : (bytes : List ℕ) → Begins (note bytes)

-- a word or a note with bytes, or another piece
abbrev pub IsWritten : Piece → Type 0
IsWritten (word bytes) = has_bytes bytes ≡ true
IsWritten (note bytes) = has_bytes bytes ≡ true
IsWritten space = ⊤
IsWritten line_end = ⊤
IsWritten empty_line = ⊤
IsWritten (indentation level) = ⊤

-- `short`: the notes that end with their line.
module _ (short : List ℕ → Bool) where
  -- A note stands behind a blank and before one, a short one before a line end. The blank between two words may be none.
  pub data Beside : Piece → Piece → Type 0 where
    two_words : (bytes other : List ℕ) → Beside (word bytes) (word other)
    word_space : (bytes : List ℕ) → Beside (word bytes) space
    note_space : (bytes : List ℕ) → short bytes ≡ false → Beside (note bytes) space
    word_line_end : (bytes : List ℕ) → Beside (word bytes) line_end
    note_line_end : (bytes : List ℕ) → Beside (note bytes) line_end
    empty_line_next : Beside line_end empty_line
    line_indented : (level : ℕ) → Beside line_end (indentation level)
    empty_line_indented : (level : ℕ) → Beside empty_line (indentation level)
    space_word : (bytes : List ℕ) → Beside space (word bytes)
    space_note : (bytes : List ℕ) → Beside space (note bytes)
    indented_word : (level : ℕ) (bytes : List ℕ) → Beside (indentation level) (word bytes)
    indented_note : (level : ℕ) (bytes : List ℕ) → Beside (indentation level) (note bytes)

  -- the piece, behind those before it, of which the last stands first
  pub data Fits : Piece → List Piece → Type 0 where
    alone : (p : Piece) → Begins p → Fits p []
    behind : (p q : Piece) (done : List Piece) → Beside p q → Fits q (p ∷ done)

  -- Pieces of which the last stands first: each stands beside the next, and each word and each note has bytes.
  pub data AllBeside : List Piece → Type 0 where
    none : AllBeside []
    more : (p : Piece) (done : List Piece) → Fits p done → IsWritten p → AllBeside done → AllBeside (p ∷ done)

-- The pieces of a layout as a cut of the text has them, and what it says there of comments and empty lines. Rules of our own.
use Rattle.std.specs.Prelude.{◌≡◌, ℕ, zero, suc, Bool, true, ◌||◌, List, [], ◌∷◌, map, reverse, slice_range}
use Rattle.luf_doc.specs.declared.doc.Remark.{Remark}
use Rattle.luf_doc.specs.Layout.{Piece, word, note, space, line_end, empty_line, indentation}
use Rattle.luf_lex.specs.declared.note.Note.{Note}
use Rattle.luf_lex.specs.declared.token.Piece as lexed
use Rattle.luf_lex.specs.declared.token.Kind.TheVariants.{Comment, Blank, LineEnd, HashLine}
use Rattle.luf_lex.specs.Note.{lead_of, blank_of}
use Rattle.luf_lex.specs.Tokens.{is_token}
use Rattle.luf_again.specs.Tells.{Sight, Told, token, comment}

-- The pieces of a layout and those of a cut, one for each: a token for a word, a comment with its bytes for a note. An
-- indentation is one blank, or none. `rest`: what stands behind them.
pub data Lexed (source : List ℕ) (rest : List lexed.Piece) : List Piece → List lexed.Piece → Type 0 where
  none : Lexed source rest [] rest
  a_word : (bytes : List ℕ) (p : lexed.Piece) (ps : List Piece) (pieces : List lexed.Piece) → is_token p.kind ≡ true → Lexed source rest ps pieces → Lexed source rest (word bytes ∷ ps) (p ∷ pieces)
  a_note : (bytes : List ℕ) (p : lexed.Piece) (ps : List Piece) (pieces : List lexed.Piece) → p.kind ≡ Comment → slice_range source p.span.from p.span.to ≡ bytes → Lexed source rest ps pieces
      → Lexed source rest (note bytes ∷ ps) (p ∷ pieces)
  a_space : (p : lexed.Piece) (ps : List Piece) (pieces : List lexed.Piece) → p.kind ≡ Blank → Lexed source rest ps pieces → Lexed source rest (space ∷ ps) (p ∷ pieces)
  a_line_end : (p : lexed.Piece) (ps : List Piece) (pieces : List lexed.Piece) → p.kind ≡ LineEnd → Lexed source rest ps pieces → Lexed source rest (line_end ∷ ps) (p ∷ pieces)
  an_empty_line : (p : lexed.Piece) (ps : List Piece) (pieces : List lexed.Piece) → p.kind ≡ LineEnd → Lexed source rest ps pieces → Lexed source rest (empty_line ∷ ps) (p ∷ pieces)
  indented : (level : ℕ) (p : lexed.Piece) (ps : List Piece) (pieces : List lexed.Piece) → p.kind ≡ Blank → Lexed source rest ps pieces → Lexed source rest (indentation level ∷ ps) (p ∷ pieces)
  not_indented : (level : ℕ) (ps : List Piece) (pieces : List lexed.Piece) → Lexed source rest ps pieces → Lexed source rest (indentation level ∷ ps) pieces

-- what may stand before them: nothing, or a `#` line and its end
pub data IsHead : List lexed.Piece → Type 0 where
  no_head : IsHead []
  hash_line : (p q : lexed.Piece) → p.kind ≡ HashLine → q.kind ≡ LineEnd → IsHead (p ∷ q ∷ [])

-- a comment of the text as a note
abbrev pub read_note : (List ℕ → Bool) → List ℕ → Note → Remark
read_note short source n = record {
  text = slice_range source n.span.from n.span.to;
  own_line = n.own_line;
  ends_line = short (slice_range source n.span.from n.span.to) || n.line_after;
  blank = n.blank_before;
}

-- ---- of what is told, in order

-- the notes between token n - 1 and token n, or the end
abbrev pub notes_before : ℕ → List Sight → List Remark
notes_before n [] = []
notes_before zero (token bytes blank ∷ sights) = []
notes_before (suc n) (token bytes blank ∷ sights) = notes_before n sights
notes_before zero (comment remark ∷ sights) = remark ∷ notes_before zero sights
notes_before (suc n) (comment remark ∷ sights) = notes_before (suc n) sights

-- whether an empty line stands directly before token n, or before the end, where this is `last`
abbrev pub blank_before : ℕ → List Sight → Bool → Bool
blank_before n [] last = last
blank_before zero (token bytes blank ∷ sights) last = blank
blank_before (suc n) (token bytes blank ∷ sights) last = blank_before n sights last
blank_before n (comment remark ∷ sights) last = blank_before n sights last

-- What a cut says before token n, or before the end, is what is told there.
pub record ReadsAt (short : List ℕ → Bool) (source : List ℕ) (pieces : List lexed.Piece) (n : ℕ) (told : Told) : Type 0 where
  pub notes : map (read_note short source) (lead_of pieces n) ≡ notes_before n (reverse told.sights)
  pub blank : blank_of pieces n ≡ blank_before n (reverse told.sights) told.blank

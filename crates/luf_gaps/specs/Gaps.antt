-- The comments of a source in the gaps of its program: those between two significant tokens, also round the tokens that its
-- document drops, with the empty lines there. Rules of our own.
use Rattle.std.specs.Prelude.{ℕ, zero, suc, ◌+◌, ◌-◌, Bool, true, false, not, ◌||◌, cond, List, [], ◌∷◌, ◌++◌, length, drop, take, slice_range}
use Rattle.std.specs.List.{suffix_len}
use Rattle.luf_byte.specs.Class.{is_blank}
use Rattle.luf_str.specs.LongEnd.{opens_long}
use Rattle.luf_lex.specs.Note.{lead_of, blank_of}
use Rattle.luf_lex.specs.Tokens.{toks_of}
use Rattle.luf_lex.specs.declared.note.Note.{Note}
use Rattle.luf_lex.specs.declared.token.Piece.{Piece}
use Rattle.luf_bare.specs.Significant.{is_among}
use Rattle.luf_doc.specs.declared.doc.Remark.{Remark}
use Rattle.luf_gaps.specs.declared.notes.GapNotes.{GapNotes}

-- a text without the blanks at its end
abbrev pub trimmed : List ℕ → List ℕ
trimmed bytes = take (length bytes - suffix_len is_blank bytes) bytes

-- the bytes of a comment
abbrev pub comment_bytes : List ℕ → Note → List ℕ
comment_bytes source note = slice_range source note.span.from note.span.to

-- a comment that ends with its line: no long bracket stands behind its two dashes
abbrev pub is_short : List ℕ → Bool
is_short bytes = not (opens_long (drop 2 bytes))

-- A comment as a note. `blank`: an empty line stood behind what was kept before, in front of a dropped token.
abbrev pub remark : List ℕ → Bool → Note → Remark
remark source blank note = record {
  text = trimmed (comment_bytes source note);
  own_line = note.own_line;
  ends_line = is_short (comment_bytes source note) || note.line_after;
  blank = blank || note.blank_before;
}

-- the comments before one token, where an empty line stood before or not
abbrev pub remarks : List ℕ → Bool → List Note → List Remark
remarks source blank [] = []
remarks source blank (note ∷ notes) = remark source blank note ∷ remarks source false notes

-- whether an empty line is still to be told of behind these
abbrev pub untold : Bool → List Note → Bool
untold blank [] = blank
untold blank (note ∷ notes) = false

-- with the comments before token n
abbrev pub and_before : List ℕ → List Piece → ℕ → GapNotes → GapNotes
and_before source pieces n gap = record {
  notes = gap.notes ++ remarks source gap.blank (lead_of pieces n);
  blank = untold gap.blank (lead_of pieces n) || blank_of pieces n;
}

abbrev pub empty_gap : GapNotes
empty_gap = record { notes = []; blank = false }

-- the first of these; an empty one where there is none
abbrev pub next_gap : List GapNotes → GapNotes
next_gap [] = empty_gap
next_gap (gap ∷ gaps) = gap

-- the last comment of a source ends its line, where no significant token follows
abbrev pub last_ends : List Remark → List Remark
last_ends [] = []
last_ends (note ∷ []) = record note { ends_line = true } ∷ []
last_ends (note ∷ other ∷ notes) = note ∷ last_ends (other ∷ notes)

module _ (source : List ℕ) (pieces : List Piece) (dropped : List ℕ) where
  -- the gaps before the significant tokens of so many tokens from token n on, and the one at the end, where this stands in
  -- the first of them already
  abbrev pub gaps_from : ℕ → ℕ → GapNotes → List GapNotes
  gaps_from n zero gap = record { notes = last_ends (and_before source pieces n gap).notes; blank = (and_before source pieces n gap).blank } ∷ []
  gaps_from n (suc left) gap = cond (is_among n dropped)
      (gaps_from (n + 1) left (and_before source pieces n gap))
      (and_before source pieces n gap ∷ gaps_from (n + 1) left empty_gap)

  -- the gaps of a program: before each significant token, and at the end
  abbrev pub gaps : List GapNotes
  gaps = gaps_from 0 (length (toks_of pieces)) empty_gap

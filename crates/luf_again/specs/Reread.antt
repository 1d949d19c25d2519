-- A document with the flags that its own layout shows: what a reader of the text makes of the document. Rules of our own.
use Rattle.std.specs.Prelude.{ℕ, ◌+◌, Bool, false, not, ◌&&◌, ◌||◌, List, [], ◌∷◌}
use Rattle.luf_doc.specs.declared.doc.Gap.{Gap}
use Rattle.luf_doc.specs.declared.doc.Remark.{Remark}
use Rattle.luf_doc.specs.declared.page.Page.{Page}
use Rattle.luf_doc.specs.Document.{Document, Documents, text, between, trail, nest, group, sequence, nothing, also}
use Rattle.luf_doc.specs.Flat.{forces, flat, all_lead}
use Rattle.luf_doc.specs.Layout.{Piece, Mode, outside, has_bytes, is_begun, column_of, must_break, next_break, mode_of, lay}

-- ---- a gap: `must`, `had` and `ends` are those of `next_break`; `begun`: something was written before

-- a break stands behind the last of these notes
abbrev pub last_break : Bool → Bool → Bool → List Remark → Bool
last_break must had ends [] = next_break must had ends []
last_break must had ends (next ∷ notes) = last_break must (had || next_break must had ends (next ∷ notes)) next.ends_line notes

-- something is written before what follows these notes
abbrev pub begun_after : Bool → List Remark → Bool
begun_after begun [] = begun
begun_after begun (next ∷ notes) = begun_after (has_bytes next.text || begun) notes

-- `short`: the notes that end with their line.
module _ (short : List ℕ → Bool) where
  -- own_line: a break stands before the note, or nothing was written before it. ends_line: it is short, or a break stands
  -- behind it. blank: an empty line was written before it.
  abbrev pub reread_notes : Bool → Bool → Bool → Bool → List Remark → List Remark
  reread_notes must begun had ends [] = []
  reread_notes must begun had ends (next ∷ notes) =
      record {
        text = next.text;
        own_line = next_break must had ends (next ∷ notes) || not begun;
        ends_line = short next.text || next_break must (had || next_break must had ends (next ∷ notes)) next.ends_line notes;
        blank = begun && (next_break must had ends (next ∷ notes) && next.blank);
      } ∷ reread_notes must (has_bytes next.text || begun) (had || next_break must had ends (next ∷ notes)) next.ends_line notes

  -- blank: an empty line was written at the end of the gap
  abbrev pub reread_gap : Gap → Bool → Bool → Gap
  reread_gap gap must begun = record {
    chance = gap.chance;
    notes = reread_notes must begun false false gap.notes;
    blank = begun_after begun gap.notes && (last_break must false false gap.notes && gap.blank);
    deeper = gap.deeper;
  }

  -- ---- a document, beside its layout

  module _ (page : Page) where
    abbrev mutual
      pub reread : Mode → ℕ → ℕ → Document → List Piece → Document
      reread mode level after (text bytes) done = text bytes
      reread mode level after (between gap) done = between (reread_gap gap (must_break gap.chance mode) (is_begun done))
      reread mode level after trail done = trail
      reread mode level after (nest inner) done = nest (reread mode (level + 1) after inner done)
      reread mode level after (group inner) done =
          group (reread (mode_of page mode (forces inner) (column_of page done + flat inner after)) level after inner done)
      reread mode level after (sequence items) done = sequence (reread_all mode level after items done)

      pub reread_all : Mode → ℕ → ℕ → Documents → List Piece → Documents
      reread_all mode level after nothing done = nothing
      reread_all mode level after (also first rest) done =
          also (reread mode level (all_lead rest after) first done) (reread_all mode level after rest (lay page mode level (all_lead rest after) first done))

    -- of a whole document
    abbrev pub reread_whole : Document → Document
    reread_whole d = reread outside 0 0 d []

-- A document written flat, and a draft written flat with its gaps filled. What only private functions cite.
use Rattle.std.specs.Prelude.{ℕ, ◌+◌, List, [], ◌∷◌, drop}
use Rattle.luf_doc.specs.declared.doc.Gap.{Gap}
use Rattle.luf_doc.specs.Document.{Document, Documents}
use Rattle.luf_doc.specs.Document as document
use Rattle.luf_draft.specs.Draft.{Opening}
use Rattle.luf_draft.specs.Flat.{Flat, flat_word, flat_gap, flat_trail, flat_open, flat_close}
use Rattle.luf_draft.specs.declared.mark.Part.{Part}
use Rattle.luf_draft.specs.declared.mark.Part.TheVariants.{Nest, Group, Sequence}
use Rattle.luf_gaps.specs.Gaps.{next_gap}
use Rattle.luf_gaps.specs.declared.notes.GapNotes.{GapNotes}
use Rattle.luf_style.specs.Filled.{IsGap}
use Rattle.luf_style.specs.inner.Running.{first_flat}

pub data Tape : Type 0 where
  tape_word : (bytes : List ℕ) → Tape
  tape_gap : (gap : Gap) → Tape
  tape_trail : Tape
  tape_open : (part : Part) → Tape
  tape_close : Tape

-- a document, and what follows it
abbrev mutual
  pub tape : Document → List Tape → List Tape
  tape (document.text bytes) rest = tape_word bytes ∷ rest
  tape (document.between gap) rest = tape_gap gap ∷ rest
  tape document.trail rest = tape_trail ∷ rest
  tape (document.nest inner) rest = tape_open Nest ∷ tape inner (tape_close ∷ rest)
  tape (document.group inner) rest = tape_open Group ∷ tape inner (tape_close ∷ rest)
  tape (document.sequence items) rest = tape_open Sequence ∷ all_tape items (tape_close ∷ rest)

  pub all_tape : Documents → List Tape → List Tape
  all_tape document.nothing rest = rest
  all_tape (document.also first more) rest = tape first (all_tape more rest)

-- a flat draft with these in the place of its gaps; a gap for which none is left is passed over
abbrev pub with_gaps : List Flat → List Gap → List Tape
with_gaps [] gaps = []
with_gaps (flat_word bytes ∷ rest) gaps = tape_word bytes ∷ with_gaps rest gaps
with_gaps (flat_gap opening ∷ rest) [] = with_gaps rest []
with_gaps (flat_gap opening ∷ rest) (gap ∷ gaps) = tape_gap gap ∷ with_gaps rest gaps
with_gaps (flat_trail ∷ rest) gaps = tape_trail ∷ with_gaps rest gaps
with_gaps (flat_open part ∷ rest) gaps = tape_open part ∷ with_gaps rest gaps
with_gaps (flat_close ∷ rest) gaps = tape_close ∷ with_gaps rest gaps

-- how many gaps it has
abbrev pub gap_count : List Flat → ℕ
gap_count [] = 0
gap_count (flat_word bytes ∷ rest) = gap_count rest
gap_count (flat_gap opening ∷ rest) = 1 + gap_count rest
gap_count (flat_trail ∷ rest) = gap_count rest
gap_count (flat_open part ∷ rest) = gap_count rest
gap_count (flat_close ∷ rest) = gap_count rest

-- The gaps of a flat draft with this text before it, filled with these notes, are these.
pub data AreGaps : List ℕ → List Flat → List GapNotes → List Gap → Type 0 where
  ended : {last : List ℕ} {notes : List GapNotes} → AreGaps last [] notes []
  word : {bytes last : List ℕ} {rest : List Flat} {notes : List GapNotes} {gaps : List Gap} → AreGaps bytes rest notes gaps → AreGaps last (flat_word bytes ∷ rest) notes gaps
  gap : {opening : Opening} {gap : Gap} {last : List ℕ} {rest : List Flat} {notes : List GapNotes} {gaps : List Gap}
      → IsGap last (first_flat rest) opening (next_gap notes) gap → AreGaps last rest (drop 1 notes) gaps → AreGaps last (flat_gap opening ∷ rest) notes (gap ∷ gaps)
  trail : {last : List ℕ} {rest : List Flat} {notes : List GapNotes} {gaps : List Gap} → AreGaps last rest notes gaps → AreGaps last (flat_trail ∷ rest) notes gaps
  open_part : {part : Part} {last : List ℕ} {rest : List Flat} {notes : List GapNotes} {gaps : List Gap} → AreGaps last rest notes gaps → AreGaps last (flat_open part ∷ rest) notes gaps
  close_part : {last : List ℕ} {rest : List Flat} {notes : List GapNotes} {gaps : List Gap} → AreGaps last rest notes gaps → AreGaps last (flat_close ∷ rest) notes gaps

-- A draft that is written flat, filled from its start to its end, with a stack of the parts that are open.
use Rattle.std.specs.Prelude.{ℕ, Bool, true, false, List, [], ◌∷◌, ◌++◌, drop, map, reverse}
use Rattle.luf_doc.specs.declared.doc.Gap.{Gap}
use Rattle.luf_doc.specs.Document.{Document, documents, document_of}
use Rattle.luf_doc.specs.Document as document
use Rattle.luf_draft.specs.Draft.{Opening}
use Rattle.luf_draft.specs.Flat.{Flat, flat_word, flat_gap, flat_trail, flat_open, flat_close, shown}
use Rattle.luf_draft.specs.declared.mark.Mark.{Mark}
use Rattle.luf_draft.specs.declared.mark.Mark.TheVariants as mark
use Rattle.luf_draft.specs.declared.mark.Part.{Part}
use Rattle.luf_draft.specs.declared.mark.Part.TheVariants.{Nest, Group, Sequence}
use Rattle.luf_gaps.specs.Gaps.{next_gap}
use Rattle.luf_gaps.specs.declared.notes.GapNotes.{GapNotes}
use Rattle.luf_style.specs.Filled.{IsGap}
use Rattle.luf_style.specs.declared.filling.Filling.{Filling}
use Rattle.luf_style.specs.declared.filling.Frame.{Frame}

-- the text of a flat piece; none where it is no word
abbrev pub text_of : Flat → List ℕ
text_of (flat_word bytes) = bytes
text_of (flat_gap gap) = []
text_of flat_trail = []
text_of (flat_open part) = []
text_of flat_close = []

-- whether a mark stands for a text
abbrev pub has_text : Mark → Bool
has_text (mark.Token n) = true
has_text (mark.Word w) = true
has_text (mark.Sign s) = true
has_text (mark.Gap g) = false
has_text mark.Trail = false
has_text (mark.Open part) = false
has_text mark.Close = false

-- the first text of a flat draft; none where it has no word
abbrev pub first_flat : List Flat → List ℕ
first_flat [] = []
first_flat (flat_word bytes ∷ rest) = bytes
first_flat (flat_gap gap ∷ rest) = first_flat rest
first_flat (flat_trail ∷ rest) = first_flat rest
first_flat (flat_open part ∷ rest) = first_flat rest
first_flat (flat_close ∷ rest) = first_flat rest

-- the only one of these, or a `,` where there is none
abbrev pub last_of : List Document → Document
last_of [] = document.trail
last_of (d ∷ []) = d
last_of (d ∷ e ∷ ds) = last_of (e ∷ ds)

-- a part with these documents inside
abbrev pub closed : Part → List Document → Document
closed Nest ds = document.nest (last_of ds)
closed Group ds = document.group (last_of ds)
closed Sequence ds = document.sequence (documents ds)

-- a part that is open, with the documents before it
pub record Open : Type 0 where
  pub part : Part
  pub before : List Document

-- A flat draft with this text before it, these gaps left and these parts open, the innermost first, where the documents of
-- the innermost are `docs`, comes to these documents.
pub data Runs : List Flat → List ℕ → List GapNotes → List Open → List Document → List Document → Type 0 where
  ended : {last : List ℕ} {gaps : List GapNotes} {opens : List Open} {docs : List Document} → Runs [] last gaps opens docs docs
  word : {bytes last : List ℕ} {rest : List Flat} {gaps : List GapNotes} {opens : List Open} {docs all : List Document}
      → Runs rest bytes gaps opens (docs ++ document.text bytes ∷ []) all → Runs (flat_word bytes ∷ rest) last gaps opens docs all
  gap : {opening : Opening} {gap : Gap} {last : List ℕ} {rest : List Flat} {gaps : List GapNotes} {opens : List Open} {docs all : List Document}
      → IsGap last (first_flat rest) opening (next_gap gaps) gap
      → Runs rest last (drop 1 gaps) opens (docs ++ document.between gap ∷ []) all → Runs (flat_gap opening ∷ rest) last gaps opens docs all
  trail : {last : List ℕ} {rest : List Flat} {gaps : List GapNotes} {opens : List Open} {docs all : List Document}
      → Runs rest last gaps opens (docs ++ document.trail ∷ []) all → Runs (flat_trail ∷ rest) last gaps opens docs all
  open_part : {part : Part} {last : List ℕ} {rest : List Flat} {gaps : List GapNotes} {opens : List Open} {docs all : List Document}
      → Runs rest last gaps (record { part = part; before = docs } ∷ opens) [] all → Runs (flat_open part ∷ rest) last gaps opens docs all
  close_part : {part : Part} {before : List Document} {last : List ℕ} {rest : List Flat} {gaps : List GapNotes} {opens : List Open} {docs all : List Document}
      → Runs rest last gaps opens (before ++ closed part docs ∷ []) all → Runs (flat_close ∷ rest) last gaps (record { part = part; before = before } ∷ opens) docs all
  -- one that closes nothing
  stray : {last : List ℕ} {rest : List Flat} {gaps : List GapNotes} {docs all : List Document} → Runs rest last gaps [] docs all → Runs (flat_close ∷ rest) last gaps [] docs all

-- ---- what the program holds

abbrev pub open_of : Frame → Open
open_of frame = record { part = frame.part; before = map document_of frame.before.items }

-- what is left of a draft comes to these documents from here
abbrev pub Goes : List (List ℕ) → List Flat → Filling → List Document → Type 0
Goes written rest f all = Runs rest (text_of (shown written f.last)) (reverse f.gaps.items) (reverse (map open_of f.frames.items)) (map document_of f.docs.items) all

-- one mark takes the one to the other
pub record Steps (written : List (List ℕ)) (mark : Mark) (rest : List Flat) (before behind : Filling) : Type 0 where
  pub goes : (all : List Document) → Goes written rest behind all → Goes written (shown written mark ∷ rest) before all

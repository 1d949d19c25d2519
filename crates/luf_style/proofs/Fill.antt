-- A draft filled by a function, where another tells which texts need a space between them.
use Rattle.std.proofs.Common.{ℕ, Bool, true, false, List, [], ◌∷◌, drop}
use Rattle.luf_doc.specs.declared.doc.Chance.{Chance}
use Rattle.luf_doc.specs.declared.doc.Chance.TheVariants.{Tight, Space, Soft, Line, Hard}
use Rattle.luf_doc.specs.declared.doc.Gap.{Gap}
use Rattle.luf_doc.specs.declared.doc.Remark.{Remark}
use Rattle.luf_doc.specs.Document.{Document, Documents}
use Rattle.luf_doc.specs.Document as document
use Rattle.luf_draft.specs.Draft.{Draft, Drafts, Border, Opening}
use Rattle.luf_draft.specs.Draft as draft
use Rattle.luf_gaps.specs.Gaps.{empty_gap}
use Rattle.luf_gaps.specs.declared.notes.GapNotes.{GapNotes}
use Rattle.luf_style.specs.inner.Chances.{noted_chance}
use Rattle.luf_style.specs.Filled.{bordered, first_of_all, last_text}
use Rattle.luf_draft.specs.Openings.{openings}

-- the chance of a gap without notes, whose texts need a space or not
abbrev pub plain_chance : Bool → Chance → Chance
plain_chance true Tight = Space
plain_chance false Tight = Tight
plain_chance needs Space = Space
plain_chance needs Soft = Soft
plain_chance needs Line = Line
plain_chance needs Hard = Hard

-- and of any gap
abbrev pub chance_of : Bool → List Remark → Border → Chance → Chance
chance_of needs [] border chance = plain_chance needs chance
chance_of needs (note ∷ notes) border chance = noted_chance border chance

abbrev pub first_gap : List GapNotes → GapNotes
first_gap [] = empty_gap
first_gap (gap ∷ gaps) = gap

module _ (needs : List ℕ → List ℕ → Bool) where
  abbrev pub filled_gap : List ℕ → List ℕ → Opening → GapNotes → Gap
  filled_gap before after opening gap = record {
    chance = chance_of (needs before after) gap.notes opening.border opening.chance;
    notes = (bordered opening.border gap).notes;
    blank = (bordered opening.border gap).blank;
    deeper = opening.deeper;
  }

  abbrev mutual
    pub fill : List ℕ → List ℕ → Draft → List GapNotes → Document
    fill before after (draft.word bytes) gaps = document.text bytes
    fill before after (draft.opening opening) gaps = document.between (filled_gap before after opening (first_gap gaps))
    fill before after draft.trail gaps = document.trail
    fill before after (draft.nest inner) gaps = document.nest (fill before after inner gaps)
    fill before after (draft.group inner) gaps = document.group (fill before after inner gaps)
    fill before after (draft.sequence items) gaps = document.sequence (fill_all before after items gaps)

    pub fill_all : List ℕ → List ℕ → Drafts → List GapNotes → Documents
    fill_all before after draft.nothing gaps = document.nothing
    fill_all before after (draft.also first rest) gaps =
        document.also (fill before (first_of_all rest after) first gaps) (fill_all (last_text first before) after rest (drop (openings first) gaps))

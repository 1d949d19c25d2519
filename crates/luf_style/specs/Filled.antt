-- A draft with the comments of its gaps: the document. Rules of our own.
use Rattle.std.specs.Prelude.{◌≡◌, ℕ, Bool, false, ◌||◌, cond, List, [], ◌∷◌, map}
use Rattle.luf_doc.specs.declared.doc.Chance.{Chance}
use Rattle.luf_doc.specs.declared.doc.Chance.TheVariants.{Tight, Space, Hard}
use Rattle.luf_doc.specs.declared.doc.Gap.{Gap}
use Rattle.luf_doc.specs.declared.doc.Remark.{Remark}
use Rattle.luf_doc.specs.Document.{Document, Documents}
use Rattle.luf_doc.specs.Document as document
use Rattle.luf_guard.specs.Space.{StandApart, NeedSpace}
use Rattle.luf_draft.specs.Draft.{Draft, Drafts, Border, Opening}
use Rattle.luf_draft.specs.Draft as draft
use Rattle.luf_gaps.specs.declared.notes.GapNotes.{GapNotes}

-- ---- empty lines: told only where a statement or a block begins or ends

abbrev pub without_blank : Remark → Remark
without_blank note = record note { blank = false }

-- nothing of empty lines
abbrev pub unspaced : GapNotes → GapNotes
unspaced gap = record { notes = map without_blank gap.notes; blank = false }

-- None before the first break. It stands before the first note that is of its own line or stands behind one that ends its
-- line, and behind all notes where there is no such note. `ends`: the note before these ends its line.
abbrev pub first_unspaced : Bool → List Remark → List Remark
first_unspaced ends [] = []
first_unspaced ends (note ∷ notes) = cond (note.own_line || ends) (without_blank note ∷ notes) (note ∷ first_unspaced note.ends_line notes)

abbrev pub breaks_early : Bool → List Remark → Bool
breaks_early ends [] = false
breaks_early ends (note ∷ notes) = note.own_line || ends || breaks_early note.ends_line notes

abbrev pub start_unspaced : GapNotes → GapNotes
start_unspaced gap = record { notes = first_unspaced false gap.notes; blank = cond (breaks_early false gap.notes) gap.blank false }

-- none directly before what ends a block
abbrev pub end_unspaced : GapNotes → GapNotes
end_unspaced gap = record { notes = gap.notes; blank = false }

abbrev pub bordered : Border → GapNotes → GapNotes
bordered draft.inside gap = unspaced gap
bordered draft.first_statement gap = start_unspaced gap
bordered draft.later_statement gap = gap
bordered draft.block_end gap = end_unspaced gap
bordered draft.empty_block gap = end_unspaced (start_unspaced gap)

-- ---- what a gap without notes writes

abbrev pub Has : List Remark → Type 0
Has notes = (notes ≡ [] → ⊥)

-- The chance of a gap between two texts. A tight gap without notes is a space where the two need one; one of an empty block
-- that has notes is hard.
pub data IsChance (before after : List ℕ) (notes : List Remark) : Border → Chance → Chance → Type 0 where
  apart : (border : Border) → notes ≡ [] → StandApart before after → IsChance before after notes border Tight Tight
  spaced : (border : Border) → notes ≡ [] → NeedSpace before after → IsChance before after notes border Tight Space
  noted : (border : Border) → (border ≡ draft.empty_block → ⊥) → Has notes → IsChance before after notes border Tight Tight
  hard : (chance : Chance) → Has notes → IsChance before after notes draft.empty_block chance Hard
  kept : (border : Border) (chance : Chance) → (chance ≡ Tight → ⊥) → (border ≡ draft.empty_block → notes ≡ []) → IsChance before after notes border chance chance

-- a gap of a draft, between two texts, with these notes of the source
pub record IsGap (before after : List ℕ) (opening : Opening) (notes : GapNotes) (gap : Gap) : Type 0 where
  pub chance : IsChance before after notes.notes opening.border opening.chance gap.chance
  pub notes_are : gap.notes ≡ (bordered opening.border notes).notes
  pub blank : gap.blank ≡ (bordered opening.border notes).blank
  pub deeper : gap.deeper ≡ opening.deeper

-- ---- the texts on both sides of a gap

-- the first text of a draft, or that of what follows it
abbrev mutual
  pub first_text : Draft → List ℕ → List ℕ
  first_text (draft.word bytes) after = bytes
  first_text (draft.opening gap) after = after
  first_text draft.trail after = after
  first_text (draft.nest inner) after = first_text inner after
  first_text (draft.group inner) after = first_text inner after
  first_text (draft.sequence items) after = first_of_all items after

  pub first_of_all : Drafts → List ℕ → List ℕ
  first_of_all draft.nothing after = after
  first_of_all (draft.also first rest) after = first_text first (first_of_all rest after)

-- the last text of a draft, or that of what stands before it
abbrev mutual
  pub last_text : Draft → List ℕ → List ℕ
  last_text (draft.word bytes) before = bytes
  last_text (draft.opening gap) before = before
  last_text draft.trail before = before
  last_text (draft.nest inner) before = last_text inner before
  last_text (draft.group inner) before = last_text inner before
  last_text (draft.sequence items) before = last_of_all items before

  pub last_of_all : Drafts → List ℕ → List ℕ
  last_of_all draft.nothing before = before
  last_of_all (draft.also first rest) before = last_of_all rest (last_text first before)

-- ---- the document

-- A draft between two texts is filled with the first of these gaps, and the others are left.
mutual
  pub data IsFilled : List ℕ → List ℕ → Draft → List GapNotes → List GapNotes → Document → Type 0 where
    word : (before after bytes : List ℕ) (gaps : List GapNotes) → IsFilled before after (draft.word bytes) gaps gaps (document.text bytes)
    opening : (before after : List ℕ) (opening : Opening) (notes : GapNotes) (gaps : List GapNotes) (gap : Gap) → IsGap before after opening notes gap
        → IsFilled before after (draft.opening opening) (notes ∷ gaps) gaps (document.between gap)
    trail : (before after : List ℕ) (gaps : List GapNotes) → IsFilled before after draft.trail gaps gaps document.trail
    nest : (before after : List ℕ) (inner : Draft) (gaps left : List GapNotes) (d : Document) → IsFilled before after inner gaps left d
        → IsFilled before after (draft.nest inner) gaps left (document.nest d)
    group : (before after : List ℕ) (inner : Draft) (gaps left : List GapNotes) (d : Document) → IsFilled before after inner gaps left d
        → IsFilled before after (draft.group inner) gaps left (document.group d)
    sequence : (before after : List ℕ) (items : Drafts) (gaps left : List GapNotes) (ds : Documents) → AreFilled before after items gaps left ds
        → IsFilled before after (draft.sequence items) gaps left (document.sequence ds)

  pub data AreFilled : List ℕ → List ℕ → Drafts → List GapNotes → List GapNotes → Documents → Type 0 where
    nothing : (before after : List ℕ) (gaps : List GapNotes) → AreFilled before after draft.nothing gaps gaps document.nothing
    also : (before after : List ℕ) (first : Draft) (rest : Drafts) (gaps mid left : List GapNotes) (d : Document) (ds : Documents)
        → IsFilled before (first_of_all rest after) first gaps mid d → AreFilled (last_text first before) after rest mid left ds
        → AreFilled before after (draft.also first rest) gaps left (document.also d ds)

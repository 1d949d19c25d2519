-- The notes of the layout of a filled draft are those of its gaps, in order.
use Rattle.std.proofs.Common.{◌≡◌, ℕ, ◌+◌, Bool, true, false, cond, ◌||◌, List, [], ◌∷◌, ◌++◌, reverse, refl, ap, ◌∙◌}
use Rattle.std.specs.Prelude.{map}
use mathlib.Core.List.{reverse_aux}
use Rattle.luf_doc.specs.declared.page.Page.{Page}
use Rattle.luf_doc.specs.declared.doc.Chance.{Chance}
use Rattle.luf_doc.specs.declared.doc.Chance.TheVariants.{Tight, Space, Soft, Line, Hard}
use Rattle.luf_doc.specs.declared.doc.Gap.{Gap}
use Rattle.luf_doc.specs.declared.doc.Remark.{Remark}
use Rattle.luf_doc.specs.Document.{Document, Documents}
use Rattle.luf_doc.specs.Layout.{Piece, Mode, is_broken, is_begun, spaced, broken, must_break, unbroken, next_break, lay_notes, lay_gap, lay, lay_all, mode_of, pieces}
use Rattle.luf_doc.specs.Layout as laid
use Rattle.luf_doc.specs.Flat.{forces, flat, all_lead}
use Rattle.luf_draft.specs.Draft.{Draft, Drafts, Border}
use Rattle.luf_draft.specs.Draft as draft
use Rattle.luf_gaps.specs.declared.notes.GapNotes.{GapNotes}
use Rattle.luf_style.specs.Filled.{without_blank, first_unspaced, bordered, IsFilled, AreFilled}
use Rattle.luf_style.specs.Filled as filled
use Rattle.luf_kept.specs.inner.LaidNotes.{notes_of, texts_of, gap_texts}
use Rattle.luf_kept.proofs.LayRows.{notes_onto}

-- ---- the flags of a border change no text

unspaced_texts : (notes : List Remark) → texts_of (map without_blank notes) ≡ texts_of notes
unspaced_texts [] = refl
unspaced_texts (note ∷ notes) = ap (λ ts. note.text ∷ ts) (unspaced_texts notes)

first_texts : (ends : Bool) (notes : List Remark) → texts_of (first_unspaced ends notes) ≡ texts_of notes
first_texts ends [] = refl
first_texts ends (note ∷ notes) = by_break (note.own_line || ends) (first_texts note.ends_line notes)
  where
    by_break : (v : Bool) → texts_of (first_unspaced note.ends_line notes) ≡ texts_of notes → texts_of (cond v (without_blank note ∷ notes) (note ∷ first_unspaced note.ends_line notes)) ≡ note.text ∷ texts_of notes
    by_break true more = refl
    by_break false more = ap (λ ts. note.text ∷ ts) more

bordered_texts : (border : Border) (gap : GapNotes) → texts_of (bordered border gap).notes ≡ texts_of gap.notes
bordered_texts draft.inside gap = unspaced_texts gap.notes
bordered_texts draft.first_statement gap = first_texts false gap.notes
bordered_texts draft.later_statement gap = refl
bordered_texts draft.block_end gap = refl
bordered_texts draft.empty_block gap = first_texts false gap.notes

-- ---- what a gap writes: its notes

either_notes : (v : Bool) (a b done : List Piece) (notes : List (List ℕ)) → notes_onto a notes ≡ notes_onto done notes → notes_onto b notes ≡ notes_onto done notes → notes_onto (cond v a b) notes ≡ notes_onto done notes
either_notes true a b done notes left right = left
either_notes false a b done notes left right = right

spaced_notes : (done : List Piece) (notes : List (List ℕ)) → notes_onto (spaced done) notes ≡ notes_onto done notes
spaced_notes done notes = either_notes (is_begun done) (laid.space ∷ done) done done notes refl refl

broken_notes : (level : ℕ) (blank : Bool) (done : List Piece) (notes : List (List ℕ)) → notes_onto (broken level blank done) notes ≡ notes_onto done notes
broken_notes level blank done notes =
    either_notes (is_begun done) (laid.indentation level ∷ cond blank (laid.empty_line ∷ laid.line_end ∷ done) (laid.line_end ∷ done)) done done notes
    (either_notes blank (laid.empty_line ∷ laid.line_end ∷ done) (laid.line_end ∷ done) done notes refl refl) refl

gap_end : (v : Bool) (level : ℕ) (blank : Bool) (done : List Piece) (notes : List (List ℕ)) → notes_onto (cond v (broken level blank done) (spaced done)) notes ≡ notes_onto done notes
gap_end v level blank done notes = either_notes v (broken level blank done) (spaced done) done notes (broken_notes level blank done notes) (spaced_notes done notes)

remarks_laid : (gap : Gap) (level : ℕ) (must had ends : Bool) (remarks : List Remark) (done : List Piece) (notes : List (List ℕ))
    → notes_onto (lay_notes gap level must had ends remarks done) notes ≡ notes_onto done (texts_of remarks ++ notes)
remarks_laid gap level must had ends [] done notes = gap_end (next_break must had ends []) level gap.blank done notes
remarks_laid gap level must had ends (next ∷ remarks) done notes =
    remarks_laid gap level must (had || next_break must had ends (next ∷ remarks)) next.ends_line remarks
    (laid.note next.text ∷ cond (next_break must had ends (next ∷ remarks)) (broken (level + cond gap.deeper 1 0) next.blank done) (spaced done)) notes
    ∙ gap_end (next_break must had ends (next ∷ remarks)) (level + cond gap.deeper 1 0) next.blank done (next.text ∷ (texts_of remarks ++ notes))

unbroken_notes : (chance : Chance) (done : List Piece) (notes : List (List ℕ)) → notes_onto (unbroken chance done) notes ≡ notes_onto done notes
unbroken_notes Tight done notes = refl
unbroken_notes Space done notes = spaced_notes done notes
unbroken_notes Soft done notes = refl
unbroken_notes Line done notes = spaced_notes done notes
unbroken_notes Hard done notes = refl

gap_laid : (gap : Gap) (mode : Mode) (level : ℕ) (remarks : List Remark) (done : List Piece) (notes : List (List ℕ)) → notes_onto (lay_gap gap mode level remarks done) notes ≡ notes_onto done (texts_of remarks ++ notes)
gap_laid gap mode level [] done notes =
    either_notes (must_break gap.chance mode) (broken level gap.blank done) (unbroken gap.chance done) done notes (broken_notes level gap.blank done notes) (unbroken_notes gap.chance done notes)
gap_laid gap mode level (next ∷ remarks) done notes = remarks_laid gap level (must_break gap.chance mode) false false (next ∷ remarks) done notes

-- ---- a draft

module _ (page : Page) where
  mutual
    -- what was written before, and then the notes of the gaps
    draft_laid : (mode : Mode) (level lead : ℕ) (done : List Piece) {before after : List ℕ} {d : Draft} {gaps left : List GapNotes} {doc : Document}
        → IsFilled before after d gaps left doc → notes_onto (lay page mode level lead doc done) (gap_texts left) ≡ notes_onto done (gap_texts gaps)
    draft_laid mode level lead done (filled.word before after bytes gaps) = refl
    draft_laid mode level lead done (filled.opening before after opening notes gaps gap is) =
        gap_laid gap mode level gap.notes done (gap_texts gaps)
        ∙ ap (λ ts. notes_onto done (ts ++ gap_texts gaps)) (ap texts_of is.notes_are ∙ bordered_texts opening.border notes)
    draft_laid mode level lead done (filled.trail before after gaps) =
        either_notes (is_broken mode) (laid.word laid.comma ∷ done) done done (gap_texts gaps) refl refl
    draft_laid mode level lead done (filled.nest before after inner gaps left d is) = draft_laid mode (level + 1) lead done is
    draft_laid mode level lead done (filled.group before after inner gaps left d is) =
        draft_laid (mode_of page mode (forces d) (laid.column_of page done + flat d lead)) level lead done is
    draft_laid mode level lead done (filled.sequence before after items gaps left ds are) = all_laid mode level lead done are

    all_laid : (mode : Mode) (level lead : ℕ) (done : List Piece) {before after : List ℕ} {items : Drafts} {gaps left : List GapNotes} {docs : Documents}
        → AreFilled before after items gaps left docs → notes_onto (lay_all page mode level lead docs done) (gap_texts left) ≡ notes_onto done (gap_texts gaps)
    all_laid mode level lead done (filled.nothing before after gaps) = refl
    all_laid mode level lead done (filled.also before after first rest gaps mid left d ds is are) =
        all_laid mode level lead (lay page mode level (all_lead ds lead) d done) are ∙ draft_laid mode level (all_lead ds lead) done is

-- ---- in order

notes_back : (done ps : List Piece) → notes_of (reverse_aux done ps) ≡ notes_onto done (notes_of ps)
notes_back [] ps = refl
notes_back (laid.word bytes ∷ done) ps = notes_back done (laid.word bytes ∷ ps)
notes_back (laid.note bytes ∷ done) ps = notes_back done (laid.note bytes ∷ ps)
notes_back (laid.space ∷ done) ps = notes_back done (laid.space ∷ ps)
notes_back (laid.line_end ∷ done) ps = notes_back done (laid.line_end ∷ ps)
notes_back (laid.empty_line ∷ done) ps = notes_back done (laid.empty_line ∷ ps)
notes_back (laid.indentation level ∷ done) ps = notes_back done (laid.indentation level ∷ ps)

-- the notes of what was written
pub laid_notes : (done : List Piece) → notes_of (reverse done) ≡ notes_onto done []
laid_notes done = notes_back done []

-- the notes of a layout that uses all gaps are those of the gaps
pub laid_gap_notes : (page : Page) {before after : List ℕ} {d : Draft} {gaps : List GapNotes} {doc : Document} → IsFilled before after d gaps [] doc → notes_of (pieces page doc) ≡ gap_texts gaps
laid_gap_notes page {doc} is = laid_notes (lay page laid.outside 0 0 doc []) ∙ draft_laid page laid.outside 0 0 [] is

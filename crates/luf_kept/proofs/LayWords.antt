-- The words of the layout of a filled draft are words that the draft takes.
use Rattle.std.proofs.Common.{◌≡◌, ℕ, ◌+◌, inl, inr, Bool, true, false, cond, ◌||◌, List, [], ◌∷◌, codes, reverse, refl, sym, ◌∙◌, subst}
use mathlib.Core.List.{reverse_aux}
use Rattle.luf_bare.specs.ReadBack.{TextWord}
use Rattle.luf_doc.specs.declared.page.Page.{Page}
use Rattle.luf_doc.specs.declared.doc.Chance.{Chance}
use Rattle.luf_doc.specs.declared.doc.Chance.TheVariants.{Tight, Space, Soft, Line, Hard}
use Rattle.luf_doc.specs.declared.doc.Gap.{Gap}
use Rattle.luf_doc.specs.declared.doc.Remark.{Remark}
use Rattle.luf_doc.specs.Document.{Document, Documents}
use Rattle.luf_doc.specs.Layout.{Piece, Mode, is_broken, is_begun, spaced, broken, must_break, unbroken, next_break, lay_notes, lay_gap, lay, lay_all, mode_of, pieces}
use Rattle.luf_doc.specs.Layout as laid
use Rattle.luf_doc.specs.Flat.{forces, flat, all_lead}
use Rattle.luf_draft.specs.Draft.{Draft, Drafts}
use Rattle.luf_draft.specs.Draft as draft
use Rattle.luf_gaps.specs.declared.notes.GapNotes.{GapNotes}
use Rattle.luf_style.specs.Filled.{IsFilled, AreFilled}
use Rattle.luf_style.specs.Filled as filled
use Rattle.luf_kept.specs.inner.LaidWords.{words_of}
use Rattle.luf_kept.specs.inner.Marks.{Marks}
use Rattle.luf_kept.specs.inner.Takes.{Takes, TakeAll}
use Rattle.luf_kept.proofs.LayRows.{words_onto}

-- ---- a gap writes no word

either_words : (v : Bool) (a b done : List Piece) (words : List (List ℕ)) → words_onto a words ≡ words_onto done words → words_onto b words ≡ words_onto done words → words_onto (cond v a b) words ≡ words_onto done words
either_words true a b done words left right = left
either_words false a b done words left right = right

spaced_words : (done : List Piece) (words : List (List ℕ)) → words_onto (spaced done) words ≡ words_onto done words
spaced_words done words = either_words (is_begun done) (laid.space ∷ done) done done words refl refl

broken_words : (level : ℕ) (blank : Bool) (done : List Piece) (words : List (List ℕ)) → words_onto (broken level blank done) words ≡ words_onto done words
broken_words level blank done words =
    either_words (is_begun done) (laid.indentation level ∷ cond blank (laid.empty_line ∷ laid.line_end ∷ done) (laid.line_end ∷ done)) done done words
    (either_words blank (laid.empty_line ∷ laid.line_end ∷ done) (laid.line_end ∷ done) done words refl refl) refl

notes_words : (gap : Gap) (level : ℕ) (must had ends : Bool) (notes : List Remark) (done : List Piece) (words : List (List ℕ)) → words_onto (lay_notes gap level must had ends notes done) words ≡ words_onto done words
notes_words gap level must had ends [] done words =
    either_words (next_break must had ends []) (broken level gap.blank done) (spaced done) done words (broken_words level gap.blank done words) (spaced_words done words)
notes_words gap level must had ends (next ∷ notes) done words =
    notes_words gap level must (had || next_break must had ends (next ∷ notes)) next.ends_line notes
    (laid.note next.text ∷ cond (next_break must had ends (next ∷ notes)) (broken (level + cond gap.deeper 1 0) next.blank done) (spaced done)) words
    ∙ either_words (next_break must had ends (next ∷ notes)) (broken (level + cond gap.deeper 1 0) next.blank done) (spaced done) done words
    (broken_words (level + cond gap.deeper 1 0) next.blank done words) (spaced_words done words)

unbroken_words : (chance : Chance) (done : List Piece) (words : List (List ℕ)) → words_onto (unbroken chance done) words ≡ words_onto done words
unbroken_words Tight done words = refl
unbroken_words Space done words = spaced_words done words
unbroken_words Soft done words = refl
unbroken_words Line done words = spaced_words done words
unbroken_words Hard done words = refl

pub gap_words : (gap : Gap) (mode : Mode) (level : ℕ) (notes : List Remark) (done : List Piece) (words : List (List ℕ)) → words_onto (lay_gap gap mode level notes done) words ≡ words_onto done words
gap_words gap mode level [] done words =
    either_words (must_break gap.chance mode) (broken level gap.blank done) (unbroken gap.chance done) done words (broken_words level gap.blank done words) (unbroken_words gap.chance done words)
gap_words gap mode level (next ∷ notes) done words = notes_words gap level (must_break gap.chance mode) false false (next ∷ notes) done words

-- ---- a draft

-- what was written before, then words of the draft, then these
abbrev pub Took : Draft → List Piece → List Piece → List (List ℕ) → Type 0
Took d before after words = (mid : List (List ℕ)) × (words_onto after words ≡ words_onto before mid) × Takes d mid words

abbrev pub TookAll : Drafts → List Piece → List Piece → List (List ℕ) → Type 0
TookAll items before after words = (mid : List (List ℕ)) × (words_onto after words ≡ words_onto before mid) × TakeAll items mid words

abbrev pub took_trail : (done : List Piece) (words : List (List ℕ)) (v : Bool) → Took draft.trail done (cond v (laid.word laid.comma ∷ done) done) words
took_trail done words true = (codes "," ∷ words, refl, inr refl)
took_trail done words false = (words, refl, inl refl)

module _ (page : Page) where
  unfoldable mutual
    pub took : (mode : Mode) (level lead : ℕ) (done : List Piece) (words : List (List ℕ)) {before after : List ℕ} {d : Draft} {gaps left : List GapNotes} {doc : Document}
        → IsFilled before after d gaps left doc → Took d done (lay page mode level lead doc done) words
    took mode level lead done words (filled.word before after bytes gaps) = (bytes ∷ words, refl, refl)
    took mode level lead done words (filled.opening before after opening notes gaps gap is) = (words, gap_words gap mode level gap.notes done words, refl)
    took mode level lead done words (filled.trail before after gaps) = took_trail done words (is_broken mode)
    took mode level lead done words (filled.nest before after inner gaps left d is) = took mode (level + 1) lead done words is
    took mode level lead done words (filled.group before after inner gaps left d is) =
        took (mode_of page mode (forces d) (laid.column_of page done + flat d lead)) level lead done words is
    took mode level lead done words (filled.sequence before after items gaps left ds are) = took_all mode level lead done words are

    pub took_all : (mode : Mode) (level lead : ℕ) (done : List Piece) (words : List (List ℕ)) {before after : List ℕ} {items : Drafts} {gaps left : List GapNotes} {docs : Documents}
        → AreFilled before after items gaps left docs → TookAll items done (lay_all page mode level lead docs done) words
    took_all mode level lead done words (filled.nothing before after gaps) = (words, refl, refl)
    took_all mode level lead done words (filled.also before after first rest gaps mid left d ds is are) =
        let later = took_all mode level lead (lay page mode level (all_lead ds lead) d done) words are in
        let one = took mode level (all_lead ds lead) done later.0 is in
        (one.0, later.1 ∙ one.1, (later.0, one.2, later.2))

-- ---- in order

words_back : (done ps : List Piece) → words_of (reverse_aux done ps) ≡ words_onto done (words_of ps)
words_back [] ps = refl
words_back (laid.word bytes ∷ done) ps = words_back done (laid.word bytes ∷ ps)
words_back (laid.note bytes ∷ done) ps = words_back done (laid.note bytes ∷ ps)
words_back (laid.space ∷ done) ps = words_back done (laid.space ∷ ps)
words_back (laid.line_end ∷ done) ps = words_back done (laid.line_end ∷ ps)
words_back (laid.empty_line ∷ done) ps = words_back done (laid.empty_line ∷ ps)
words_back (laid.indentation level ∷ done) ps = words_back done (laid.indentation level ∷ ps)

-- the words of what was written
pub laid_words : (done : List Piece) → words_of (reverse done) ≡ words_onto done []
laid_words done = words_back done []

-- the words of a layout are words of the draft
pub laid_takes : (page : Page) {before after : List ℕ} {d : Draft} {gaps left : List GapNotes} {doc : Document} → IsFilled before after d gaps left doc → Takes d (words_of (pieces page doc)) []
laid_takes page {d} {doc} is =
    let one = took page laid.outside 0 0 [] [] is in
    subst (λ (words : List (List ℕ)). Takes d words []) (sym (laid_words (lay page laid.outside 0 0 doc []) ∙ one.1)) one.2

-- a text with the words of a layout has those that the draft took
pub laid_marks : (page : Page) {before after : List ℕ} {d : Draft} {gaps left : List GapNotes} {doc : Document} → (is : IsFilled before after d gaps left doc) → (text : List TextWord) (from to : Bool)
    → Marks d (words_of (pieces page doc)) [] (laid_takes page is) text [] from to → Marks d (took page laid.outside 0 0 [] [] is).0 [] (took page laid.outside 0 0 [] [] is).2 text [] from to
unfolding laid_takes
laid_marks page {d} {doc} is text from to marks =
    let one = took page laid.outside 0 0 [] [] is in
    let same : one.0 ≡ words_of (pieces page doc) = sym (laid_words (lay page laid.outside 0 0 doc []) ∙ one.1) in
    coe 1 0 (i. Marks d (same i) [] (coe 0 i (j. Takes d (same j) []) one.2) text [] from to) marks

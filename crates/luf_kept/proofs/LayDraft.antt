-- The layout of a filled draft is a row: by its steps from place to place.
use Rattle.std.proofs.Common.{◌≡◌, ℕ, ◌+◌, ◌⊎◌, inl, inr, Bool, true, false, cond, List, [], ◌∷◌, codes, refl, sym, ap, ◌∙◌, subst}
use Rattle.std.specs.Prelude.{map}
use Rattle.std.proofs.lemmas.Bool.{false≢true}
use Rattle.luf_lex.specs.declared.token.Tok.TheVariants.{Sign}
use Rattle.luf_lex.specs.declared.token.Sign.TheVariants.{Comma}
use Rattle.luf_guard.specs.Space.{IsTokenSpelling, StandApart}
use Rattle.luf_doc.specs.declared.page.Page.{Page}
use Rattle.luf_doc.specs.declared.doc.Chance.{Chance}
use Rattle.luf_doc.specs.declared.doc.Chance.TheVariants.{Tight, Soft}
use Rattle.luf_doc.specs.declared.doc.Gap.{Gap}
use Rattle.luf_doc.specs.declared.doc.Remark.{Remark}
use Rattle.luf_doc.specs.Document.{Document, Documents}
use Rattle.luf_doc.specs.Layout.{Piece, Mode, is_broken, lay_gap, lay, lay_all, mode_of}
use Rattle.luf_doc.specs.Layout as laid
use Rattle.luf_doc.specs.Flat.{forces, flat, all_lead}
use Rattle.luf_draft.specs.Draft.{Draft, Drafts, Opening, Border, inside, first_statement, later_statement, block_end, empty_block}
use Rattle.luf_gaps.specs.declared.notes.GapNotes.{GapNotes}
use Rattle.luf_style.specs.Filled.{without_blank, first_unspaced, bordered, IsChance, IsGap, first_text, first_of_all, last_text, last_of_all, IsFilled, AreFilled}
use Rattle.luf_style.specs.Filled as filled
use Rattle.luf_kept.specs.inner.AreNotes.{AreNotes, AllNotes}
use Rattle.luf_kept.specs.inner.LaidWords.{AreSpellings, AllSpellings}
use Rattle.luf_kept.specs.inner.Steps.{Place, Word, Steps, AllStep}
use Rattle.luf_kept.specs.inner.Steps as step
use Rattle.luf_kept.proofs.NotesOfGaps.{bordered_notes}
use Rattle.luf_kept.proofs.SnugWords.{apart_sign, open_apart}
use Rattle.luf_kept.proofs.LayRows.{Last, at_start, at_gap, at_word, MayWord, Row, word_row, last_word}
use Rattle.luf_kept.proofs.LayGaps.{Went, gap_behind, gap_first}

-- ---- which chance a gap has

abbrev is_tight : Chance → Bool
is_tight Tight = true
is_tight _ = false

abbrev is_soft : Chance → Bool
is_soft Soft = true
is_soft _ = false

tight_kept : {before after : List ℕ} {notes : List Remark} {border : Border} {wanted chance : Chance} → IsChance before after notes border wanted chance → chance ≡ Tight → wanted ≡ Tight
tight_kept (filled.apart border none apart) e = refl
tight_kept (filled.spaced border none need) e = refl
tight_kept (filled.noted border other has) e = refl
tight_kept (filled.hard chance has) e = absurd (false≢true (ap is_tight e))
tight_kept (filled.kept border chance other none) e = e

soft_kept : {before after : List ℕ} {notes : List Remark} {border : Border} {wanted chance : Chance} → IsChance before after notes border wanted chance → chance ≡ Soft → wanted ≡ Soft
soft_kept (filled.apart border none apart) e = absurd (false≢true (ap is_soft e))
soft_kept (filled.spaced border none need) e = absurd (false≢true (ap is_soft e))
soft_kept (filled.noted border other has) e = absurd (false≢true (ap is_soft e))
soft_kept (filled.hard chance has) e = absurd (false≢true (ap is_soft e))
soft_kept (filled.kept border chance other none) e = e

tight_apart : {before after : List ℕ} {notes : List Remark} {border : Border} {wanted chance : Chance} → IsChance before after notes border wanted chance → chance ≡ Tight → notes ≡ [] → StandApart before after
tight_apart (filled.apart border none apart) e empty = apart
tight_apart (filled.spaced border none need) e empty = absurd (false≢true (ap is_tight e))
tight_apart (filled.noted border other has) e empty = absurd (has empty)
tight_apart (filled.hard chance has) e empty = absurd (has empty)
tight_apart (filled.kept border chance other none) e empty = absurd (other e)

-- ---- a border leaves no notes out

abbrev has_none : List Remark → Bool
has_none [] = true
has_none (note ∷ notes) = false

same_none : (f : Remark → Remark) (notes : List Remark) → has_none (map f notes) ≡ has_none notes
same_none f [] = refl
same_none f (note ∷ notes) = refl

first_none : (ends : Bool) (notes : List Remark) → has_none (first_unspaced ends notes) ≡ has_none notes
first_none ends [] = refl
first_none ends (note ∷ notes) = by_break _ (without_blank note) note notes (first_unspaced note.ends_line notes)
  where
    by_break : (v : Bool) (a b : Remark) (xs ys : List Remark) → has_none (cond v (a ∷ xs) (b ∷ ys)) ≡ false
    by_break true a b xs ys = refl
    by_break false a b xs ys = refl

border_none : (border : Border) (gap : GapNotes) → has_none (bordered border gap).notes ≡ has_none gap.notes
border_none inside gap = same_none without_blank gap.notes
border_none first_statement gap = first_none false gap.notes
border_none later_statement gap = refl
border_none block_end gap = refl
border_none empty_block gap = first_none false gap.notes

none_is : (notes : List Remark) → has_none notes ≡ true → notes ≡ []
none_is [] e = refl
none_is (note ∷ notes) e = absurd (false≢true e)

gap_none : {before after : List ℕ} {opening : Opening} {notes : GapNotes} {gap : Gap} → IsGap before after opening notes gap → gap.notes ≡ [] → notes.notes ≡ []
gap_none {opening} {notes} is empty = none_is notes.notes (sym (border_none opening.border notes) ∙ ap has_none (sym is.notes_are ∙ empty))

-- ---- what was written at a place

-- what follows may stand there
abbrev Free : List Piece → List ℕ → Type 0
Free done after = (l : Last) × Row done l × (IsTokenSpelling after → MayWord l after)

abbrev Closing : List Piece → Type 0
Closing done = (l : Last) × Row done l × MayWord l (codes ")")

-- before a place, and what follows
abbrev pub State : Place → List Piece → List ℕ → List ℕ → Type 0
State step.begun done before after = done ≡ []
State step.free done before after = Free done after
State step.closing done before after = Closing done
State (step.behind bytes) done before after = Row done (at_word bytes) × (before ≡ bytes)
State step.trailed done before after = (bytes : List ℕ) × Row done (at_word bytes)

word_on : {from : Place} {bytes : List ℕ} (done : List Piece) (before after : List ℕ) → Word from bytes → IsTokenSpelling bytes → State from done before bytes → State (step.behind bytes) (laid.word bytes ∷ done) bytes after
word_on done before after (step.any bytes) is state = (word_row is.0 is.1 (state.2 is) state.1, refl)
word_on done before after step.closes is state = (word_row is.0 is.1 state.2 state.1, refl)
word_on done before after (step.comma w) is state = (word_row is.0 is.1 (apart_sign w (last_word state.0)).0 state.0, refl)
word_on done before after (step.opens w) is state = (word_row is.0 is.1 (apart_sign w (last_word state.0)).1 state.0, refl)
word_on done before after (step.ends w) is state = (word_row is.0 is.1 (apart_sign w (last_word state.0)).2 state.0, refl)

-- ---- a gap from place to place

after_start : {done : List Piece} (after : List ℕ) → Row done at_start ⊎ Row done at_gap → Free done after
after_start after (inl row) = (at_start, row, λ is. tt)
after_start after (inr row) = (at_gap, row, λ is. tt)

after_word : {done : List Piece} {bytes : List ℕ} {chance : Chance} {notes : List Remark} (after : List ℕ) → Went chance notes done bytes → (notes ≡ [] → (chance ≡ Tight) ⊎ (chance ≡ Soft) → IsTokenSpelling after → StandApart bytes after) → Free done after
after_word after (inl row) stands = (at_gap, row, λ is. tt)
after_word {bytes} after (inr stays) stands = (at_word bytes, stays.0, stands stays.1 stays.2)

before_close : {done : List Piece} {bytes : List ℕ} {chance : Chance} {notes : List Remark} → Went chance notes done bytes → StandApart bytes (codes ")") → Closing done
before_close (inl row) stands = (at_gap, row, tt)
before_close {bytes} (inr stays) stands = (at_word bytes, stays.0, stands)

gap_on : {from to : Place} {wanted : Chance} {border : Border} {before after : List ℕ} {notes : List Remark} (done : List Piece) (gap : Gap) (mode : Mode) (level : ℕ)
    → step.Gap from wanted to → IsChance before after notes border wanted gap.chance → (gap.notes ≡ [] → notes ≡ []) → AreNotes gap.notes
    → State from done before after → State to (lay_gap gap mode level gap.notes done) before after
gap_on {after} done gap mode level (step.first wanted stays) is none each state =
    subst (λ (d : List Piece). Free (lay_gap gap mode level gap.notes d) after) (sym state) (after_start after (gap_first gap mode level gap.notes each))
gap_on {before} {after} done gap mode level (step.apart w wanted stays) is none each state =
    after_word after (gap_behind gap mode level gap.notes each state.0) (λ empty chance spelled. by_chance empty chance)
  where
    by_chance : gap.notes ≡ [] → (gap.chance ≡ Tight) ⊎ (gap.chance ≡ Soft) → StandApart w after
    by_chance empty (inl tight) = subst (λ t. StandApart t after) state.1 (tight_apart is tight (none empty))
    by_chance empty (inr soft) = absurd (stays (soft_kept is soft))
gap_on {after} done gap mode level step.opened is none each state =
    after_word after (gap_behind gap mode level gap.notes each state.0) (λ empty chance spelled. open_apart after spelled)
gap_on done gap mode level (step.soft w) is none each state =
    before_close (gap_behind gap mode level gap.notes each state.0) (apart_sign w (last_word state.0)).2
gap_on {after} done gap mode level step.line is none each state =
    after_word after (gap_behind gap mode level gap.notes each state.1) (λ empty chance spelled. absurd (by_chance chance))
  where
    by_chance : (gap.chance ≡ Tight) ⊎ (gap.chance ≡ Soft) → ⊥
    by_chance (inl tight) = false≢true (ap is_tight (tight_kept is tight))
    by_chance (inr soft) = false≢true (ap is_soft (soft_kept is soft))

trail_on : (mode : Mode) {w : List ℕ} {done : List Piece} → Row done (at_word w) → (bytes : List ℕ) × Row (cond (is_broken mode) (laid.word laid.comma ∷ done) done) (at_word bytes)
trail_on mode {w} {done} row = by_mode (is_broken mode)
  where
    by_mode : (v : Bool) → (bytes : List ℕ) × Row (cond v (laid.word laid.comma ∷ done) done) (at_word bytes)
    by_mode true = (laid.comma, word_row (Sign Comma) refl (apart_sign w (last_word row)).0 row)
    by_mode false = (w, row)

-- ---- a draft

mutual
  left_notes : {before after : List ℕ} {d : Draft} {gaps left : List GapNotes} {doc : Document} → IsFilled before after d gaps left doc → AllNotes gaps → AllNotes left
  left_notes (filled.word before after bytes gaps) each = each
  left_notes (filled.opening before after opening notes gaps gap is) each = each.1
  left_notes (filled.trail before after gaps) each = each
  left_notes (filled.nest before after inner gaps left d is) each = left_notes is each
  left_notes (filled.group before after inner gaps left d is) each = left_notes is each
  left_notes (filled.sequence before after items gaps left ds are) each = all_left are each

  all_left : {before after : List ℕ} {items : Drafts} {gaps left : List GapNotes} {docs : Documents} → AreFilled before after items gaps left docs → AllNotes gaps → AllNotes left
  all_left (filled.nothing before after gaps) each = each
  all_left (filled.also before after first rest gaps mid left d ds is are) each = all_left are (left_notes is each)

module _ (page : Page) where
  mutual
    pub draft_on : (mode : Mode) (level lead : ℕ) (done : List Piece) {before after : List ℕ} {d : Draft} {gaps left : List GapNotes} {doc : Document} {from to : Place}
        → IsFilled before after d gaps left doc → Steps d from to → AreSpellings d → AllNotes gaps → State from done before (first_text d after) → State to (lay page mode level lead doc done) (last_text d before) after
    draft_on mode level lead done (filled.word before after bytes gaps) (step.a_word word) is each state = word_on done before after word is state
    draft_on mode level lead done (filled.opening before after opening notes gaps gap is) (step.a_gap goes) spelled each state =
        gap_on done gap mode level goes is.chance (gap_none is) (subst AreNotes (sym is.notes_are) (bordered_notes opening.border notes each.0)) state
    draft_on mode level lead done (filled.trail before after gaps) step.a_trail spelled each state = trail_on mode state.0
    draft_on mode level lead done (filled.nest before after inner gaps left d is) (step.a_nest steps) spelled each state = draft_on mode (level + 1) lead done is steps spelled each state
    draft_on mode level lead done (filled.group before after inner gaps left d is) (step.a_group steps) spelled each state =
        draft_on (mode_of page mode (forces d) (laid.column_of page done + flat d lead)) level lead done is steps spelled each state
    draft_on mode level lead done (filled.sequence before after items gaps left ds are) (step.a_sequence steps) spelled each state = all_on mode level lead done are steps spelled each state

    all_on : (mode : Mode) (level lead : ℕ) (done : List Piece) {before after : List ℕ} {items : Drafts} {gaps left : List GapNotes} {docs : Documents} {from to : Place}
        → AreFilled before after items gaps left docs → AllStep items from to → AllSpellings items → AllNotes gaps → State from done before (first_of_all items after) → State to (lay_all page mode level lead docs done) (last_of_all items before) after
    all_on mode level lead done (filled.nothing before after gaps) step.none spelled each state = state
    all_on mode level lead done (filled.also before after first rest gaps mid left d ds is are) (step.some steps more) spelled each state =
        all_on mode level lead (lay page mode level (all_lead ds lead) d done) are more spelled.1 (left_notes is each) (draft_on mode level (all_lead ds lead) done is steps spelled.0 each state)

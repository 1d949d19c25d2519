-- A gap goes on with a row: what it writes is a space or a break, behind its notes, or nothing where it is Tight or Soft.
use Rattle.std.proofs.Common.{◌≡◌, ◌≢◌, ℕ, ◌+◌, ◌<◌, ◌⊎◌, inl, inr, Bool, true, false, cond, not, ◌||◌, ◌&&◌, List, [], ◌∷◌, length, drop, refl, sym, ap, ◌∙◌, subst, arith}
use Rattle.std.proofs.lemmas.Bool.{false≢true}
use Rattle.luf_lex.specs.Spelling.{Spells, IsLongComment}
use Rattle.luf_lex.specs.declared.token.Kind.TheVariants.{Comment}
use Rattle.luf_str.specs.LongEnd.{opens_long}
use Rattle.luf_guard.proofs.Before.{spelled_some}
use Rattle.luf_doc.specs.declared.doc.Chance.{Chance}
use Rattle.luf_doc.specs.declared.doc.Chance.TheVariants.{Tight, Space, Soft, Line, Hard}
use Rattle.luf_doc.specs.declared.doc.Gap.{Gap}
use Rattle.luf_doc.specs.declared.doc.Remark.{Remark}
use Rattle.luf_doc.specs.Layout.{Piece, Mode, is_broken, has_bytes, is_begun, spaced, broken, must_break, unbroken, next_break, lay_notes, lay_gap}
use Rattle.luf_doc.specs.Layout as laid
use Rattle.luf_kept.specs.inner.AreNotes.{AreNotes}
use Rattle.luf_kept.proofs.LayRows.{Last, at_start, at_gap, at_word, at_note, MaySpace, MayBreak, Row, no_row, word_row, note_row, space_row, break_row, wide_row}

-- ---- a row that has begun

some_bytes : (bytes : List ℕ) → 0 < length bytes → has_bytes bytes ≡ true
some_bytes [] some = absurd (omega (arith, some))
some_bytes (b ∷ bytes) some = refl

comment_bytes : (bytes : List ℕ) → Spells Comment bytes → has_bytes bytes ≡ true
comment_bytes bytes (inl c) = ap has_bytes c.spelled
comment_bytes bytes (inr c) = ap has_bytes c.spelled

row_begun : {done : List Piece} {l : Last} → Row done l → l ≢ at_start → is_begun done ≡ true
row_begun no_row later = absurd (later refl)
row_begun (word_row {bytes} {done} t h may row) later = ap (λ v. v || is_begun done) (some_bytes bytes (spelled_some t bytes h))
row_begun (note_row {bytes} {done} h may row) later = ap (λ v. v || is_begun done) (comment_bytes bytes h)
row_begun (space_row may row) later = refl
row_begun (break_row level may row) later = refl
row_begun (wide_row level may row) later = refl

-- what may have a space or a break behind it is not the start
abbrev is_started : Last → Bool
is_started at_start = false
is_started _ = true

space_later : (l : Last) → MaySpace l → l ≢ at_start
space_later at_start may e = may
space_later at_gap may e = may
space_later (at_word a) may e = false≢true (sym (ap is_started e))
space_later (at_note a) may e = false≢true (sym (ap is_started e))

break_later : (l : Last) → MayBreak l → l ≢ at_start
break_later at_start may e = may
break_later at_gap may e = may
break_later (at_word a) may e = false≢true (sym (ap is_started e))
break_later (at_note a) may e = false≢true (sym (ap is_started e))

spaced_row : {done : List Piece} {l : Last} → MaySpace l → Row done l → Row (spaced done) at_gap
spaced_row {done} {l} may row = subst (λ v. Row (cond v (laid.space ∷ done) done) at_gap) (sym (row_begun row (space_later l may))) (space_row may row)

broken_row : {done : List Piece} {l : Last} (level : ℕ) (blank : Bool) → MayBreak l → Row done l → Row (broken level blank done) at_gap
broken_row {done} {l} level blank may row =
    subst (λ v. Row (cond v (laid.indentation level ∷ cond blank (laid.empty_line ∷ laid.line_end ∷ done) (laid.line_end ∷ done)) done) at_gap)
    (sym (row_begun row (break_later l may))) (by_blank blank)
  where
    by_blank : (v : Bool) → Row (laid.indentation level ∷ cond v (laid.empty_line ∷ laid.line_end ∷ done) (laid.line_end ∷ done)) at_gap
    by_blank true = wide_row level may row
    by_blank false = break_row level may row

-- a break, or else a space
either_row : {done : List Piece} {l : Last} (v : Bool) (level : ℕ) (blank : Bool) → MayBreak l → (v ≡ false → MaySpace l) → Row done l → Row (cond v (broken level blank done) (spaced done)) at_gap
either_row true level blank may space row = broken_row level blank may row
either_row false level blank may space row = spaced_row (space refl) row

-- while nothing is written, neither writes anything
nothing_yet : (v : Bool) → Row (cond v [] []) at_start
nothing_yet true = no_row
nothing_yet false = no_row

-- ---- the notes of a gap

-- a short note ends its line
long_note : (bytes : List ℕ) (ends : Bool) → Spells Comment bytes → (opens_long (drop 2 bytes) ≡ false → ends ≡ true) → ends ≡ false → IsLongComment bytes
long_note bytes ends (inl c) short open_line = absurd (false≢true (sym open_line ∙ short (ap (λ (t : List ℕ). opens_long (drop 2 t)) c.spelled ∙ c.plain)))
long_note bytes ends (inr c) short open_line = c

either_false : (v w : Bool) → (v || w) ≡ false → w ≡ false
either_false true w h = absurd (false≢true (sym h))
either_false false w h = h

first_false : (v w : Bool) → (v || w) ≡ false → v ≡ false
first_false true w h = h
first_false false w h = refl

module _ (gap : Gap) (level : ℕ) (must : Bool) where
  later_notes : (had ends : Bool) (notes : List Remark) {done : List Piece} {bytes : List ℕ} → AreNotes notes → (ends ≡ false → IsLongComment bytes) → Row done (at_note bytes) → Row (lay_notes gap level must had ends notes done) at_gap
  later_notes had ends [] each long row = either_row (ends || (must && not had)) level gap.blank tt (λ e. long (first_false ends _ e)) row
  later_notes had ends (next ∷ notes) each long row =
      later_notes (had || (next.own_line || ends)) next.ends_line notes each.1 (long_note next.text next.ends_line each.0.spelled each.0.ends)
      (note_row each.0.spelled tt (either_row (next.own_line || ends) (level + cond gap.deeper 1 0) next.blank tt (λ e. long (either_false next.own_line ends e)) row))

  first_notes : (next : Remark) (notes : List Remark) → AreNotes (next ∷ notes) → Row (lay_notes gap level must false false (next ∷ notes) []) at_gap
  first_notes next notes each =
      later_notes (false || (next.own_line || false)) next.ends_line notes each.1 (long_note next.text next.ends_line each.0.spelled each.0.ends)
      (note_row each.0.spelled tt (nothing_yet (next.own_line || false)))

  word_notes : {done : List Piece} {bytes : List ℕ} (next : Remark) (notes : List Remark) → AreNotes (next ∷ notes) → Row done (at_word bytes) → Row (lay_notes gap level must false false (next ∷ notes) done) at_gap
  word_notes next notes each row =
      later_notes (false || (next.own_line || false)) next.ends_line notes each.1 (long_note next.text next.ends_line each.0.spelled each.0.ends)
      (note_row each.0.spelled tt (either_row (next.own_line || false) (level + cond gap.deeper 1 0) next.blank tt (λ e. tt) row))

-- ---- a gap without notes

-- Behind a word: a space or a break is written, or nothing, where there are no notes.
abbrev pub Went : Chance → List Remark → List Piece → List ℕ → Type 0
Went chance notes done bytes = Row done at_gap ⊎ (Row done (at_word bytes) × (notes ≡ []) × ((chance ≡ Tight) ⊎ (chance ≡ Soft)))

plain_gap : {done : List Piece} {bytes : List ℕ} (chance : Chance) (mode : Mode) (level : ℕ) (blank : Bool) → Row done (at_word bytes) → Went chance [] (cond (must_break chance mode) (broken level blank done) (unbroken chance done)) bytes
plain_gap Tight mode level blank row = inr (row, refl, inl refl)
plain_gap Space mode level blank row = inl (spaced_row tt row)
plain_gap {done} {bytes} Soft mode level blank row = by_mode (is_broken mode)
  where
    by_mode : (v : Bool) → Went Soft [] (cond v (broken level blank done) done) bytes
    by_mode true = inl (broken_row level blank tt row)
    by_mode false = inr (row, refl, inr refl)
plain_gap {done} {bytes} Line mode level blank row = inl (either_row (is_broken mode) level blank tt (λ e. tt) row)
plain_gap Hard mode level blank row = inl (broken_row level blank tt row)

plain_start : (chance : Chance) (mode : Mode) (level : ℕ) (blank : Bool) → Row (cond (must_break chance mode) (broken level blank []) (unbroken chance [])) at_start
plain_start Tight mode level blank = no_row
plain_start Space mode level blank = no_row
plain_start Soft mode level blank = nothing_yet (is_broken mode)
plain_start Line mode level blank = nothing_yet (is_broken mode)
plain_start Hard mode level blank = no_row

-- ---- a gap

pub gap_behind : {done : List Piece} {bytes : List ℕ} (gap : Gap) (mode : Mode) (level : ℕ) (notes : List Remark) → AreNotes notes → Row done (at_word bytes) → Went gap.chance notes (lay_gap gap mode level notes done) bytes
gap_behind gap mode level [] each row = plain_gap gap.chance mode level gap.blank row
gap_behind gap mode level (next ∷ notes) each row = inl (word_notes gap level (must_break gap.chance mode) next notes each row)

-- a gap at the start
pub gap_first : (gap : Gap) (mode : Mode) (level : ℕ) (notes : List Remark) → AreNotes notes → Row (lay_gap gap mode level notes []) at_start ⊎ Row (lay_gap gap mode level notes []) at_gap
gap_first gap mode level [] each = inl (plain_start gap.chance mode level gap.blank)
gap_first gap mode level (next ∷ notes) each = inr (first_notes gap level (must_break gap.chance mode) next notes each)

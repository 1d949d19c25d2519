-- The empty lines that are left out, note by note.
use Rattle.std.proofs.Common.{◌≡◌, ℕ, zero, suc, ◌+◌, ◌-◌, ◌<◌, ◌≤◌, Bool, true, false, cond, ltb, leb, ◌||◌, List, [], ◌∷◌, ◌++◌, length, map, reverse, refl, sym, ap, ◌∙◌, arith, append_assoc}
use Rattle.std.proofs.lemmas.Bool.{leb-true, leb-false, ltb-true, ltb-false, lt-ltb, false_from_ne_true}
use Rattle.std.proofs.lemmas.List.{reverse-append}
use Rattle.luf_doc.specs.declared.doc.Remark.{Remark}
use Rattle.luf_gaps.specs.declared.notes.GapNotes.{GapNotes}
use Rattle.luf_style.specs.Filled.{without_blank, unspaced, first_unspaced, breaks_early, start_unspaced}
use Rattle.luf_style.specs.inner.Blanks.{first_break, cleared, is_outside}

-- ---- which notes are meant

pub before_them : (n from count : ℕ) → n < from → is_outside n from count ≡ true
before_them zero zero count low = absurd (omega (arith, low))
before_them zero (suc from) count low = refl
before_them (suc n) zero count low = absurd (omega (arith, low))
before_them (suc n) (suc from) count low = before_them n from count (omega (arith, low))

pub behind_them : (n from count : ℕ) → from + count ≤ n → is_outside n from count ≡ true
behind_them zero zero zero far = refl
behind_them zero zero (suc count) far = absurd (omega (arith, far))
behind_them zero (suc from) count far = absurd (omega (arith, far))
behind_them (suc n) zero zero far = refl
behind_them (suc n) zero (suc count) far = behind_them n zero count (omega (arith, far))
behind_them (suc n) (suc from) count far = behind_them n from count (omega (arith, far))

pub among_them : (n from count : ℕ) → from ≤ n → n < from + count → is_outside n from count ≡ false
among_them zero zero zero high low = absurd (omega (arith, low))
among_them zero zero (suc count) high low = refl
among_them zero (suc from) count high low = absurd (omega (arith, high))
among_them (suc n) zero zero high low = absurd (omega (arith, low))
among_them (suc n) zero (suc count) high low = among_them n zero count (omega arith) (omega (arith, low))
among_them (suc n) (suc from) count high low = among_them n from count (omega (arith, high)) (omega (arith, low))

pub outside_test : (n from count : ℕ) → from ≤ n → leb count (n - from) ≡ is_outside n from count
outside_test n from count high = by (leb count (n - from)) refl
  where
    by : (b : Bool) → leb count (n - from) ≡ b → b ≡ is_outside n from count
    by true is = let far = leb-true count (n - from) is in sym (behind_them n from count (omega (arith, far, high)))
    by false is = let near = leb-false count (n - from) is in sym (among_them n from count high (omega (arith, near, high)))

-- ---- the notes, the last first

-- one note behind others
cleared_last : (from count : ℕ) (notes : List Remark) (note : Remark)
    → cleared from count (notes ++ note ∷ []) ≡ cleared from count notes ++ cond (is_outside (length notes) from count) note (without_blank note) ∷ []
cleared_last zero zero [] note = refl
cleared_last zero (suc count) [] note = refl
cleared_last (suc from) count [] note = refl
cleared_last zero zero (x ∷ notes) note = refl
cleared_last zero (suc count) (x ∷ notes) note = ap (λ (ns : List Remark). without_blank x ∷ ns) (cleared_last zero count notes note)
cleared_last (suc from) count (x ∷ notes) note = ap (λ (ns : List Remark). x ∷ ns) (cleared_last from count notes note)

-- what is left, cleared, and what is told, the last first
pub record Clears (from count : ℕ) (notes left told : List Remark) : Type 0 where
  pub whole : cleared from count left ++ reverse told ≡ cleared from count notes

pub clears_first : (from count : ℕ) (notes told : List Remark) → told ≡ [] → Clears from count notes notes told
clears_first from count notes told none = record { whole = ap (λ (ns : List Remark). cleared from count notes ++ reverse ns) none ∙ append_nothing (cleared from count notes) }
  where
    append_nothing : (ns : List Remark) → ns ++ [] ≡ ns
    append_nothing [] = refl
    append_nothing (n ∷ ns) = ap (λ (ms : List Remark). n ∷ ms) (append_nothing ns)

pub clears_more : (from count : ℕ) (notes left rest told next : List Remark) (note told_one : Remark) → Clears from count notes left told → left ≡ rest ++ note ∷ []
    → (n : ℕ) (whole : Bool) → n ≡ length rest → whole ≡ is_outside n from count → told_one ≡ cond whole note (without_blank note) → next ≡ told ++ told_one ∷ [] → Clears from count notes rest next
clears_more from count notes left rest told next note told_one so_far left_is n whole n_is whole_is one_whole next_is =
    let one_is : told_one ≡ cond (is_outside (length rest) from count) note (without_blank note) =
    one_whole ∙ ap (λ w. cond w note (without_blank note)) (whole_is ∙ ap (λ m. is_outside m from count) n_is) in
    record {
      whole = ap (λ (ns : List Remark). cleared from count rest ++ reverse ns) next_is
          ∙ ap (λ (ns : List Remark). cleared from count rest ++ ns) (reverse-append told (told_one ∷ []))
          ∙ ap (λ (n : Remark). cleared from count rest ++ n ∷ reverse told) one_is
          ∙ sym (append_assoc (cleared from count rest) (cond (is_outside (length rest) from count) note (without_blank note) ∷ []) (reverse told))
          ∙ ap (λ (ns : List Remark). ns ++ reverse told) (sym (cleared_last from count rest note))
          ∙ ap (λ (ns : List Remark). cleared from count ns ++ reverse told) (sym left_is)
          ∙ so_far.whole;
    }

pub clears_end : (from count : ℕ) (notes left told : List Remark) → Clears from count notes left told → left ≡ [] → reverse told ≡ cleared from count notes
clears_end from count notes left told so_far none = ap (λ (ns : List Remark). cleared from count ns ++ reverse told) (sym none) ∙ so_far.whole

-- ---- what is meant by it

cleared_none : (notes : List Remark) → cleared 0 0 notes ≡ notes
cleared_none [] = refl
cleared_none (note ∷ notes) = refl

pub cleared_all : (notes : List Remark) → cleared 0 (length notes) notes ≡ map without_blank notes
cleared_all [] = refl
cleared_all (note ∷ notes) = ap (λ (ns : List Remark). without_blank note ∷ ns) (cleared_all notes)

pub cleared_start : (ends : Bool) (notes : List Remark) → cleared (first_break ends notes) 1 notes ≡ first_unspaced ends notes
cleared_start ends [] = refl
cleared_start ends (note ∷ notes) = by (note.own_line || ends) (cleared_start note.ends_line notes)
  where
    by : (b : Bool) → cleared (first_break note.ends_line notes) 1 notes ≡ first_unspaced note.ends_line notes
        → cleared (cond b 0 (suc (first_break note.ends_line notes))) 1 (note ∷ notes) ≡ cond b (without_blank note ∷ notes) (note ∷ first_unspaced note.ends_line notes)
    by true later = ap (λ (ns : List Remark). without_blank note ∷ ns) (cleared_none notes)
    by false later = ap (λ (ns : List Remark). note ∷ ns) later

both_more : (a b : ℕ) → ltb a b ≡ ltb (suc a) (suc b)
both_more a b = by (ltb a b) refl
  where
    by : (v : Bool) → ltb a b ≡ v → v ≡ ltb (suc a) (suc b)
    by true is = let low = ltb-true a b is in sym (lt-ltb (suc a) (suc b) (omega (arith, low)))
    by false is = let high = ltb-false a b is in sym (false_from_ne_true (ltb (suc a) (suc b)) (λ t. let low = ltb-true (suc a) (suc b) t in omega (arith, low, high)))

pub early_break : (ends : Bool) (notes : List Remark) → breaks_early ends notes ≡ ltb (first_break ends notes) (length notes)
early_break ends [] = refl
early_break ends (note ∷ notes) = by note.own_line ends (early_break note.ends_line notes)
  where
    by : (own e : Bool) → breaks_early note.ends_line notes ≡ ltb (first_break note.ends_line notes) (length notes)
        → (own || e || breaks_early note.ends_line notes) ≡ ltb (cond (own || e) 0 (suc (first_break note.ends_line notes))) (suc (length notes))
    by true e later = sym (lt-ltb 0 (suc (length notes)) (omega arith))
    by false true later = sym (lt-ltb 0 (suc (length notes)) (omega arith))
    by false false later = later ∙ both_more (first_break note.ends_line notes) (length notes)

-- ---- gaps as the program makes them

pub all_told : (gap : GapNotes) (notes : List Remark) (count : ℕ) → count ≡ length gap.notes → notes ≡ cleared 0 count gap.notes → ◌≡◌ {A = GapNotes} (record { notes = notes; blank = false }) (unspaced gap)
all_told gap notes count count_is is =
    let same : notes ≡ map without_blank gap.notes = is ∙ ap (λ n. cleared 0 n gap.notes) count_is ∙ cleared_all gap.notes in
    λ i. record { notes = same i; blank = false }

pub start_told : (gap : GapNotes) (seen notes : List Remark) (first count : ℕ) (blank : Bool) → seen ≡ gap.notes → first ≡ first_break false seen → count ≡ length gap.notes → notes ≡ cleared first 1 gap.notes
    → blank ≡ cond (ltb first count) gap.blank false → ◌≡◌ {A = GapNotes} (record { notes = notes; blank = blank }) (start_unspaced gap)
start_told gap seen notes first count blank seen_is first_is count_is is blank_is =
    let first_there : first ≡ first_break false gap.notes = first_is ∙ ap (first_break false) seen_is in
    let same : notes ≡ first_unspaced false gap.notes = is ∙ ap (λ n. cleared n 1 gap.notes) first_there ∙ cleared_start false gap.notes in
    let told : blank ≡ cond (breaks_early false gap.notes) gap.blank false =
    blank_is ∙ (λ i. cond (ltb (first_there i) (count_is i)) gap.blank false) ∙ ap (λ b. cond b gap.blank false) (sym (early_break false gap.notes)) in
    λ i. record { notes = same i; blank = told i }

-- ---- the first break, as it is looked for

pub record Looks (notes : List Remark) (n : ℕ) (ends : Bool) (left : List Remark) : Type 0 where
  pub count : n + first_break ends left ≡ first_break false notes

pub looks_more : (notes : List Remark) (n : ℕ) (ends : Bool) (left rest : List Remark) (note : Remark) → Looks notes n ends left → left ≡ note ∷ rest → note.own_line ≡ false → ends ≡ false
    → Looks notes (n + 1) note.ends_line rest
looks_more notes n ends left rest note so_far is own none =
    let here : first_break ends left ≡ suc (first_break note.ends_line rest) =
    ap (first_break ends) is ∙ ap (λ o. cond (o || ends) 0 (suc (first_break note.ends_line rest))) own ∙ ap (λ e. cond e 0 (suc (first_break note.ends_line rest))) none in
    let count = so_far.count in
    record { count = omega (arith, here, count) }

pub looks_found : (notes : List Remark) (n : ℕ) (ends : Bool) (left rest : List Remark) (note : Remark) → Looks notes n ends left → left ≡ note ∷ rest → (note.own_line || ends) ≡ true
    → n ≡ first_break false notes
looks_found notes n ends left rest note so_far is breaks =
    let here : first_break ends left ≡ 0 = ap (first_break ends) is ∙ ap (λ b. cond b 0 (suc (first_break note.ends_line rest))) breaks in
    let count = so_far.count in
    omega (arith, here, count)

pub looks_end : (notes : List Remark) (n : ℕ) (ends : Bool) (left : List Remark) → Looks notes n ends left → left ≡ [] → n ≡ first_break false notes
looks_end notes n ends left so_far none =
    let here : first_break ends left ≡ 0 = ap (first_break ends) none in
    let count = so_far.count in
    omega (arith, here, count)

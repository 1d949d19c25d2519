-- The size of a document, as far as it is counted.
use Rattle.std.proofs.Common.{◌≡◌, ℕ, ◌+◌, ◌≤◌, min, Bool, true, false, ◌||◌, cond, List, [], ◌∷◌, refl, sym, ap, ◌∙◌, arith, lit≤}
use Rattle.std.specs.List.{list_any}
use Rattle.luf_doc.specs.declared.doc.Chance.{Chance}
use Rattle.luf_doc.specs.declared.doc.Remark.{Remark}
use Rattle.luf_doc.specs.declared.doc.Gap.{Gap}
use Rattle.luf_doc.specs.declared.size.Size.{Size}
use Rattle.luf_doc.specs.Document.{Document, Documents, text, between, trail, nest, group, sequence, nothing, also}
use Rattle.luf_doc.specs.Flat.{counted, counted_notes, flat_gap, flat, all_flat, is_note_ended, is_ended, any_ended, is_hard, is_forcing, forces, any_forces}
use Rattle.luf_doc.specs.Table.{inside}
use Rattle.luf_doc.specs.Sizes.{size_of, size_of_note, own_size, then}
use Rattle.luf_doc.proofs.FlatLaws.{counted_after, flat_after, one_more, one_note_more}

-- `size` is that of what has been counted of `d`, where the documents `left` are still to be counted
pub record Counts (d : Document) (size : Size) (left : Documents) : Type 0 where
  pub bytes : min (flat d 0) 4294967295 ≡ cond size.ended size.flat (min (size.flat + all_flat left 0) 4294967295)
  pub fits : size.flat ≤ 4294967295
  pub ended : is_ended d ≡ (size.ended || any_ended left)
  pub forced : forces d ≡ (size.forced || any_forces left)

whole_own : (d : Document) (most : ℕ) → min (flat d 0) most ≡ cond (is_ended d) (min (flat d 0) most) (min (min (flat d 0) most + 0) most)
whole_own d most = by (is_ended d) (flat d 0)
  where
    by : (e : Bool) (f : ℕ) → min f most ≡ cond e (min f most) (min (min f most + 0) most)
    by true f = refl
    by false f = omega arith

or_none : (b : Bool) → b ≡ (b || false)
or_none true = refl
or_none false = refl

-- before anything inside is counted
pub counts_own : (d : Document) → Counts d (own_size d) (inside d)
counts_own (text bytes) = record { bytes = whole_own (text bytes) 4294967295; fits = omega arith; ended = or_none (is_ended (text bytes)); forced = refl }
counts_own (between gap) = record { bytes = whole_own (between gap) 4294967295; fits = omega arith; ended = or_none (is_ended (between gap)); forced = or_none (forces (between gap)) }
counts_own trail = record { bytes = refl; fits = omega arith; ended = refl; forced = refl }
counts_own (nest inner) = record { bytes = ap (λ n. min n 4294967295) (omega arith); fits = omega arith; ended = or_none (is_ended inner); forced = or_none (forces inner) }
counts_own (group inner) = record { bytes = ap (λ n. min n 4294967295) (omega arith); fits = omega arith; ended = or_none (is_ended inner); forced = or_none (forces inner) }
counts_own (sequence items) = record { bytes = ap (λ n. min n 4294967295) (omega arith); fits = omega arith; ended = refl; forced = refl }

or_assoc : (a b c : Bool) → (a || (b || c)) ≡ ((a || b) || c)
or_assoc true b c = refl
or_assoc false b c = refl

-- one document more
pub counts_more : (d : Document) (size : Size) (first : Document) (rest : Documents) → Counts d size (also first rest) → Counts d (then size (size_of first)) rest
counts_more d size first rest so_far = record {
  bytes = one_more size.ended (is_ended first) size.flat (flat first 0) (all_flat rest 0) (min (flat d 0) 4294967295) 4294967295
      (so_far.bytes ∙ ap (λ n. cond size.ended size.flat (min (size.flat + n) 4294967295)) (flat_after first (all_flat rest 0)));
  fits = capped size.ended;
  ended = so_far.ended ∙ or_assoc size.ended (is_ended first) (any_ended rest);
  forced = so_far.forced ∙ or_assoc size.forced (forces first) (any_forces rest);
}
  where
    before : size.flat ≤ 4294967295
    before = so_far.fits

    capped : (e : Bool) → cond e size.flat (min (size.flat + min (flat first 0) 4294967295) 4294967295) ≤ 4294967295
    capped true = before
    capped false = omega arith

-- nothing is left
pub counts_whole : (d : Document) (size : Size) → Counts d size nothing → size ≡ size_of d
counts_whole d size so_far = λ i. record { flat = sym (so_far.bytes ∙ whole size.ended) i; ended = sym (so_far.ended ∙ sym (or_none size.ended)) i; forced = sym (so_far.forced ∙ sym (or_none size.forced)) i }
  where
    fits : size.flat ≤ 4294967295
    fits = so_far.fits

    whole : (e : Bool) → cond e size.flat (min (size.flat + 0) 4294967295) ≡ size.flat
    whole true = refl
    whole false = omega (arith, fits)

-- ---- a gap

-- `size` is that of what has been counted of the notes of a gap, where the notes `left` are still to be counted
pub record CountsNotes (chance : Chance) (notes : List Remark) (size : Size) (left : List Remark) : Type 0 where
  pub bytes : min (counted_notes notes 0) 4294967295 ≡ cond size.ended size.flat (min (size.flat + counted_notes left 0) 4294967295)
  pub ended : list_any is_note_ended notes ≡ (size.ended || list_any is_note_ended left)
  pub forced : (is_hard chance || list_any is_forcing notes) ≡ (size.forced || list_any is_forcing left)

abbrev pub blank : Size
blank = record { flat = 1; ended = false; forced = false }

or_over : (a b c : Bool) → (a || (b || c)) ≡ (((a || false) || b) || c)
or_over true b c = refl
or_over false b c = refl

-- one note more
pub counts_note_more : (chance : Chance) (notes : List Remark) (size : Size) (note : Remark) (left : List Remark) → CountsNotes chance notes size (note ∷ left)
    → CountsNotes chance notes (then (then size blank) (size_of_note note)) left
counts_note_more chance notes size note left so_far = record {
  bytes = one_note_more size.ended (is_note_ended note) size.flat (counted note.text 0) (counted_notes left 0) (min (counted_notes notes 0) 4294967295) 4294967295 (lit≤ tt)
      (so_far.bytes ∙ ap (λ n. cond size.ended size.flat (min (size.flat + (1 + n)) 4294967295)) (counted_after note.text (counted_notes left 0)));
  ended = so_far.ended ∙ or_over size.ended (is_note_ended note) (list_any is_note_ended left);
  forced = so_far.forced ∙ or_over size.forced (is_forcing note) (list_any is_forcing left);
}

-- all notes, and the blank behind them
pub counts_notes : (gap : Gap) (first : Remark) (rest : List Remark) (size : Size) → gap.notes ≡ first ∷ rest → CountsNotes gap.chance gap.notes size [] → then size blank ≡ size_of (between gap)
counts_notes gap first rest size notes_are so_far = λ i. record { flat = (whole size.ended ∙ sym so_far.bytes ∙ flat_is) i; ended = sym so_far.ended i; forced = sym so_far.forced i }
  where
    flat_is : min (counted_notes gap.notes 0) 4294967295 ≡ min (flat_gap gap.chance gap.notes 0) 4294967295
    flat_is = ap (λ notes. min (counted_notes notes 0) 4294967295) notes_are ∙ ap (λ notes. min (flat_gap gap.chance notes 0) 4294967295) (sym notes_are)

    whole : (e : Bool) → cond e size.flat (min (size.flat + 1) 4294967295) ≡ cond e size.flat (min (size.flat + (1 + 0)) 4294967295)
    whole true = refl
    whole false = refl

-- One mark more that is measured.
use Rattle.std.proofs.Common.{◌≡◌, ℕ, zero, suc, ◌+◌, ◌-◌, ◌<◌, ◌≤◌, min, Bool, true, false, ◌||◌, cond, ◌⊎◌, inl, inr, List, [], ◌∷◌, get_or, drop, length, map, refl, sym, ap, ◌∙◌, subst, arith}
use Rattle.std.proofs.lemmas.List.{drop_more, get_or-map, length-map}
use Rattle.std.specs.List.{list_any}
use Rattle.luf_doc.specs.declared.doc.Gap.{Gap}
use Rattle.luf_doc.specs.declared.size.Size.{Size}
use Rattle.luf_doc.specs.Document.{text, between}
use Rattle.luf_doc.specs.Flat.{is_line_end, is_hard, is_forcing, is_note_ended, counted, flat_gap as gap_flat, lead_gap}
use Rattle.luf_doc.specs.Sizes.{size_of, then}
use Rattle.luf_doc.proofs.FlatLaws.{counted_after, flat_after}
use Rattle.luf_draft.specs.Draft.{Opening}
use Rattle.luf_draft.specs.Flat.{Flat, flat_word, flat_gap, flat_trail, flat_open, flat_close, shown}
use Rattle.luf_draft.specs.declared.mark.Mark.{Mark}
use Rattle.luf_draft.specs.declared.mark.Mark.TheVariants as mark
use Rattle.luf_draft.specs.declared.mark.Part.{Part}
use Rattle.luf_lex.specs.declared.token.Sign.{Sign}
use Rattle.luf_lex.specs.declared.token.Word.{Word}
use Rattle.luf_style.specs.inner.Running.{text_of}
use Rattle.luf_style.specs.inner.Measured.{Stretch, Measured, Holds, IsMeasured, capped, measured, word_before, gap_before, trail_before, close_before, open_before}
use Rattle.luf_style.specs.inner.Tape.{gap_count, with_gaps}
use Rattle.luf_style.specs.declared.measuring.Measuring.{Measuring}
use Rattle.luf_style.specs.declared.measuring.Stretch.{Stretch as Counted}

-- ---- one part before what is known of a longer one

-- `f` are its bytes, and `e` says that a line end stands in it
sum_capped : (e : Bool) (f n most : ℕ) → cond e (min f most) (min (min f most + min n most) most) ≡ min (cond e f (f + n)) most
sum_capped true f n most = refl
sum_capped false f n most = omega arith

-- `total` are the bytes of both
part_before : (bytes total : ℕ) (ended forced : Bool) (own size : Size) (s : Stretch) (held : Counted) → own ≡ record { flat = min bytes 4294967295; ended = ended; forced = forced }
    → total ≡ cond ended bytes (bytes + s.bytes) → size ≡ then own held.size → held ≡ capped s
    → record { size = size; behind = held.behind } ≡ capped (record { bytes = total; ended = ended || s.ended; forced = forced || s.forced; behind = s.behind })
part_before bytes total ended forced own size s held own_is total_is size_is held_is =
    let size_so : size ≡ then (record { flat = min bytes 4294967295; ended = ended; forced = forced }) (capped s).size = size_is ∙ (λ i. then (own_is i) (held_is i).size) in
    let flat_so : cond ended (min bytes 4294967295) (min (min bytes 4294967295 + min s.bytes 4294967295) 4294967295) ≡ min total 4294967295 = sum_capped ended bytes s.bytes 4294967295 ∙ ap (λ n. min n 4294967295) (sym total_is) in
    (λ i. record { size = size_so i; behind = (held_is i).behind })
    ∙ ap (λ (n : ℕ). record { size = record { flat = n; ended = ended || s.ended; forced = forced || s.forced }; behind = min s.behind 4294967295 }) flat_so

text_lead : (bytes : List ℕ) (size : Size) (lead before n : ℕ) → size ≡ size_of (text bytes) → lead ≡ cond size.ended size.flat (min (size.flat + before) 4294967295)
    → before ≡ min n 4294967295 → lead ≡ min (counted bytes n) 4294967295
text_lead bytes size lead before n size_is lead_is before_is =
    lead_is
    ∙ (λ i. cond (size_is i).ended (size_is i).flat (min ((size_is i).flat + before_is i) 4294967295))
    ∙ sum_capped (list_any is_line_end bytes) (counted bytes 0) n 4294967295
    ∙ ap (λ n. min n 4294967295) (sym (counted_after bytes n))

pub text_step : (bytes : List ℕ) (size now : Size) (lead : ℕ) (m : Measured) (held : Measuring) → size ≡ size_of (text bytes)
    → lead ≡ cond size.ended size.flat (min (size.flat + held.lead) 4294967295) → now ≡ then size held.now.size → Holds m held
    → Holds (word_before bytes m) (record { lead = lead; now = record { size = now; behind = held.now.behind }; outer = held.outer; needs = held.needs })
text_step bytes size now lead m held size_is lead_is now_is is = record {
  lead = text_lead bytes size lead held.lead m.lead size_is lead_is is.lead;
  now = part_before (counted bytes 0) (counted bytes m.now.bytes) (list_any is_line_end bytes) false size now m.now held.now size_is (counted_after bytes m.now.bytes) now_is is.now;
  outer = is.outer;
  needs = is.needs;
}

pub gap_step : (gap : Gap) (size now : Size) (lead : ℕ) (m : Measured) (held : Measuring) → size ≡ size_of (between gap)
    → ((n : ℕ) → held.lead ≡ min n 4294967295 → lead ≡ min (lead_gap gap.chance gap.notes n) 4294967295) → now ≡ then size held.now.size → Holds m held
    → Holds (gap_before gap m) (record { lead = lead; now = record { size = now; behind = held.now.behind }; outer = held.outer; needs = held.needs })
gap_step gap size now lead m held size_is lead_is now_is is = record {
  lead = lead_is m.lead is.lead;
  now = part_before (gap_flat gap.chance gap.notes 0) (gap_flat gap.chance gap.notes m.now.bytes) (list_any is_note_ended gap.notes) (is_hard gap.chance || list_any is_forcing gap.notes)
      size now m.now held.now size_is (flat_after (between gap) m.now.bytes) now_is is.now;
  outer = is.outer;
  needs = is.needs;
}

-- ---- the mark at a place

count_from : (n : ℕ) (flats : List Flat) → gap_count (drop n flats) ≤ gap_count flats
count_from zero flats = omega arith
count_from (suc n) [] = omega arith
count_from (suc n) (flat_word bytes ∷ rest) = count_from n rest
count_from (suc n) (flat_gap opening ∷ rest) = let less = count_from n rest in omega (arith, less)
count_from (suc n) (flat_trail ∷ rest) = count_from n rest
count_from (suc n) (flat_open part ∷ rest) = count_from n rest
count_from (suc n) (flat_close ∷ rest) = count_from n rest

-- a token, a word or a sign
pub word_shown : (written : List (List ℕ)) (m : Mark) → ((k : ℕ) × (m ≡ mark.Token k)) ⊎ (((w : Word) × (m ≡ mark.Word w)) ⊎ ((s : Sign) × (m ≡ mark.Sign s))) → shown written m ≡ flat_word (text_of (shown written m))
word_shown written m (inl k) = subst (λ (n : Mark). shown written n ≡ flat_word (text_of (shown written n))) (sym k.1) refl
word_shown written m (inr (inl w)) = subst (λ (n : Mark). shown written n ≡ flat_word (text_of (shown written n))) (sym w.1) refl
word_shown written m (inr (inr s)) = subst (λ (n : Mark). shown written n ≡ flat_word (text_of (shown written n))) (sym s.1) refl

module _ (written : List (List ℕ)) (marks : List Mark) (n : ℕ) where
  pub mark_at : (what : Flat) → n < length marks → shown written (get_or marks n (mark.Token 0)) ≡ what
      → drop n (map (shown written) marks) ≡ what ∷ drop (n + 1) (map (shown written) marks)
  mark_at what within what_is =
      let long : n < length (map (shown written) marks) = omega (arith, length-map marks (shown written)) in
      drop_more (map (shown written) marks) n what long
      ∙ ap (λ (f : Flat). f ∷ drop (n + 1) (map (shown written) marks)) (get_or-map (shown written) marks n (mark.Token 0) what within ∙ what_is)

  -- where a gap stands, some gap is left
  pub gap_left : (opening : Opening) (gaps : List Gap) (left : ℕ) (held : Measuring) → drop n (map (shown written) marks) ≡ flat_gap opening ∷ drop (n + 1) (map (shown written) marks)
      → gap_count (map (shown written) marks) ≡ length gaps → IsMeasured (drop (n + 1) (map (shown written) marks)) gaps left held → (1 ≤ left) × (left ≤ length gaps)
  gap_left opening gaps left held here count is =
      let most = count_from n (map (shown written) marks) in
      let more : gap_count (drop n (map (shown written) marks)) ≡ 1 + gap_count (drop (n + 1) (map (shown written) marks)) = ap gap_count here in
      let known = is.count in
      (omega (arith, most, more, known, count), omega (arith, known))

-- ---- what is measured, with one mark more

module _ (whole rest : List Flat) (gaps : List Gap) (left : ℕ) (old new : Measuring) where
  pub word_mark : (bytes : List ℕ) → whole ≡ flat_word bytes ∷ rest → IsMeasured rest gaps left old → ((m : Measured) → Holds m old → Holds (word_before bytes m) new) → IsMeasured whole gaps left new
  word_mark bytes here is step = subst (λ (t : List Flat). IsMeasured t gaps left new) (sym here) (record { holds = step (measured (with_gaps rest (drop left gaps))) is.holds; count = is.count })

  pub trail_mark : whole ≡ flat_trail ∷ rest → IsMeasured rest gaps left old → ((m : Measured) → Holds m old → Holds (trail_before m) new) → IsMeasured whole gaps left new
  trail_mark here is step = subst (λ (t : List Flat). IsMeasured t gaps left new) (sym here) (record { holds = step (measured (with_gaps rest (drop left gaps))) is.holds; count = is.count })

  pub open_mark : (part : Part) → whole ≡ flat_open part ∷ rest → IsMeasured rest gaps left old → ((m : Measured) → Holds m old → Holds (open_before part m m.outer) new) → IsMeasured whole gaps left new
  open_mark part here is step = subst (λ (t : List Flat). IsMeasured t gaps left new) (sym here) (record { holds = step (measured (with_gaps rest (drop left gaps))) is.holds; count = is.count })

  pub close_mark : whole ≡ flat_close ∷ rest → IsMeasured rest gaps left old → ((m : Measured) → Holds m old → Holds (close_before m) new) → IsMeasured whole gaps left new
  close_mark here is step = subst (λ (t : List Flat). IsMeasured t gaps left new) (sym here) (record { holds = step (measured (with_gaps rest (drop left gaps))) is.holds; count = is.count })

  pub gap_mark : (opening : Opening) (gap : Gap) → whole ≡ flat_gap opening ∷ rest → (1 ≤ left) × (left ≤ length gaps) → gap ≡ get_or gaps (left - 1) gap → IsMeasured rest gaps left old
      → ((m : Measured) → Holds m old → Holds (gap_before gap m) new) → IsMeasured whole gaps (left - 1) new
  gap_mark opening gap here some gap_is is step =
      let low = some.0 in
      let high = some.1 in
      let less : left - 1 < length gaps = omega (arith, low, high) in
      let back : (left - 1) + 1 ≡ left = omega (arith, low) in
      let left_are : drop (left - 1) gaps ≡ gap ∷ drop left gaps = drop_more gaps (left - 1) gap less ∙ (λ i. sym gap_is i ∷ drop (back i) gaps) in
      let known = is.count in
      let count : 1 + gap_count rest + (left - 1) ≡ length gaps = omega (arith, known, low) in
      subst (λ (t : List Flat). IsMeasured t gaps (left - 1) new) (sym here)
      (record {
        holds = subst (λ (gs : List Gap). Holds (measured (with_gaps (flat_gap opening ∷ rest) gs)) new) (sym left_are) (step (measured (with_gaps rest (drop left gaps))) is.holds);
        count = count;
      })

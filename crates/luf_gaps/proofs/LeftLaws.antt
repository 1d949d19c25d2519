-- The gaps that are left, one token after another.
use Rattle.std.proofs.Common.{◌≡◌, ℕ, zero, suc, ◌+◌, ◌-◌, ◌<◌, ◌≤◌, Bool, true, false, cond, List, [], ◌∷◌, length, drop, get_or, replicate, refl, sym, ap, ◌∙◌, arith}
use Rattle.luf_lex.specs.Tokens.{toks_of}
use Rattle.luf_lex.specs.declared.token.Piece.{Piece}
use Rattle.luf_bare.specs.Significant.{is_among}
use Rattle.luf_gaps.specs.Gaps.{and_before, empty_gap, gaps, gaps_from, next_gap}
use Rattle.luf_gaps.specs.declared.notes.GapNotes.{GapNotes}
use Rattle.luf_gaps.specs.inner.Left.{left_from, left_at}
use Rattle.luf_gaps.specs.inner.Marked.{marked}
use Rattle.luf_gaps.proofs.MaskReads.{mask_length, mask_at}

-- the first of all the gaps, and those that are left
pub record Takes (all : List GapNotes) (gap : GapNotes) (left : List GapNotes) : Type 0 where
  pub first : gap ≡ next_gap all
  pub rest : left ≡ drop 1 all

takes : (all : List GapNotes) (gap : GapNotes) (left : List GapNotes) → gap ∷ left ≡ all → Takes all gap left
takes all gap left is = record { first = ap next_gap is; rest = ap (λ gs. drop 1 gs) is }

module _ (source : List ℕ) (pieces : List Piece) (mask : List Bool) where
  at_token : (n : ℕ) (before : GapNotes) → n < length mask
      → left_from source pieces mask n (suc (length mask) - n) before ≡ cond (get_or mask n false) (left_from source pieces mask (n + 1) (suc (length mask) - (n + 1)) (and_before source pieces n before)) (and_before source pieces n before ∷ left_at source pieces mask (n + 1))
  at_token n before inside =
      let two : suc (length mask) - n ≡ suc (suc (length mask - (n + 1))) = omega (arith, inside) in
      let one : suc (length mask - (n + 1)) ≡ suc (length mask) - (n + 1) = omega (arith, inside) in
      ap (λ k. left_from source pieces mask n k before) two
      ∙ ap (λ k. cond (get_or mask n false) (left_from source pieces mask (n + 1) k (and_before source pieces n before)) (and_before source pieces n before ∷ left_from source pieces mask (n + 1) k empty_gap)) one

  -- a token that is dropped
  pub past_dropped : (n : ℕ) (before gap : GapNotes) (all : List GapNotes) → n < length mask → get_or mask n false ≡ true → gap ≡ and_before source pieces n before
      → left_from source pieces mask n (suc (length mask) - n) before ≡ all → left_from source pieces mask (n + 1) (suc (length mask) - (n + 1)) gap ≡ all
  past_dropped n before gap all inside is_dropped gap_is so_far =
      ap (λ g. left_from source pieces mask (n + 1) (suc (length mask) - (n + 1)) g) gap_is
      ∙ ap (λ b. cond b (left_from source pieces mask (n + 1) (suc (length mask) - (n + 1)) (and_before source pieces n before)) (and_before source pieces n before ∷ left_at source pieces mask (n + 1))) (sym is_dropped)
      ∙ sym (at_token n before inside)
      ∙ so_far

  -- one that is not
  pub at_kept : (n : ℕ) (before gap : GapNotes) (all : List GapNotes) → n < length mask → get_or mask n false ≡ false → gap ≡ and_before source pieces n before
      → left_from source pieces mask n (suc (length mask) - n) before ≡ all → Takes all gap (left_at source pieces mask (n + 1))
  at_kept n before gap all inside is_kept gap_is so_far = takes all gap (left_at source pieces mask (n + 1))
      (ap (λ g. g ∷ left_at source pieces mask (n + 1)) gap_is
      ∙ ap (λ b. cond b (left_from source pieces mask (n + 1) (suc (length mask) - (n + 1)) (and_before source pieces n before)) (and_before source pieces n before ∷ left_at source pieces mask (n + 1))) (sym is_kept)
      ∙ sym (at_token n before inside)
      ∙ so_far)

  -- none is left behind the end
  pub past_end : (n : ℕ) → length mask < n → [] ≡ left_at source pieces mask n
  past_end n behind =
      let none : 0 ≡ suc (length mask) - n = omega (arith, behind) in
      ap (λ k. left_from source pieces mask n k empty_gap) none

  -- ---- how many are left

  some_from : (n places : ℕ) (gap : GapNotes) → 0 < length (left_from source pieces mask n (suc places) gap)
  some_from n zero gap = omega arith
  some_from n (suc places) gap = by_flag (get_or mask n false) _ _ _ (some_from (n + 1) places (and_before source pieces n gap))
    where
      by_flag : (b : Bool) (g : GapNotes) (these those : List GapNotes) → 0 < length these → 0 < length (cond b these (g ∷ those))
      by_flag true g these those some = some
      by_flag false g these those some = omega arith

  none_from : (n places : ℕ) (gap : GapNotes) → left_from source pieces mask n places gap ≡ [] → places ≡ 0
  none_from n zero gap is_none = refl
  none_from n (suc places) gap is_none =
      let some : 0 < length (left_from source pieces mask n (suc places) gap) = some_from n places gap in
      let none : length (left_from source pieces mask n (suc places) gap) ≡ 0 = ap length is_none in
      absurd (omega (arith, some, none))

  pub none_at : (n : ℕ) → left_at source pieces mask n ≡ [] → length mask < n
  none_at n is_none =
      let none : suc (length mask) - n ≡ 0 = none_from n (suc (length mask) - n) empty_gap is_none in
      omega (arith, none)

  most_from : (n places : ℕ) (gap : GapNotes) → length (left_from source pieces mask n places gap) ≤ places
  most_from n zero gap = omega arith
  most_from n (suc zero) gap = omega arith
  most_from n (suc (suc places)) gap = by_flag (get_or mask n false) _ _ _ (most_from (n + 1) (suc places) (and_before source pieces n gap)) (most_from (n + 1) (suc places) empty_gap)
    where
      by_flag : (b : Bool) (g : GapNotes) (these those : List GapNotes) → length these ≤ suc places → length those ≤ suc places → length (cond b these (g ∷ those)) ≤ suc (suc places)
      by_flag true g these those first second = omega (arith, first)
      by_flag false g these those first second = omega (arith, second)

  pub most_left : (n : ℕ) → length (left_at source pieces mask n) ≤ suc (length mask) - n
  most_left n = most_from n (suc (length mask) - n) empty_gap

  -- ---- all of them

  agree : (dropped : List ℕ) (n left : ℕ) (gap : GapNotes) → ((k : ℕ) → k < n + left → get_or mask k false ≡ is_among k dropped)
      → left_from source pieces mask n (suc left) gap ≡ gaps_from source pieces dropped n left gap
  agree dropped n zero gap same = refl
  agree dropped n (suc left) gap same =
      let now : get_or mask n false ≡ is_among n dropped = same n (omega arith) in
      let later : (k : ℕ) → k < (n + 1) + left → get_or mask k false ≡ is_among k dropped = λ k less. same k (omega (arith, less)) in
      let these : left_from source pieces mask (n + 1) (suc left) (and_before source pieces n gap) ≡ gaps_from source pieces dropped (n + 1) left (and_before source pieces n gap) = agree dropped (n + 1) left (and_before source pieces n gap) later in
      let those : left_from source pieces mask (n + 1) (suc left) empty_gap ≡ gaps_from source pieces dropped (n + 1) left empty_gap = agree dropped (n + 1) left empty_gap later in
      λ i. cond (now i) (these i) (and_before source pieces n gap ∷ those i)

  pub all_left : (dropped : List ℕ) (count : ℕ) → count ≡ length (toks_of pieces) → mask ≡ marked dropped (replicate count false) → left_at source pieces mask 0 ≡ gaps source pieces dropped
  all_left dropped count is_count is_mask =
      let long : length mask ≡ count = mask_length dropped count mask is_mask in
      let whole : suc (length mask) - 0 ≡ suc (length (toks_of pieces)) = omega (arith, long, is_count) in
      ap (λ places. left_from source pieces mask 0 places empty_gap) whole
      ∙ agree dropped 0 (length (toks_of pieces)) empty_gap (λ k less. mask_at dropped count k mask is_mask (omega (arith, less, is_count)))

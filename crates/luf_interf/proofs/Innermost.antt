-- The label that is seen at a place, by its number.
use Rattle.std.proofs.Common.{◌≡◌, ℕ, zero, suc, ◌+◌, Bool, true, false, cond, Option, Some, None, List, [], ◌∷◌, slice_get, nat_lt, refl, ap, subst, ◌∙◌, arith}
use Rattle.std.proofs.lemmas.Option.{none-some, same_Some}
use Rattle.std.proofs.lemmas.Bool.{cond-true, cond-false, cond_both}
use Rattle.luf_scope.specs.Jump.{LabelAt, inner, innermost}

module _ (seen : LabelAt → Bool) where
  -- it is one that is seen
  pub record IsSeenAt (i : ℕ) (labels : List LabelAt) (x : ℕ × LabelAt) : Type 0 where
    pub place : ℕ
    pub number : x.0 ≡ i + place
    pub there : slice_get labels place ≡ Some x.1
    pub passes : seen x.1 ≡ true

  abbrev SeenOption : ℕ → List LabelAt → Option (ℕ × LabelAt) → Type 0
  SeenOption i labels None = Unit {0}
  SeenOption i labels (Some x) = IsSeenAt i labels x

  later_seen : (i : ℕ) (l : LabelAt) (labels : List LabelAt) (x : ℕ × LabelAt) → IsSeenAt (i + 1) labels x → IsSeenAt i (l ∷ labels) x
  later_seen i l labels x s = let number = s.number in record { place = suc s.place; number = omega (arith, number); there = s.there; passes = s.passes }

  first_seen : (i : ℕ) (l : LabelAt) (labels : List LabelAt) → seen l ≡ true → IsSeenAt i (l ∷ labels) (i, l)
  first_seen i l labels is = record { place = 0; number = omega arith; there = refl; passes = is }

  seen_more : (i : ℕ) (l : LabelAt) (labels : List LabelAt) (b : Bool) (o : Option (ℕ × LabelAt)) → seen l ≡ b → SeenOption (i + 1) labels o → SeenOption i (l ∷ labels) (cond b (Some (inner i l o)) o)
  seen_more i l labels true None is rest = first_seen i l labels is
  seen_more i l labels true (Some x) is rest = cond_both (nat_lt l.from x.1.from) x (i, l) (IsSeenAt i (l ∷ labels)) (λ _. later_seen i l labels x rest) (λ _. first_seen i l labels is)
  seen_more i l labels false None is rest = tt
  seen_more i l labels false (Some x) is rest = later_seen i l labels x rest

  seen_option : (i : ℕ) (labels : List LabelAt) → SeenOption i labels (innermost seen i labels)
  seen_option i [] = tt
  seen_option i (l ∷ labels) = seen_more i l labels (seen l) (innermost seen (i + 1) labels) refl (seen_option (i + 1) labels)

  pub innermost_seen : (labels : List LabelAt) (n : ℕ) (l : LabelAt) → innermost seen 0 labels ≡ Some (n, l) → (slice_get labels n ≡ Some l) × (seen l ≡ true)
  innermost_seen labels n l is =
      let s : IsSeenAt 0 labels (n, l) = subst (SeenOption 0 labels) is (seen_option 0 labels) in
      let number = s.number in
      let same : n ≡ s.place = omega (arith, number) in
      (ap (slice_get labels) same ∙ s.there, s.passes)

  innermost_none : (i : ℕ) (labels : List LabelAt) → ((m : ℕ) (k : LabelAt) → slice_get labels m ≡ Some k → seen k ≡ false) → innermost seen i labels ≡ None
  innermost_none i [] none = refl
  innermost_none i (l ∷ labels) none =
      cond-false (seen l) (Some (inner i l (innermost seen (i + 1) labels))) (innermost seen (i + 1) labels) (none 0 l refl) ∙ innermost_none (i + 1) labels (λ m k found. none (suc m) k found)

  -- the only one that is seen is the innermost
  pub innermost_alone : (i : ℕ) (labels : List LabelAt) (n : ℕ) (l : LabelAt) → slice_get labels n ≡ Some l → seen l ≡ true → ((m : ℕ) (k : LabelAt) → slice_get labels m ≡ Some k → (m ≡ n → ⊥) → seen k ≡ false) → innermost seen i labels ≡ Some (i + n, l)
  innermost_alone i [] n l at is others = absurd (none-some _ at)
  innermost_alone i (k ∷ labels) zero l at is others =
      let same : k ≡ l = same_Some _ _ at in
      let one : i ≡ i + 0 = omega arith in
      cond-true (seen k) (Some (inner i k (innermost seen (i + 1) labels))) (innermost seen (i + 1) labels) (ap seen same ∙ is)
      ∙ ap (λ o. Some (inner i k o)) (innermost_none (i + 1) labels (λ m j found. others (suc m) j found (λ e. omega (arith, e))))
      ∙ (λ t. Some (one t, same t))
  innermost_alone i (k ∷ labels) (suc n) l at is others =
      let one : i + 1 + n ≡ i + suc n = omega arith in
      cond-false (seen k) (Some (inner i k (innermost seen (i + 1) labels))) (innermost seen (i + 1) labels) (others 0 k refl (λ e. omega (arith, e)))
      ∙ innermost_alone (i + 1) labels n l at is (λ m j found differs. others (suc m) j found (λ e. differs (omega (arith, e))))
      ∙ (λ t. Some (one t, l))

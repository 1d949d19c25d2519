-- The label that a goto goes to, by its places in the list.
use Rattle.std.proofs.Common.{◌≡◌, ℕ, ◌+◌, ◌<◌, ◌≤◌, ◌⊎◌, Bool, true, false, nat_lt, List, [], ◌∷◌, Option, Some, None, length, get_or, zero, suc, add-zero, refl, sym, ◌∙◌, subst, inl, inr, ⊎_elim, arith}
use Rattle.std.proofs.lemmas.Bool.{false≢true, cases_Bool, cases_lt, cond-true, cond-false, lt-ltb, le-ltb}
use Rattle.luf_scope.specs.Jump.{LabelAt, inner, innermost}

abbrev pub Choice : Type 0
Choice = Option (ℕ × LabelAt)

-- what the choice among labels that are numbered from m on says
abbrev pub IsChosen : (LabelAt → Bool) → ℕ → List LabelAt → Choice → Type 0
IsChosen seen m labels None = (i : ℕ) (d : LabelAt) → i < length labels → seen (get_or labels i d) ≡ false
IsChosen seen m labels (Some (n, l)) =
    (u : ℕ) × (n ≡ m + u) × (u < length labels) × ((d : LabelAt) → l ≡ get_or labels u d) × (seen l ≡ true)
    × ((i : ℕ) (d : LabelAt) → i < length labels → seen (get_or labels i d) ≡ true → ((get_or labels i d).from < l.from) ⊎ (((get_or labels i d).from ≡ l.from) × (u ≤ i)))

module _ (seen : LabelAt → Bool) where
  -- a label that is not seen, before the others
  passed : (m : ℕ) (l : LabelAt) (labels : List LabelAt) (o : Choice) → seen l ≡ false → IsChosen seen (m + 1) labels o → IsChosen seen m (l ∷ labels) o
  passed m l labels None no_way none = λ i d. elim i as (λ i. i < length (l ∷ labels) → seen (get_or (l ∷ labels) i d) ≡ false) [ zero ↦ λ h. no_way | suc i ↦ λ h. none i d (omega arith) ]
  passed m l labels (Some (n, k)) no_way (u, is, inside, at, here, most) = (
    suc u,
    omega arith,
    omega arith,
    at,
    here,
    (λ i d. elim i as (λ i. i < length (l ∷ labels) → seen (get_or (l ∷ labels) i d) ≡ true → ((get_or (l ∷ labels) i d).from < k.from) ⊎ (((get_or (l ∷ labels) i d).from ≡ k.from) × (suc u ≤ i))) [
      | zero ↦ λ h s. absurd (false≢true (sym no_way ∙ s))
      | suc i ↦ λ h s. ⊎_elim inl (λ (e : ((get_or labels i d).from ≡ k.from) × (u ≤ i)). inr (e.0, omega (arith, e.1))) (most i d (omega arith) s)
    ]),
  )

  -- one that is seen, before those of which none is
  first_seen : (m : ℕ) (l : LabelAt) (labels : List LabelAt) → seen l ≡ true → IsChosen seen (m + 1) labels None → IsChosen seen m (l ∷ labels) (Some (m, l))
  first_seen m l labels here none = (
    0,
    sym (add-zero m),
    omega arith,
    (λ d. refl),
    here,
    (λ i d. elim i as (λ i. i < length (l ∷ labels) → seen (get_or (l ∷ labels) i d) ≡ true → ((get_or (l ∷ labels) i d).from < l.from) ⊎ (((get_or (l ∷ labels) i d).from ≡ l.from) × (0 ≤ i))) [
      | zero ↦ λ h s. inr (refl, omega arith)
      | suc i ↦ λ h s. absurd (false≢true (sym (none i d (omega arith)) ∙ s))
    ]),
  )

  -- or before another choice, which begins later or not
  kept : (m : ℕ) (l : LabelAt) (labels : List LabelAt) (n : ℕ) (k : LabelAt) → seen l ≡ true → l.from < k.from → IsChosen seen (m + 1) labels (Some (n, k)) → IsChosen seen m (l ∷ labels) (Some (n, k))
  kept m l labels n k here less (u, is, inside, at, there, most) = (
    suc u,
    omega arith,
    omega arith,
    at,
    there,
    (λ i d. elim i as (λ i. i < length (l ∷ labels) → seen (get_or (l ∷ labels) i d) ≡ true → ((get_or (l ∷ labels) i d).from < k.from) ⊎ (((get_or (l ∷ labels) i d).from ≡ k.from) × (suc u ≤ i))) [
      | zero ↦ λ h s. inl less
      | suc i ↦ λ h s. ⊎_elim inl (λ (e : ((get_or labels i d).from ≡ k.from) × (u ≤ i)). inr (e.0, omega (arith, e.1))) (most i d (omega arith) s)
    ]),
  )

  taken : (m : ℕ) (l : LabelAt) (labels : List LabelAt) (n : ℕ) (k : LabelAt) → seen l ≡ true → k.from ≤ l.from → IsChosen seen (m + 1) labels (Some (n, k)) → IsChosen seen m (l ∷ labels) (Some (m, l))
  taken m l labels n k here more (u, is, inside, at, there, most) = (
    0,
    sym (add-zero m),
    omega arith,
    (λ d. refl),
    here,
    (λ i d. elim i as (λ i. i < length (l ∷ labels) → seen (get_or (l ∷ labels) i d) ≡ true → ((get_or (l ∷ labels) i d).from < l.from) ⊎ (((get_or (l ∷ labels) i d).from ≡ l.from) × (0 ≤ i))) [
      | zero ↦ λ h s. inr (refl, omega arith)
      | suc i ↦ λ h s. below i d (most i d (omega arith) s)
    ]),
  )
    where
      below : (i : ℕ) (d : LabelAt) → ((get_or labels i d).from < k.from) ⊎ (((get_or labels i d).from ≡ k.from) × (u ≤ i)) → ((get_or labels i d).from < l.from) ⊎ (((get_or labels i d).from ≡ l.from) × (0 ≤ suc i))
      below i d (inl less) = inl (omega arith)
      below i d (inr e) = elim (cases_lt (get_or labels i d).from l.from) [ inl less ↦ inl less | inr no_less ↦ inr (omega (arith, e.0), omega arith) ]

  in_front : (m : ℕ) (l : LabelAt) (labels : List LabelAt) (o : Choice) → seen l ≡ true → IsChosen seen (m + 1) labels o → IsChosen seen m (l ∷ labels) (Some (inner m l o))
  in_front m l labels None here none = first_seen m l labels here none
  in_front m l labels (Some (n, k)) here chosen = elim (cases_lt l.from k.from) [
    | inl less ↦ subst (λ x. IsChosen seen m (l ∷ labels) (Some x)) (sym (cond-true (nat_lt l.from k.from) (n, k) (m, l) (lt-ltb l.from k.from less))) (kept m l labels n k here less chosen)
    | inr more ↦ subst (λ x. IsChosen seen m (l ∷ labels) (Some x)) (sym (cond-false (nat_lt l.from k.from) (n, k) (m, l) (le-ltb l.from k.from more))) (taken m l labels n k here more chosen)
  ]

  pub innermost_chosen : (m : ℕ) (labels : List LabelAt) → IsChosen seen m labels (innermost seen m labels)
  innermost_chosen m [] = λ i d h. absurd (omega arith)
  innermost_chosen m (l ∷ labels) = elim (cases_Bool (seen l)) [
    | inl here ↦ subst (IsChosen seen m (l ∷ labels)) (sym (cond-true (seen l) _ _ here)) (in_front m l labels (innermost seen (m + 1) labels) here (innermost_chosen (m + 1) labels))
    | inr no_way ↦ subst (IsChosen seen m (l ∷ labels)) (sym (cond-false (seen l) _ _ no_way)) (passed m l labels (innermost seen (m + 1) labels) no_way (innermost_chosen (m + 1) labels))
  ]

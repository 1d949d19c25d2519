-- Scopes in the order in which they begin.
use Rattle.std.proofs.Common.{◌≡◌, ℕ, zero, suc, ◌+◌, ◌-◌, ◌<◌, ◌≤◌, ◌⊎◌, inl, inr, nat_eq, List, length, get_or, ◌∙◌, subst, ⊎_elim, arith, AllPairs}
use Rattle.std.specs.List.Sorted.{IsSortedByKey, IsStableByKey, IsPermutation}
use Rattle.std.specs.Ordering.{nat_cmp}
use Rattle.std.proofs.lemmas.Bool.{cases_lt, eqb-false, ne_eqb}
use Rattle.std.proofs.lemmas.Bool.Decides.{nat_tests}
use Rattle.std.proofs.lemmas.List.Sorted.{IsNonDecreasingBy-from_sort, ties_still_rise}
use Rattle.std.proofs.lemmas.Map.Keys.{apart_from_distinct, IsDistinct-from_apart, IsDistinct-IsPermutation}
use Rattle.luf_interf.specs.declared.uses.Scope.{Scope}
use Rattle.luf_interf.specs.inner.Owners.{Begins}

-- begins before, or with it and is numbered no higher
NoLater : Scope → Scope → Type 0
NoLater s t = (s.from < t.from) ⊎ ((s.from ≡ t.from) × (s.local ≤ t.local))

no_later_both : (s t u : Scope) → NoLater s t → NoLater t u → NoLater s u
unfolding NoLater
no_later_both s t u (inl a) (inl b) = inl (omega arith)
no_later_both s t u (inl a) (inr b) = inl (omega (arith, b.0))
no_later_both s t u (inr a) (inl b) = inl (omega (arith, a.0))
no_later_both s t u (inr a) (inr b) = inr (a.0 ∙ b.0, omega (arith, a.1, b.1))

no_later_by : (s t : Scope) → s.from ≤ t.from → (s.from ≡ t.from → s.local ≤ t.local) → NoLater s t
unfolding NoLater
no_later_by s t le tie = elim (cases_lt s.from t.from) [
  | inl less ↦ inl less
  | inr not_less ↦ let same : s.from ≡ t.from = omega arith in inr (same, tie same)
]

far : (ys : List Scope) → ((k : ℕ) (d : Scope) → k + 1 < length ys → NoLater (get_or ys k d) (get_or ys (k + 1) d)) → (n i : ℕ) (d : Scope) → i + n + 1 < length ys → NoLater (get_or ys i d) (get_or ys (i + n + 1) d)
far ys next zero i d inside = subst (λ j. NoLater (get_or ys i d) (get_or ys j d)) (let e : i + 1 ≡ i + zero + 1 = omega arith in e) (next i d (omega arith))
far ys next (suc n) i d inside =
    let e : i + n + 1 + 1 ≡ i + suc n + 1 = omega arith in
    subst (λ j. NoLater (get_or ys i d) (get_or ys j d)) e
    (no_later_both (get_or ys i d) (get_or ys (i + n + 1) d) (get_or ys (i + n + 1 + 1) d) (far ys next n i d (omega arith)) (next (i + n + 1) d (omega arith)))

begins_apart : (s t : Scope) → NoLater s t → (s.local ≡ t.local → ⊥) → Begins s t
unfolding NoLater
begins_apart s t (inl less) apart = inl less
begins_apart s t (inr tie) apart = let most = tie.1 in inr (tie.0, ⊎_elim (λ less. less) (λ high. absurd (apart (omega (arith, most, high)))) (cases_lt s.local t.local))

pub begins_all : (xs ys : List Scope) → AllPairs (λ s t. s.local < t.local) xs → IsPermutation xs ys → IsSortedByKey (λ s. s.from) nat_cmp ys → IsStableByKey (λ s. s.from) nat_cmp xs ys → AllPairs Begins ys
begins_all xs ys rising permutation sorted stable i j d less inside =
    let e : i + (j - i - 1) + 1 ≡ j = omega arith in
    begins_apart (get_or ys i d) (get_or ys j d) (subst (λ n. NoLater (get_or ys i d) (get_or ys n d)) e (far ys next (j - i - 1) i d (omega arith)))
    (eqb-false (get_or ys i d).local (get_or ys j d).local (apart_from_distinct (λ s t. nat_eq s.local t.local) ys i j d
    (IsDistinct-IsPermutation (λ s t. nat_eq s.local t.local) (λ s t. grind (arith, nat_tests)) xs ys permutation
    (IsDistinct-from_apart (λ s t. nat_eq s.local t.local) xs (λ k m f below within. let order = rising k m f below within in ne_eqb (get_or xs k f).local (get_or xs m f).local (λ same. omega (arith, order, same))))) less inside))
  where
    in_turn : IsSortedByKey (λ s. s.local) nat_cmp xs
    in_turn k d low high = let order = rising k (k + 1) d (omega arith) high in grind (arith, nat_tests)

    next : (k : ℕ) (d : Scope) → k + 1 < length ys → NoLater (get_or ys k d) (get_or ys (k + 1) d)
    next k d high = no_later_by (get_or ys k d) (get_or ys (k + 1) d) (IsNonDecreasingBy-from_sort (λ s. s.from) ys sorted k (k + 1) d (omega arith) high) (ties_still_rise (λ s. s.local) (λ s. s.from) xs ys in_turn stable k d high)

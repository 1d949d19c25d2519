-- Scopes in the order in which they begin.
use Rattle.std.proofs.Common.{◌≡◌, ℕ, zero, suc, ◌+◌, ◌-◌, ◌<◌, ◌≤◌, inl, inr, List, length, get_or, ◌∙◌, subst, arith, AllPairs}
use Rattle.std.specs.List.Sorted.{IsSortedByKey, IsStableByKey}
use Rattle.std.specs.Ordering.{nat_cmp}
use Rattle.std.proofs.lemmas.Bool.{cases_lt}
use Rattle.std.proofs.lemmas.Bool.Decides.{nat_tests}
use Rattle.std.proofs.lemmas.List.Sorted.{IsNonDecreasingBy-from_sort, ties_still_rise}
use Rattle.luf_scope.specs.declared.scopes.Scope.{Scope}
use Rattle.luf_scope.specs.inner.Scopes.{Begins}

begins_both : (s t u : Scope) → Begins s t → Begins t u → Begins s u
begins_both s t u (inl a) (inl b) = inl (omega arith)
begins_both s t u (inl a) (inr b) = inl (omega (arith, b.0))
begins_both s t u (inr a) (inl b) = inl (omega (arith, a.0))
begins_both s t u (inr a) (inr b) = inr (a.0 ∙ b.0, omega (arith, a.1, b.1))

begins_by : (s t : Scope) → s.from ≤ t.from → (s.from ≡ t.from → s.local ≤ t.local) → Begins s t
begins_by s t le tie = elim (cases_lt s.from t.from) [
  | inl less ↦ inl less
  | inr not_less ↦ let same : s.from ≡ t.from = omega arith in inr (same, tie same)
]

far : (ys : List Scope) → ((k : ℕ) (d : Scope) → k + 1 < length ys → Begins (get_or ys k d) (get_or ys (k + 1) d)) → (n i : ℕ) (d : Scope) → i + n + 1 < length ys → Begins (get_or ys i d) (get_or ys (i + n + 1) d)
far ys next zero i d inside = subst (λ j. Begins (get_or ys i d) (get_or ys j d)) (let e : i + 1 ≡ i + zero + 1 = omega arith in e) (next i d (omega arith))
far ys next (suc n) i d inside =
    let e : i + n + 1 + 1 ≡ i + suc n + 1 = omega arith in
    subst (λ j. Begins (get_or ys i d) (get_or ys j d)) e
    (begins_both (get_or ys i d) (get_or ys (i + n + 1) d) (get_or ys (i + n + 1 + 1) d) (far ys next n i d (omega arith)) (next (i + n + 1) d (omega arith)))

pub begins_all : (xs ys : List Scope) → ((i : ℕ) (d : Scope) → i < length xs → (get_or xs i d).local ≡ i) → IsSortedByKey (λ s. s.from) nat_cmp ys → IsStableByKey (λ s. s.from) nat_cmp xs ys → AllPairs Begins ys
begins_all xs ys numbered sorted stable i j d less inside =
    let e : i + (j - i - 1) + 1 ≡ j = omega arith in
    subst (λ n. Begins (get_or ys i d) (get_or ys n d)) e (far ys next (j - i - 1) i d (omega arith))
  where
    in_turn : IsSortedByKey (λ s. s.local) nat_cmp xs
    in_turn k d low high = let a : (get_or xs k d).local ≡ k = numbered k d (omega arith) in let b : (get_or xs (k + 1) d).local ≡ k + 1 = numbered (k + 1) d high in grind (arith, nat_tests)

    next : (k : ℕ) (d : Scope) → k + 1 < length ys → Begins (get_or ys k d) (get_or ys (k + 1) d)
    next k d high = begins_by (get_or ys k d) (get_or ys (k + 1) d) (IsNonDecreasingBy-from_sort (λ s. s.from) ys sorted k (k + 1) d (omega arith) high) (ties_still_rise (λ s. s.local) (λ s. s.from) xs ys in_turn stable k d high)

-- The last scope that passes is the same in the order of the variables and in that in which the scopes begin.
use Rattle.std.proofs.Common.{◌≡◌, ℕ, zero, suc, ◌<◌, ◌≤◌, ◌⊎◌, inl, inr, Bool, true, false, cond, Option, Some, None, List, [], ◌∷◌, length, get_or, refl, sym, ap, ◌∙◌, subst, arith, All, AllPairs, Contains}
use Rattle.std.specs.List.Sorted.{IsPermutation}
use Rattle.std.specs.Option.{option_or, option_map}
use Rattle.std.proofs.lemmas.Bool.{cases_lt}
use Rattle.std.proofs.lemmas.Bool.Decides.{nat_tests}
use Rattle.std.proofs.lemmas.List.Elements.{All-cons, All-nil, All-contains, All-contains_itself}
use Rattle.std.proofs.lemmas.List.Sorted.{IsPermutation-sym, Contains-permutation}
use Rattle.luf_scope.specs.Local.{LocalVariable}
use Rattle.luf_scope.specs.declared.scopes.Scope.{Scope}
use Rattle.luf_scope.specs.inner.Last.{last_such}
use Rattle.luf_scope.specs.inner.Scopes.{Begins, AreInOrder, is_meant}
use Rattle.luf_scope.proofs.Mapped.{pair_at}
use Rattle.luf_scope.proofs.Marked.{pairs_head, pairs_tail}

-- ---- the last that passes, by the numbers of the variables

last_cases : (r : Option Scope) (x y : Scope) (b : Bool) → option_or r (cond b (Some x) None) ≡ Some y → (r ≡ Some y) ⊎ ((r ≡ None) × (b ≡ true) × (x ≡ y))
last_cases (Some z) x y b is = inl is
last_cases None x y true is = let same : x ≡ y = cc in inr (refl, refl, same)
last_cases None x y false is = absurd cc

none_cases : (r : Option Scope) (x : Scope) (b : Bool) → option_or r (cond b (Some x) None) ≡ None → (r ≡ None) × (b ≡ false)
none_cases (Some z) x b is = absurd cc
none_cases None x true is = absurd cc
none_cases None x false is = (refl, refl)

none_passes : (test : Scope → Bool) (xs : List Scope) → last_such test xs ≡ None → All (λ s. test s ≡ false) xs
none_passes test [] is = All-nil (λ s. test s ≡ false)
none_passes test (x ∷ xs) is = let h = none_cases (last_such test xs) x (test x) is in All-cons (λ s. test s ≡ false) x xs h.1 (none_passes test xs h.0)

-- it is in the list, passes, and of those that pass none has a greater number
record IsLast (test : Scope → Bool) (xs : List Scope) (y : Scope) : Type 0 where
  among : Contains xs y
  passes : test y ≡ true
  greatest : All (λ s. test s ≡ true → s.local ≤ y.local) xs

abbrev pub Rise : (Scope → Bool) → Scope → Scope → Type 0
Rise test s t = test s ≡ true → test t ≡ true → s.local ≤ t.local

one_later : (x : Scope) (xs : List Scope) (y : Scope) → Contains xs y → Contains (x ∷ xs) y
one_later x xs y (k, inside, at) = (suc k, omega arith, at)

is_first : (x : Scope) (xs : List Scope) (y : Scope) → x ≡ y → Contains (x ∷ xs) y
is_first x xs y same = (zero, omega arith, same)

last_is : (test : Scope → Bool) (xs : List Scope) (y : Scope) → AllPairs (Rise test) xs → last_such test xs ≡ Some y → IsLast test xs y
last_is test [] y rise is = absurd cc
last_is test (x ∷ xs) y rise is = elim (last_cases (last_such test xs) x y (test x) is) [
  | inl rest ↦ let h = last_is test xs y (pairs_tail (Rise test) x xs rise) rest in record {
    among = one_later x xs y h.among;
    passes = h.passes;
    greatest = All-cons (λ s. test s ≡ true → s.local ≤ y.local) x xs (λ here. All-contains (Rise test x) xs y (pairs_head (Rise test) x xs rise) h.among here h.passes) h.greatest;
  }
  | inr here ↦ record {
    among = is_first x xs y here.2;
    passes = ap test (sym here.2) ∙ here.1;
    greatest = All-cons (λ s. test s ≡ true → s.local ≤ y.local) x xs (λ t. omega (arith, ap (λ (s : Scope). s.local) here.2))
        (λ j d inside t. absurd (no_yes (test (get_or xs j d)) (none_passes test xs here.0 j d inside) t));
  }
]
  where
    no_yes : (b : Bool) → b ≡ false → b ≡ true → ⊥
    no_yes true f t = cc
    no_yes false f t = cc

-- two lists of the same scopes, in both of which the numbers of those that pass rise
pub same_last : (test : Scope → Bool) (xs ys : List Scope) → IsPermutation xs ys → AllPairs (Rise test) xs → AllPairs (Rise test) ys → option_map (λ s. s.local) (last_such test ys) ≡ option_map (λ s. s.local) (last_such test xs)
same_last test xs ys moved up up' = decide (last_such test ys) (last_such test xs) refl refl
  where
    no_yes : (b : Bool) → b ≡ false → b ≡ true → ⊥
    no_yes true f t = cc
    no_yes false f t = cc

    decide : (r s : Option Scope) → last_such test ys ≡ r → last_such test xs ≡ s → option_map (λ t. t.local) r ≡ option_map (λ t. t.local) s
    decide None None r s = refl
    decide (Some y) None r s = let h = last_is test ys y up' r in absurd (no_yes (test y) (All-contains (λ t. test t ≡ false) xs y (none_passes test xs s) (Contains-permutation ys xs y (IsPermutation-sym xs ys moved) h.among)) h.passes)
    decide None (Some x) r s = let h = last_is test xs x up s in absurd (no_yes (test x) (All-contains (λ t. test t ≡ false) ys x (none_passes test ys r) (Contains-permutation xs ys x moved h.among)) h.passes)
    decide (Some y) (Some x) r s =
        let h = last_is test ys y up' r in
        let k = last_is test xs x up s in
        let below : y.local ≤ x.local = All-contains (λ t. test t ≡ true → t.local ≤ x.local) xs y k.greatest (Contains-permutation ys xs y (IsPermutation-sym xs ys moved) h.among) h.passes in
        let above : x.local ≤ y.local = All-contains (λ t. test t ≡ true → t.local ≤ y.local) ys x h.greatest (Contains-permutation xs ys x moved k.among) k.passes in
        let same : y.local ≡ x.local = omega arith in
        ap Some same

-- ---- scopes by their numbers

-- the later one ends before the earlier begins, if it begins before it
abbrev pub Nested : Scope → Scope → Type 0
Nested s t = t.from < s.from → t.to ≤ s.from

abbrev pub LocalsNested : LocalVariable → LocalVariable → Type 0
LocalsNested u v = v.from < u.from → v.to ≤ u.from

module _ (scopes : List Scope) (numbered : (i : ℕ) (d : Scope) → i < length scopes → (get_or scopes i d).local ≡ i) (nested : AllPairs Nested scopes) where
  pub rise_here : (test : Scope → Bool) → AllPairs (Rise test) scopes
  rise_here test i j d less inside a b = omega (arith, numbered i d (omega arith), numbered j d inside)

  active_nested : (p : ℕ) (s t : Scope) → s.from ≤ p → p < s.to → t.from ≤ p → Contains scopes s → Contains scopes t → Begins s t → t.local < s.local → ⊥
  active_nested p s t s_from s_to t_from (k, k_in, k_at) (m, m_in, m_at) (inr tie) less = omega (arith, tie.1)
  active_nested p s t s_from s_to t_from (k, k_in, k_at) (m, m_in, m_at) (inl before) less =
      let s_is : s.local ≡ k = ap (λ (u : Scope). u.local) (sym k_at) ∙ numbered k s k_in in
      let t_is : t.local ≡ m = ap (λ (u : Scope). u.local) (sym m_at) ∙ numbered m t m_in in
      let pair : Nested (get_or scopes m t) (get_or scopes k s) = pair_at Nested scopes m k t s nested (omega arith) k_in in
      let at : Nested t s = subst (λ u. Nested u s) m_at (subst (λ u. Nested (get_or scopes m t) u) k_at pair) in
      omega (arith, at before)

  meant_facts : (k p : ℕ) (s : Scope) → is_meant k p s ≡ true → (s.from ≤ p) × (p < s.to)
  meant_facts k p s is = (grind (arith, nat_tests), grind (arith, nat_tests))

  pub rise_there : (k p : ℕ) (sorted : List Scope) → AreInOrder scopes sorted → AllPairs (Rise (is_meant k p)) sorted
  rise_there k p sorted order i j d less inside a b =
      let s = get_or sorted i d in
      let t = get_or sorted j d in
      let s_meant = meant_facts k p s a in
      let t_meant = meant_facts k p t b in
      let back = IsPermutation-sym scopes sorted order.permutation in
      elim (cases_lt t.local s.local) [
        | inl lower ↦ absurd (active_nested p s t s_meant.0 s_meant.1 t_meant.0 (Contains-permutation sorted scopes s back (contained sorted i d (omega arith))) (Contains-permutation sorted scopes t back (contained sorted j d inside)) (order.order i j d less inside) lower)
        | inr no_lower ↦ no_lower
      ]
    where
      contained : (xs : List Scope) (i : ℕ) (d : Scope) → i < length xs → Contains xs (get_or xs i d)
      contained xs i d inside = All-contains_itself xs i d inside

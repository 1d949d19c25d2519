-- What a binary search finds among marks whose tokens rise.
use Rattle.std.proofs.Common.{◌≡◌, ℕ, zero, suc, ◌<◌, ◌≤◌, ◌≢◌, Bool, true, false, cond, nat_eq, Some, None, Ok, Err, List, [], ◌∷◌, length, get_or, refl, inl, inr, sym, ap, ◌∙◌, subst, arith, All, AllPairs}
use Rattle.std.specs.List.Sorted.{IsBinarySearchResult, IsNonDecreasingBy}
use Rattle.std.specs.Ordering.{nat_cmp, ordering_index}
use Rattle.std.proofs.lemmas.Cmp.{ranked}
use Rattle.std.proofs.lemmas.Bool.{cases_lt}
use Rattle.std.proofs.lemmas.Bool.Decides.{nat_tests}
use Rattle.luf_scope.specs.Marks.{mark_at, AreRising}

pub pairs_tail : {A : Type 0} (R : A → A → Type 0) (x : A) (xs : List A) → AllPairs R (x ∷ xs) → AllPairs R xs
pairs_tail R x xs pairs i j d lt inside = pairs (suc i) (suc j) d (omega arith) (omega arith)

pub pairs_head : {A : Type 0} (R : A → A → Type 0) (x : A) (xs : List A) → AllPairs R (x ∷ xs) → All (R x) xs
pairs_head R x xs pairs j d inside = pairs zero (suc j) d (omega arith) (omega arith)

skip : {A : Type 0} (b : Bool) (x y : A) → b ≡ false → cond b x y ≡ y
skip b x y is = ap (λ v. cond v x y) is

take_it : {A : Type 0} (b : Bool) (x y : A) → b ≡ true → cond b x y ≡ x
take_it b x y is = ap (λ v. cond v x y) is

differ : (a b : ℕ) → a ≢ b → nat_eq a b ≡ false
differ a b no_eq = grind (arith, nat_tests)

same : (a b : ℕ) → a ≡ b → nat_eq a b ≡ true
same a b eq = grind (arith, nat_tests)

pub mark_absent : {T : Type 0} (l : List (ℕ × T)) (k : ℕ) → All (λ m. m.0 ≢ k) l → mark_at l k ≡ None
mark_absent [] k none = refl
mark_absent (m ∷ l) k none = skip (nat_eq m.0 k) (Some m.1) (mark_at l k) (differ m.0 k (none zero m (omega arith))) ∙ mark_absent l k (λ j d inside. none (suc j) d (omega arith))

pub mark_present : {T : Type 0} (l : List (ℕ × T)) (k i : ℕ) (x : ℕ × T) → AreRising l → i < length l → x ≡ get_or l i x → x.0 ≡ k → mark_at l k ≡ Some x.1
mark_present [] k i x rising inside is at = absurd (omega arith)
mark_present (m ∷ l) k zero x rising inside is at = take_it (nat_eq m.0 k) (Some m.1) (mark_at l k) (same m.0 k (ap (λ (p : ℕ × _). p.0) (sym is) ∙ at)) ∙ ap (λ (p : ℕ × _). Some p.1) (sym is)
mark_present {T} (m ∷ l) k (suc i) x rising inside is at =
    let below : m.0 < (get_or l i x).0 = rising zero (suc i) x (omega arith) inside in
    let here : (get_or l i x).0 ≡ k = ap (λ (p : ℕ × T). p.0) (sym is) ∙ at in
    skip (nat_eq m.0 k) (Some m.1) (mark_at l k) (differ m.0 k (λ eq. omega arith)) ∙ mark_present l k i x (pairs_tail (λ (u v : ℕ × T). u.0 < v.0) m l rising) (omega arith) is at

module _ {T : Type 0} (l : List (ℕ × T)) (rising : AreRising l) (k : ℕ) where
  comparisons_rise : IsNonDecreasingBy (λ m. ordering_index (nat_cmp m.0 k)) l
  comparisons_rise i j d le inside =
      let keys : (get_or l i d).0 ≤ (get_or l j d).0 = grind (arith, rising i j d, λ (eq : i ≡ j). ap (λ n. (get_or l n d).0) eq) in
      grind (arith, nat_tests)

  -- the mark that is found
  pub at_place : (i : ℕ) (x : ℕ × T) → i < length l → x ≡ get_or l i x → IsBinarySearchResult (λ m. nat_cmp m.0 k) l (Ok i) → Some x.1 ≡ mark_at l k
  at_place i x inside is equal = sym (mark_present l k i x rising inside is (ap (λ (p : ℕ × T). p.0) is ∙ ranked _ k _ (sym (equal x))))

  -- and where none is
  pub in_gap : (i : ℕ) → i ≤ length l → IsBinarySearchResult (λ m. nat_cmp m.0 k) l (Err i) → None ≡ mark_at l k
  in_gap i range parted = sym (mark_absent l k apart)
    where
      apart : All (λ m. m.0 ≢ k) l
      apart j d inside eq = elim (cases_lt j i) [
        | inl before ↦ let low : (get_or l j d).0 < k = ranked _ k _ (sym ((parted comparisons_rise).0 j d (omega arith) before)) in omega arith
        | inr behind ↦ let high : k < (get_or l j d).0 = ranked _ k _ (sym ((parted comparisons_rise).1 j d behind inside)) in omega arith
      ]

module _ {T : Type 0} (l inner searched : List (ℕ × T)) (view : inner ≡ l) (slice : searched ≡ inner) (rising : AreRising inner) (k i : ℕ) where
  pub found_mark : (x : ℕ × T) → i < length searched → x ≡ get_or inner i x → IsBinarySearchResult (λ m. nat_cmp m.0 k) searched (Ok i) → Some x.1 ≡ mark_at l k
  found_mark x inside is equal = subst (λ xs. Some x.1 ≡ mark_at xs k) view
      (at_place inner rising k i x (subst (λ xs. i < length xs) slice inside) is (subst (λ xs. IsBinarySearchResult (λ m. nat_cmp m.0 k) xs (Ok i)) slice equal))

  pub no_mark : i ≤ length searched → IsBinarySearchResult (λ m. nat_cmp m.0 k) searched (Err i) → None ≡ mark_at l k
  no_mark range parted = subst (λ xs. None ≡ mark_at xs k) view
      (in_gap inner rising k i (subst (λ xs. i ≤ length xs) slice range) (subst (λ xs. IsBinarySearchResult (λ m. nat_cmp m.0 k) xs (Err i)) slice parted))

-- The last that passes a test, and the first, by their numbers.
use Rattle.std.proofs.Common.{◌≡◌, ℕ, zero, suc, ◌+◌, ◌<◌, Bool, true, false, Option, Some, None, option_map, List, [], ◌∷◌, slice_get, refl, sym, ap, subst, ◌∙◌, ⊎_elim, arith, if◌then◌else◌}
use Rattle.std.specs.List.{position_from}
use Rattle.std.specs.Option.{option_or}
use Rattle.std.proofs.lemmas.Option.{none-some, same_Some}
use Rattle.std.proofs.lemmas.Bool.{cond-true, cond-false, both_ways, cases_order}
use Rattle.luf_scope.specs.Local.{last_passing}

module _ {X : Type 0} (test : X → Bool) where
  -- it passes, and none behind it does; or none does
  abbrev pub IsLast : List X → Option ℕ → Type 0
  IsLast xs None = (m : ℕ) (y : X) → slice_get xs m ≡ Some y → test y ≡ false
  IsLast xs (Some n) = (x : X) × (slice_get xs n ≡ Some x) × (test x ≡ true) × ((m : ℕ) (y : X) → n < m → slice_get xs m ≡ Some y → test y ≡ false)

  moved : (o : Option ℕ) (b : Bool) (i : ℕ) → option_or (option_map suc o) (if b then Some (suc i) else None) ≡ option_map suc (option_or o (if b then Some i else None))
  moved (Some n) b i = refl
  moved None true i = refl
  moved None false i = refl

  shifted : (i : ℕ) (xs : List X) → last_passing test (suc i) xs ≡ option_map suc (last_passing test i xs)
  shifted i [] = refl
  shifted i (x ∷ xs) =
      let next : suc i + 1 ≡ suc (i + 1) = omega arith in
      (λ k. option_or (last_passing test (next k) xs) (if test x then Some (suc i) else None))
      ∙ (λ k. option_or (shifted (i + 1) xs k) (if test x then Some (suc i) else None))
      ∙ moved (last_passing test (i + 1) xs) (test x) i

  later_last : (x : X) (xs : List X) (o : Option ℕ) (b : Bool) → test x ≡ b → IsLast xs o → IsLast (x ∷ xs) (option_or (option_map suc o) (if b then Some 0 else None))
  later_last x xs (Some n) b is (y, at, passes, none) = (y, at, passes, behind)
    where
      behind : (m : ℕ) (z : X) → suc n < m → slice_get (x ∷ xs) m ≡ Some z → test z ≡ false
      behind zero z below found = absurd (omega (arith, below))
      behind (suc m) z below found = none m z (omega (arith, below)) found
  later_last x xs None true is none = (x, refl, is, behind)
    where
      behind : (m : ℕ) (z : X) → 0 < m → slice_get (x ∷ xs) m ≡ Some z → test z ≡ false
      behind zero z below found = absurd (omega (arith, below))
      behind (suc m) z below found = none m z found
  later_last x xs None false is none = each
    where
      each : (m : ℕ) (z : X) → slice_get (x ∷ xs) m ≡ Some z → test z ≡ false
      each zero z found = subst (λ k. test k ≡ false) (same_Some _ _ found) is
      each (suc m) z found = none m z found

  pub last_is : (xs : List X) → IsLast xs (last_passing test 0 xs)
  last_is [] = λ m y is. absurd (none-some _ is)
  last_is (x ∷ xs) =
      subst (IsLast (x ∷ xs)) (sym (λ k. option_or (shifted 0 xs k) (if test x then Some 0 else None))) (later_last x xs (last_passing test 0 xs) (test x) refl (last_is xs))

  pub one_last : (xs : List X) (o p : Option ℕ) → IsLast xs o → IsLast xs p → o ≡ p
  one_last xs None None a b = refl
  one_last xs None (Some n) none (x, at, passes, behind) = absurd (both_ways (test x) (none n x at) passes)
  one_last xs (Some n) None (x, at, passes, behind) none = absurd (both_ways (test x) (none n x at) passes)
  one_last xs (Some n) (Some m) (x, at, passes, behind) (y, there, goes, after) =
      ⊎_elim (λ same. ap Some same)
      (⊎_elim (λ below. absurd (both_ways (test y) (behind m y below there) goes)) (λ above. absurd (both_ways (test x) (after n x above at) passes)))
      (cases_order n m)

  -- the first
  pub first_is : (i : ℕ) (xs : List X) (n : ℕ) (x : X) → slice_get xs n ≡ Some x → test x ≡ true → ((m : ℕ) (y : X) → m < n → slice_get xs m ≡ Some y → test y ≡ false) → position_from test i xs ≡ Some (i + n)
  first_is i [] n x is passes before = absurd (none-some _ is)
  first_is i (y ∷ xs) zero x is passes before =
      let now : test y ≡ true = subst (λ k. test k ≡ true) (sym (same_Some _ _ is)) passes in
      let same : i ≡ i + 0 = omega arith in
      cond-true (test y) (Some i) (position_from test (i + 1) xs) now ∙ ap Some same
  first_is i (y ∷ xs) (suc n) x is passes before =
      let other : test y ≡ false = before 0 y (omega arith) refl in
      let same : i + 1 + n ≡ i + suc n = omega arith in
      cond-false (test y) (Some i) (position_from test (i + 1) xs) other ∙ first_is (i + 1) xs n x is passes (λ m z below found. before (suc m) z (omega (arith, below)) found) ∙ ap Some same

  pub first_none : (i : ℕ) (xs : List X) → ((m : ℕ) (y : X) → slice_get xs m ≡ Some y → test y ≡ false) → position_from test i xs ≡ None
  first_none i [] none = refl
  first_none i (x ∷ xs) none = cond-false (test x) (Some i) (position_from test (i + 1) xs) (none 0 x refl) ∙ first_none (i + 1) xs (λ m y found. none (suc m) y found)

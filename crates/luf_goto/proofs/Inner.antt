-- The innermost of the extents that hold a spot is the last of them, when they are sorted.
use Rattle.std.proofs.Common.{◌≡◌, ℕ, ◌+◌, ◌-◌, ◌^◌, ◌<◌, ◌≤◌, Bool, true, false, cond, nat_eq, List, [], ◌∷◌, Option, Some, None, All, length, get_or, map, zero, suc, add-zero, refl, sym, ap, ◌∙◌, subst, inl, inr, arith}
use Rattle.std.proofs.lemmas.Bool.{cases_lt, false≢true, cond-false, ne_eqb}
use Rattle.std.proofs.lemmas.List.{get_or-map, length-map, get_or_default}
use Rattle.std.proofs.lemmas.List.Elements.{Contains-get_or}
use Rattle.std.proofs.lemmas.List.Sorted.{IsPermutation-sym, All-permutation, Contains-permutation}
use Rattle.std.proofs.lemmas.Option.{slice_get-get_or}
use Rattle.std.specs.List.{slice_get}
use Rattle.std.specs.List.Sorted.{IsNonDecreasingBy, IsPermutation}
use Rattle.std.specs.Option.{option_or}
use Rattle.luf_scope.specs.Local.{last_passing}
use Rattle.luf_goto.specs.declared.holders.Extent.{Extent}
use Rattle.luf_goto.specs.declared.holders.Spot.{Spot}
use Rattle.luf_goto.specs.inner.Holders.{holds, last_holding, one_higher, nowhere, extent_at, spot_at}
use Rattle.luf_goto.proofs.Lists.{map_through}
use Rattle.luf_goto.specs.inner.Innermost.{key_of, extent_numbered, IsInnermost, AreInnermost}

-- what the number of the last that passes says
abbrev pub IsLastPassing : {A : Type 0} → (A → Bool) → ℕ → List A → Option ℕ → Type 0
IsLastPassing {A} test n xs None = (i : ℕ) (d : A) → i < length xs → test (get_or xs i d) ≡ false
IsLastPassing {A} test n xs (Some m) = (u : ℕ) × (m ≡ n + u) × (u < length xs) × ((d : A) → test (get_or xs u d) ≡ true) × ((i : ℕ) (d : A) → u < i → i < length xs → test (get_or xs i d) ≡ false)

module _ {A : Type 0} (test : A → Bool) where
  first_none : (n : ℕ) (x : A) (xs : List A) → IsLastPassing test (n + 1) xs None → (b : Bool) → test x ≡ b → IsLastPassing test n (x ∷ xs) (cond b (Some n) None)
  first_none n x xs none true is = (0, sym (add-zero n), omega arith, (λ d. is), (λ i d. elim i as (λ i. 0 < i → i < length (x ∷ xs) → test (get_or (x ∷ xs) i d) ≡ false) [ zero ↦ λ h k. absurd (omega arith) | suc i ↦ λ h k. none i d (omega arith) ]))
  first_none n x xs none false is = λ i d. elim i as (λ i. i < length (x ∷ xs) → test (get_or (x ∷ xs) i d) ≡ false) [ zero ↦ λ h. is | suc i ↦ λ h. none i d (omega arith) ]

  one_before : (n : ℕ) (x : A) (xs : List A) (o : Option ℕ) → IsLastPassing test (n + 1) xs o → IsLastPassing test n (x ∷ xs) (option_or o (cond (test x) (Some n) None))
  one_before n x xs None none = first_none n x xs none (test x) refl
  one_before n x xs (Some m) (u, is, inside, passes, rest) =
      (suc u, omega arith, omega arith, passes, (λ i d. elim i as (λ i. suc u < i → i < length (x ∷ xs) → test (get_or (x ∷ xs) i d) ≡ false) [ zero ↦ λ h k. absurd (omega arith) | suc i ↦ λ h k. rest i d (omega arith) (omega arith) ]))

  pub last_passing_is : (n : ℕ) (xs : List A) → IsLastPassing test n xs (last_passing test n xs)
  last_passing_is n [] = λ i d h. absurd (omega arith)
  last_passing_is n (x ∷ xs) = one_before n x xs (last_passing test (n + 1) xs) (last_passing_is (n + 1) xs)

-- a sorted list begins to rise by its beginnings
pub sorted_by_from : (extents : List Extent) → All (λ e. e.rank < 2 ^ 32) extents → IsNonDecreasingBy key_of extents → IsNonDecreasingBy (λ e. e.from) extents
sorted_by_from extents ranks sorted i j d up inside = let k = sorted i j d up inside in let a = ranks i d (omega arith) in omega arith

numbered_at : (extents : List Extent) (u : ℕ) → u < length extents → extent_numbered extents (u + 1) ≡ Some (extent_at extents u)
numbered_at extents u inside =
    cond-false (nat_eq (u + 1) 0) None (slice_get extents (u + 1 - 1)) (ne_eqb (u + 1) 0 (λ e. omega arith))
    ∙ ap (slice_get extents) (let e : u + 1 - 1 ≡ u = omega arith in e)
    ∙ slice_get-get_or extents u nowhere inside

module _ (extents sorted : List Extent) (moved : IsPermutation extents sorted) (up : IsNonDecreasingBy key_of sorted) (s : Spot) where
  inner_is : (o : Option ℕ) → IsLastPassing (holds s) 0 sorted o → IsInnermost extents s (extent_numbered sorted (one_higher o))
  inner_is None none = λ i h. All-permutation (λ e. holds s e ≡ false) sorted extents (IsPermutation-sym extents sorted moved) (λ k d. none k d) i nowhere h
  inner_is (Some m) (u, is, inside, passes, rest) =
      let e : Extent = extent_at sorted u in
      let same : m ≡ u = omega arith in
      subst (IsInnermost extents s) (sym (ap (λ n. extent_numbered sorted (n + 1)) same ∙ numbered_at sorted u inside)) (
        Contains-permutation sorted extents e (IsPermutation-sym extents sorted moved) (Contains-get_or sorted u nowhere inside),
        passes nowhere,
        (λ i h. All-permutation (λ x. holds s x ≡ true → key_of x ≤ key_of e) sorted extents (IsPermutation-sym extents sorted moved)
            (λ k d below holding. elim (cases_lt u k) [
              | inl past ↦ absurd (false≢true (sym (rest k d past below) ∙ holding))
              | inr upto ↦ subst (λ x. key_of (get_or sorted k d) ≤ key_of x) (get_or_default sorted u d nowhere inside) (up k u d upto inside)
            ]) i nowhere h),
      )

  pub innermost_at : IsInnermost extents s (extent_numbered sorted (one_higher (last_holding sorted s)))
  innermost_at = inner_is (last_holding sorted s) (last_passing_is (holds s) 0 sorted)

pub innermost_is :
    (extents sorted : List Extent) (spots : List Spot) (numbers : List ℕ) (found : List (Option Extent))
    → IsPermutation extents sorted → IsNonDecreasingBy key_of sorted → numbers ≡ map (λ s. one_higher (last_holding sorted s)) spots → found ≡ map (extent_numbered sorted) numbers
    → AreInnermost extents spots found
innermost_is extents sorted spots numbers found moved up numbered all =
    let F : Spot → Option Extent = λ s. extent_numbered sorted (one_higher (last_holding sorted s)) in
    let is : found ≡ map F spots = all ∙ ap (map (extent_numbered sorted)) numbered ∙ map_through (λ s. one_higher (last_holding sorted s)) (extent_numbered sorted) F (λ s. refl) spots in
    record {
      same = ap length is ∙ length-map spots F;
      each = λ k h. subst (IsInnermost extents (spot_at spots k)) (sym (ap (λ xs. get_or xs k None) is ∙ get_or-map F spots k (record { class = 0; place = 0 }) None h)) (innermost_at extents sorted moved up (spot_at spots k));
    }

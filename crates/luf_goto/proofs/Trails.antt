-- What is known of the first extents, from place to place, and the answer that it gives.
use Rattle.std.proofs.Common.{◌≡◌, ℕ, ◌+◌, ◌<◌, ◌≤◌, Bool, true, false, List, [], ◌∷◌, Some, None, length, get_or, replicate, suc, zero, refl, sym, ap, ◌∙◌, subst, inl, inr, ⊎_elim, cond, arith, add-zero}
use Rattle.std.proofs.lemmas.List.{length-replicate, get_or-replicate, get_or_past, get_or_default}
use Rattle.std.proofs.lemmas.Bool.{cases_lt, and_from, and_parts, eq-eqb, eqb-true, le-leb, leb-true, lt-ltb, ltb-true, false_from_ne_true}
use Rattle.std.specs.List.Sorted.{IsNonDecreasingBy}
use Rattle.std.specs.Option.{option_or}
use Rattle.luf_scope.specs.Local.{last_passing}
use Rattle.luf_goto.specs.declared.holders.Extent.{Extent}
use Rattle.luf_goto.specs.declared.holders.Spot.{Spot}
use Rattle.luf_goto.specs.inner.Holders.{holds, last_holding, one_higher, nowhere, extent_at, IsTrail, IsBound}

pub last_passing_none : {A : Type 0} (test : A → Bool) (n : ℕ) (xs : List A) → ((i : ℕ) (d : A) → i < length xs → test (get_or xs i d) ≡ false) → last_passing test n xs ≡ None
last_passing_none test n [] none = refl
last_passing_none test n (x ∷ xs) none =
    ap (λ o. option_or o (cond (test x) (Some n) None)) (last_passing_none test (n + 1) xs (λ i d h. none (suc i) d (omega arith)))
    ∙ ap (λ t. cond t (Some n) None) (none 0 x (omega arith))

pub last_passing_some : {A : Type 0} (test : A → Bool) (n : ℕ) (xs : List A) (u : ℕ) (d : A) → u < length xs → test (get_or xs u d) ≡ true → ((i : ℕ) (d : A) → u < i → i < length xs → test (get_or xs i d) ≡ false) → last_passing test n xs ≡ Some (n + u)
last_passing_some test n [] u d inside passes none = absurd (omega arith)
last_passing_some test n (x ∷ xs) zero d inside passes none =
    ap (λ o. option_or o (cond (test x) (Some n) None)) (last_passing_none test (n + 1) xs (λ i d h. none (suc i) d (omega arith) (omega arith)))
    ∙ ap (λ t. cond t (Some n) None) passes ∙ ap Some (sym (add-zero n))
last_passing_some test n (x ∷ xs) (suc u) d inside passes none =
    ap (λ o. option_or o (cond (test x) (Some n) None)) (last_passing_some test (n + 1) xs u d (omega arith) passes (λ i d h k. none (suc i) d (omega arith) (omega arith)))
    ∙ ap Some (let e : n + 1 + u ≡ n + suc u = omega arith in e)

pub trail_later : (extents : List Extent) (place later next : ℕ) (last before : List ℕ) → place ≤ later → IsTrail extents place next last before → IsTrail extents later next last before
trail_later extents place later next last before up trail = record {
  within = trail.within;
  room = trail.room;
  begun = λ i h. omega (arith, trail.begun i h);
  last_within = trail.last_within;
  last_class = trail.last_class;
  last_rest = λ i h. ⊎_elim inl (λ (e : (extent_at extents i).to ≤ place). inr (omega arith)) (trail.last_rest i h);
  before_within = trail.before_within;
  before_class = trail.before_class;
  before_rest = λ t i h less same. ⊎_elim inl (λ (e : (extent_at extents i).to ≤ place). inr (omega arith)) (trail.before_rest t i h less same);
}

pub trail_none : (extents : List Extent) (classes : ℕ) → IsTrail extents 0 0 (replicate classes 0) (replicate (length extents) 0)
trail_none extents classes = record {
  within = omega arith;
  room = length-replicate {A = ℕ} (length extents) 0;
  begun = λ i h. absurd (omega arith);
  last_within = λ c. omega (arith, zero_at classes c);
  last_class = λ c t e. absurd (omega (arith, zero_at classes c));
  last_rest = λ i h. absurd (omega arith);
  before_within = λ t h. absurd (omega arith);
  before_class = λ t u h. absurd (omega arith);
  before_rest = λ t i h. absurd (omega arith);
}
  where
    zero_at : (n c : ℕ) → ◌≡◌ {A = ℕ} (get_or (replicate n 0) c 0) 0
    zero_at n c = elim (cases_lt c n) [ inl h ↦ get_or-replicate {A = ℕ} n c 0 0 h | inr h ↦ get_or_past {X = ℕ} (replicate n 0) c 0 (omega (arith, length-replicate {A = ℕ} n 0)) ]

-- an extent holds a spot, where its class and its places do
pub held : (s : Spot) (e : Extent) → e.class ≡ s.class → e.from ≤ s.place → s.place < e.to → holds s e ≡ true
held s e same low high = and_from _ _ (eq-eqb e.class s.class same) (and_from _ _ (le-leb e.from s.place low) (lt-ltb s.place e.to high))

pub held_parts : (s : Spot) (e : Extent) → holds s e ≡ true → (e.class ≡ s.class) × (e.from ≤ s.place) × (s.place < e.to)
held_parts s e h =
    let p = and_parts _ _ h in
    let q = and_parts _ _ p.1 in
    (eqb-true e.class s.class p.0, leb-true e.from s.place q.0, ltb-true s.place e.to q.1)

not_held : (s : Spot) (e : Extent) → (e.class ≡ s.class → e.from ≤ s.place → s.place < e.to → ⊥) → holds s e ≡ false
not_held s e no_way = false_from_ne_true _ (λ h. let p = held_parts s e h in no_way p.0 p.1 p.2)

-- the answer at a spot: behind the first extents none has begun
pub found_is :
    (extents : List Extent) (s : Spot) (next top : ℕ) → IsNonDecreasingBy (λ e. e.from) extents → next ≤ length extents
    → ((i : ℕ) → i < next → (extent_at extents i).from ≤ s.place) → (next < length extents → s.place < (extent_at extents next).from)
    → IsBound extents next s.class s.place top → ((t : ℕ) → top ≡ t + 1 → s.place < (extent_at extents t).to)
    → top ≡ one_higher (last_holding extents s)
found_is extents s next top sorted within begun unbegun bound last = at_top top refl
  where
    beyond : (i : ℕ) (d : Extent) → i < length extents → top ≤ i → holds s (get_or extents i d) ≡ false
    beyond i d h over =
        subst (λ e. holds s e ≡ false) (get_or_default extents i nowhere d h)
        (not_held s (extent_at extents i) (λ same low high. elim (cases_lt i next) [
          | inl less ↦ elim (bound.rest i less same) [ inl x ↦ absurd (omega arith) | inr x ↦ absurd (omega arith) ]
          | inr more ↦ let up = sorted next i nowhere more h in let un = unbegun (omega arith) in absurd (omega arith)
        ]))

    at_top : (t : ℕ) → top ≡ t → top ≡ one_higher (last_holding extents s)
    at_top zero is = is ∙ ap one_higher (sym (last_passing_none (holds s) 0 extents (λ i d h. beyond i d h (omega arith))))
    at_top (suc u) is =
        let one : top ≡ u + 1 = omega arith in
        let inside : u < length extents = omega (arith, bound.within) in
        let here : holds s (extent_at extents u) ≡ true = held s (extent_at extents u) (bound.class_is u one) (begun u (omega (arith, bound.within))) (last u one) in
        let shown : top ≡ 0 + u + 1 = omega arith in
        shown ∙ ap one_higher (sym (last_passing_some (holds s) 0 extents u nowhere inside here (λ i d h k. beyond i d k (omega arith))))

-- Occurrences that lie one behind another.
use Rattle.std.proofs.Common.{◌≡◌, ℕ, ◌+◌, ◌<◌, ◌≤◌, false, Option, Some, None, IfSome, List, [], ◌∷◌, length, get_or, take, drop, refl, sym, ◌∙◌, subst, arith, All}
use Rattle.std.specs.List.{filter_map, cons_option}
use Rattle.std.proofs.lemmas.List.{get_or-drop, get_or-take, length-drop, length-take-le}
use Rattle.std.proofs.lemmas.List.Elements.{All-head, All-tail, All-cons, All-nil}
use Rattle.luf_scope.specs.Order.{place, behind, is_loop}
use Rattle.luf_scope.specs.declared.occurrence.Occurrence.{Occurrence}
use Rattle.luf_scope.specs.declared.occurrence.Occurrence.TheVariants.{Local, Loop}
use Rattle.luf_scope.specs.inner.Laid.{AreLaid}
use Rattle.luf_scope.proofs.Mapped.{pair_at}

-- a loop stands at the first token of its block and has none of its own
pub place_le_behind : (u : Occurrence) → (is_loop u ≡ false → place u < behind u) → place u ≤ behind u
place_le_behind (Loop from to) stands = omega arith
place_le_behind (Local name (Some attribute) from to) stands = omega (arith, stands refl)
place_le_behind (Local name None from to) stands = omega (arith, stands refl)
place_le_behind u stands = omega (arith, stands refl)

cons_if : {Y : Type 0} (P : Y → Type 0) (o : Option Y) (ys : List Y) → IfSome o P → All P ys → All P (cons_option o ys)
cons_if P None ys here rest = rest
cons_if P (Some y) ys here rest = All-cons P y ys here rest

pub all_filter_map : {X Y : Type 0} (f : X → Option Y) (P : Y → Type 0) (xs : List X) → All (λ x. IfSome (f x) P) xs → All P (filter_map f xs)
all_filter_map f P [] each = All-nil P
all_filter_map f P (x ∷ xs) each = cons_if P (f x) (filter_map f xs) (All-head (λ y. IfSome (f y) P) x xs each) (all_filter_map f P xs (All-tail (λ y. IfSome (f y) P) x xs each))

-- of what holds of some first elements and one more
pub all_fewer : {X : Type 0} (P : X → Type 0) (xs : List X) (i : ℕ) → i < length xs → All P (take (i + 1) xs) → All P (take i xs)
all_fewer P xs i inside all j d within =
    let low : j < i = omega (arith, length-take-le i xs (omega arith)) in
    subst P (get_or-take (i + 1) xs j d (omega arith) ∙ sym (get_or-take i xs j d low)) (all j d (omega (arith, length-take-le (i + 1) xs (omega arith))))

pub all_latest : {X : Type 0} (P : X → Type 0) (xs : List X) (i : ℕ) (d : X) → i < length xs → All P (take (i + 1) xs) → P (get_or xs i d)
all_latest P xs i d inside all = subst P (get_or-take (i + 1) xs i d (omega arith)) (all i d (omega (arith, length-take-le (i + 1) xs (omega arith))))

module _ (os : List Occurrence) (i : ℕ) (laid : AreLaid os) (inside : i < length os) where
  -- all before a place of the list end before it
  pub all_ended : (d : Occurrence) → All (λ u. behind u ≤ place (get_or os i d)) (take i os)
  all_ended d j e within =
      let low : j < i = omega (arith, length-take-le i os (omega arith)) in
      let on : behind (get_or os j e) ≤ place (get_or os i d) = pair_at (λ u v. behind u ≤ place v) os j i e d laid.later low inside in
      subst (λ u. behind u ≤ place (get_or os i d)) (sym (get_or-take i os j e low)) on

  pub all_before : (d : Occurrence) → All (λ u. place u ≤ place (get_or os i d)) (take i os)
  all_before d j e within =
      let low : j < i = omega (arith, length-take-le i os (omega arith)) in
      let long : place (get_or os j e) ≤ behind (get_or os j e) = place_le_behind (get_or os j e) (laid.stands j e (omega arith)) in
      let on : behind (get_or os j e) ≤ place (get_or os i d) = pair_at (λ u v. behind u ≤ place v) os j i e d laid.later low inside in
      subst (λ u. place u ≤ place (get_or os i d)) (sym (get_or-take i os j e low)) (omega arith)

  -- and all behind it stand behind it
  pub all_behind : (d : Occurrence) → All (λ u. behind (get_or os i d) ≤ place u) (drop (i + 1) os)
  all_behind d j e within =
      let far : i + 1 + j < length os = omega (arith, length-drop (i + 1) os) in
      subst (λ u. behind (get_or os i d) ≤ place u) (sym (get_or-drop (i + 1) os j e)) (pair_at (λ u v. behind u ≤ place v) os i (i + 1 + j) d e laid.later (omega arith) far)

  pub all_stand : All (λ u. is_loop u ≡ false → place u < behind u) (drop (i + 1) os)
  all_stand j e within = subst (λ u. is_loop u ≡ false → place u < behind u) (sym (get_or-drop (i + 1) os j e)) (laid.stands (i + 1 + j) e (omega (arith, length-drop (i + 1) os)))

-- Two lists of which each member of the one is related to the member of the other at its place.
use Rattle.std.proofs.Common.{◌≡◌, ℕ, zero, suc, ◌+◌, Bool, cond, ◌||◌, Option, Some, None, List, [], ◌∷◌, ◌++◌, All, map, slice_get, refl, if◌then◌else◌}
use Rattle.std.specs.List.{filter_map, cons_option, list_any, position_from}
use Rattle.std.specs.Option.{option_or}
use Rattle.std.proofs.lemmas.List.Elements.{All-head, All-tail}
use Rattle.luf_scope.specs.Local.{last_passing}

pub data Paired {A B : Type 0} (R : A → B → Type 0) : List A → List B → Type 0 where
  nothing : Paired R [] []
  more : {x : A} {y : B} {xs : List A} {ys : List B} → R x y → Paired R xs ys → Paired R (x ∷ xs) (y ∷ ys)

pub data PairedOption {A B : Type 0} (R : A → B → Type 0) : Option A → Option B → Type 0 where
  neither : PairedOption R None None
  both : {x : A} {y : B} → R x y → PairedOption R (Some x) (Some y)

-- of two of which nothing is asked: lists are as long as each other
abbrev pub Any : {A : Type 0} → A → A → Type 0
Any a b = Unit {0}

consed : {A B : Type 0} {R : A → B → Type 0} {u : Option A} {v : Option B} {xs : List A} {ys : List B} → PairedOption R u v → Paired R xs ys → Paired R (cons_option u xs) (cons_option v ys)
consed neither rest = rest
consed (both here) rest = more here rest

module _ {A B : Type 0} {R : A → B → Type 0} where
  pub joined : {us xs : List A} {vs ys : List B} → Paired R us vs → Paired R xs ys → Paired R (us ++ xs) (vs ++ ys)
  joined nothing rest = rest
  joined (more here there) rest = more here (joined there rest)

  pub filtered : {C D : Type 0} {S : C → D → Type 0} (f : A → Option C) (g : B → Option D) → ((x : A) (y : B) → R x y → PairedOption S (f x) (g y)) → {xs : List A} {ys : List B} → Paired R xs ys → Paired S (filter_map f xs) (filter_map g ys)
  filtered f g one nothing = nothing
  filtered f g one (more {x} {y} here there) = consed (one x y here) (filtered f g one there)

  pub same_last : (f : A → Bool) (g : B → Bool) → ((x : A) (y : B) → R x y → g y ≡ f x) → {xs : List A} {ys : List B} → Paired R xs ys → (n : ℕ) → last_passing g n ys ≡ last_passing f n xs
  same_last f g one nothing n = refl
  same_last f g one (more {x} {y} here there) n = λ i. option_or (same_last f g one there (n + 1) i) (if one x y here i then Some n else None)

  pub same_any : (f : A → Bool) (g : B → Bool) → ((x : A) (y : B) → R x y → g y ≡ f x) → {xs : List A} {ys : List B} → Paired R xs ys → list_any g ys ≡ list_any f xs
  same_any f g one nothing = refl
  same_any f g one (more {x} {y} here there) = λ i. one x y here i || same_any f g one there i

  pub same_position : (f : A → Bool) (g : B → Bool) → ((x : A) (y : B) → R x y → g y ≡ f x) → {xs : List A} {ys : List B} → Paired R xs ys → (n : ℕ) → position_from g n ys ≡ position_from f n xs
  same_position f g one nothing n = refl
  same_position f g one (more {x} {y} here there) n = λ i. cond (one x y here i) (Some n) (same_position f g one there (n + 1) i)

  pub same_map : {C : Type 0} (f : A → C) (g : B → C) → ((x : A) (y : B) → R x y → g y ≡ f x) → {xs : List A} {ys : List B} → Paired R xs ys → map g ys ≡ map f xs
  same_map f g one nothing = refl
  same_map f g one (more {x} {y} here there) = λ i. one x y here i ∷ same_map f g one there i

  pub paired_option : {xs : List A} {ys : List B} → Paired R xs ys → (n : ℕ) → PairedOption R (slice_get xs n) (slice_get ys n)
  paired_option nothing n = neither
  paired_option (more one rest) zero = both one
  paired_option (more one rest) (suc n) = paired_option rest n

  pub mapped : {C : Type 0} (f : A → C) (g : B → C) {xs : List A} {ys : List B} → Paired R xs ys → Paired Any (map f xs) (map g ys)
  mapped f g nothing = nothing
  mapped f g (more _ there) = more tt (mapped f g there)

  -- with what holds of each of the first
  pub paired_with : (P : A → Type 0) {xs : List A} {ys : List B} → All P xs → Paired R xs ys → Paired (λ x y. R x y × P x) xs ys
  paired_with P holds nothing = nothing
  paired_with P holds (more {x} {xs = xs} here there) = more (here, All-head P x xs holds) (paired_with P (All-tail P x xs holds) there)

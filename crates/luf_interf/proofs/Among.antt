-- What members of a list have, and where they stand.
use Rattle.std.proofs.Common.{◌≡◌, ℕ, zero, suc, Bool, true, false, ◌||◌, Option, Some, None, List, [], ◌∷◌, All, AllPairs, get_or, ◌<◌, slice_get, refl, subst, ⊎_elim}
use Rattle.std.specs.List.{filter_map, cons_option, list_any}
use Rattle.std.proofs.lemmas.Option.{none-some, same_Some, slice_get_within, get_or_from_slice_get}
use Rattle.std.proofs.lemmas.Bool.{or_cases, or_left, or_right, false_from_ne_true}
use Rattle.std.proofs.lemmas.List.Elements.{All-head, All-tail, All-cons, All-nil}
use Rattle.luf_resolved.proofs.Paired.{Paired, nothing, more}
use Rattle.luf_interf.specs.inner.Among.{Among, here, there}

module _ {X : Type 0} where
  pub all_among : (P : X → Type 0) (xs : List X) (x : X) → All P xs → Among x xs → P x
  all_among P [] x all m = elim m [ ]
  all_among P (x ∷ xs) x' all here = All-head P x xs all
  all_among P (y ∷ xs) x all (there m) = all_among P xs x (All-tail P y xs all) m

  pub among_at : (xs : List X) (n : ℕ) (x : X) → slice_get xs n ≡ Some x → Among x xs
  among_at [] n x is = absurd (none-some _ is)
  among_at (y ∷ xs) zero x is = subst (λ z. Among z (y ∷ xs)) (same_Some _ _ is) here
  among_at (y ∷ xs) (suc n) x is = there (among_at xs n x is)

  pub all_from : (P : X → Type 0) (xs : List X) → ((x : X) → Among x xs → P x) → All P xs
  all_from P [] each = All-nil P
  all_from P (x ∷ xs) each = All-cons P x xs (each x here) (all_from P xs (λ y m. each y (there m)))

  pub any_among : (test : X → Bool) (xs : List X) → list_any test xs ≡ true → (x : X) × Among x xs × (test x ≡ true)
  any_among test [] is = absurd cc
  any_among test (x ∷ xs) is = ⊎_elim (λ now. (x, here, now)) (λ later. let found = any_among test xs later in (found.0, there found.1, found.2)) (or_cases (test x) (list_any test xs) is)

  pub any_none : (test : X → Bool) (xs : List X) → ((x : X) → Among x xs → test x ≡ true → ⊥) → list_any test xs ≡ false
  any_none test xs none = false_from_ne_true (list_any test xs) (λ is. let found = any_among test xs is in none found.0 found.1 found.2)

  pub given_by : {Y : Type 0} (h : X → Option Y) (xs : List X) (y : Y) → Among y (filter_map h xs) → (x : X) × Among x xs × (h x ≡ Some y)
  given_by h [] y m = elim m [ ]
  given_by h (x ∷ xs) y m = by (h x) refl m (λ k. let found = given_by h xs y k in (found.0, there found.1, found.2))
    where
      by : (o : Option _) → h x ≡ o → Among y (cons_option o (filter_map h xs)) → (Among y (filter_map h xs) → (z : X) × Among z (x ∷ xs) × (h z ≡ Some y)) → (z : X) × Among z (x ∷ xs) × (h z ≡ Some y)
      by None is k rest = rest k
      by (Some y) is here rest = (x, here, is)
      by (Some z) is (there k) rest = rest k

  -- of two, the earlier one first
  pub pairs_at : (R : X → X → Type 0) (xs : List X) (n m : ℕ) (x y : X) → AllPairs R xs → n < m → slice_get xs n ≡ Some x → slice_get xs m ≡ Some y → R x y
  pairs_at R xs n m x y pairs below one two =
      subst (λ k. R k y) (get_or_from_slice_get xs n x x one) (subst (λ k. R (get_or xs n x) k) (get_or_from_slice_get xs m y x two) (pairs n m x below (slice_get_within xs m y two)))

  -- a list beside itself
  pub beside_itself : (R : X → X → Type 0) (xs : List X) → ((x : X) → Among x xs → R x x) → Paired R xs xs
  beside_itself R [] each = nothing
  beside_itself R (x ∷ xs) each = more (each x here) (beside_itself R xs (λ y m. each y (there m)))

-- ---- two lists of related members

module _ {A B : Type 0} {R : A → B → Type 0} where
  pub paired_at : {xs : List A} {ys : List B} → Paired R xs ys → (n : ℕ) (x : A) → slice_get xs n ≡ Some x → (y : B) × (slice_get ys n ≡ Some y) × R x y
  paired_at nothing n x is = absurd (none-some _ is)
  paired_at (more {x} {y} one rest) zero z is = (y, refl, subst (λ k. R k y) (same_Some _ _ is) one)
  paired_at (more one rest) (suc n) z is = paired_at rest n z is

  pub paired_back : {xs : List A} {ys : List B} → Paired R xs ys → (n : ℕ) (y : B) → slice_get ys n ≡ Some y → (x : A) × (slice_get xs n ≡ Some x) × R x y
  paired_back nothing n y is = absurd (none-some _ is)
  paired_back (more {x} {y} one rest) zero z is = (x, refl, subst (λ k. R x k) (same_Some _ _ is) one)
  paired_back (more one rest) (suc n) z is = paired_back rest n z is

-- ---- where they stand, and what is given of them

pub index_of : {X : Type 0} (xs : List X) (x : X) → Among x xs → (n : ℕ) × (slice_get xs n ≡ Some x)
index_of [] x m = elim m [ ]
index_of (y ∷ xs) y' here = (0, refl)
index_of (y ∷ xs) x (there m) = let found = index_of xs x m in (suc found.0, found.1)

consed_first : {Y : Type 0} (o : Option Y) (ys : List Y) (y : Y) → o ≡ Some y → Among y (cons_option o ys)
consed_first None ys y is = absurd cc
consed_first (Some z) ys y is = subst (λ k. Among k (z ∷ ys)) (same_Some z y is) here

consed_later : {Y : Type 0} (o : Option Y) (ys : List Y) (y : Y) → Among y ys → Among y (cons_option o ys)
consed_later None ys y m = m
consed_later (Some z) ys y m = there m

pub given : {X Y : Type 0} (h : X → Option Y) (xs : List X) (x : X) (y : Y) → Among x xs → h x ≡ Some y → Among y (filter_map h xs)
given h [] x y m is = elim m [ ]
given h (x ∷ xs) x' y here is = consed_first (h x) (filter_map h xs) y is
given h (z ∷ xs) x y (there m) is = consed_later (h z) (filter_map h xs) y (given h xs x y m is)

pub any_of : {X : Type 0} (test : X → Bool) (xs : List X) (x : X) → Among x xs → test x ≡ true → list_any test xs ≡ true
any_of test [] x m is = elim m [ ]
any_of test (x ∷ xs) x' here is = or_left (test x) (list_any test xs) is
any_of test (y ∷ xs) x (there m) is = or_right (test y) (list_any test xs) (any_of test xs x m is)

pub same_any : {X : Type 0} (f g : X → Bool) (xs : List X) → ((x : X) → Among x xs → g x ≡ f x) → list_any g xs ≡ list_any f xs
same_any f g [] same = refl
same_any f g (x ∷ xs) same = λ i. same x here i || same_any f g xs (λ y m. same y (there m)) i

pub same_given : {X Y : Type 0} (f g : X → Option Y) (xs : List X) → ((x : X) → Among x xs → g x ≡ f x) → filter_map g xs ≡ filter_map f xs
same_given f g [] same = refl
same_given f g (x ∷ xs) same = λ i. cons_option (same x here i) (same_given f g xs (λ y m. same y (there m)) i)

pub none_given : {X Y : Type 0} (f : X → Option Y) (xs : List X) → ((x : X) → Among x xs → f x ≡ None) → filter_map f xs ≡ []
none_given f [] none = refl
none_given f (x ∷ xs) none = λ i. cons_option (none x here i) (none_given f xs (λ y m. none y (there m)) i)

pub paired_given : {A B Y : Type 0} {R : A → B → Type 0} (f : A → Option Y) (g : B → Option Y) {xs : List A} {ys : List B} → Paired R xs ys → ((x : A) (y : B) → R x y → Among x xs → g y ≡ f x) → filter_map g ys ≡ filter_map f xs
paired_given f g nothing same = refl
paired_given f g (more {x} {y} one rest) same = λ i. cons_option (same x y one here i) (paired_given f g rest (λ z w r m. same z w r (there m)) i)

-- Lists that are read through a map, and tests that agree on each item.
use Rattle.std.proofs.Common.{◌≡◌, ℕ, ◌<◌, Bool, true, false, ◌||◌, List, [], ◌∷◌, Option, All, length, get_or, map, zero, suc, refl, ap, ◌∙◌, arith}
use Rattle.std.proofs.lemmas.List.{length-map, get_or-map}
use Rattle.std.proofs.lemmas.List.Elements.{All-head, All-tail}
use Rattle.std.specs.List.{Contains, filter_map, cons_option, list_any}

pub any_through : {X Y : Type 0} (t : Y → Bool) (f : X → Y) (xs : List X) → list_any t (map f xs) ≡ list_any (λ x. t (f x)) xs
any_through t f [] = refl
any_through t f (x ∷ xs) = ap (λ r. t (f x) || r) (any_through t f xs)

pub any_agree : {X : Type 0} (t u : X → Bool) (xs : List X) → All (λ x. t x ≡ u x) xs → list_any t xs ≡ list_any u xs
any_agree t u [] all = refl
any_agree t u (x ∷ xs) all =
    ap (λ b. b || list_any t xs) (All-head (λ y. t y ≡ u y) x xs all) ∙ ap (λ r. u x || r) (any_agree t u xs (All-tail (λ y. t y ≡ u y) x xs all))

pub any_none : {X : Type 0} (t : X → Bool) (xs : List X) → All (λ x. t x ≡ false) xs → list_any t xs ≡ false
any_none t [] all = refl
any_none t (x ∷ xs) all =
    ap (λ b. b || list_any t xs) (All-head (λ y. t y ≡ false) x xs all) ∙ any_none t xs (All-tail (λ y. t y ≡ false) x xs all)

pub any_some : {X : Type 0} (t : X → Bool) (xs : List X) (i : ℕ) (d : X) → i < length xs → t (get_or xs i d) ≡ true → list_any t xs ≡ true
any_some t [] i d inside is = absurd (omega arith)
any_some t (x ∷ xs) zero d inside is = ap (λ b. b || list_any t xs) is
any_some t (x ∷ xs) (suc i) d inside is = ap (λ r. t x || r) (any_some t xs i d (omega arith) is) ∙ or_true (t x)
  where
    or_true : (b : Bool) → (b || true) ≡ true
    or_true true = refl
    or_true false = refl

pub given_agree : {X Y : Type 0} (f g : X → Option Y) (xs : List X) → All (λ x. f x ≡ g x) xs → filter_map f xs ≡ filter_map g xs
given_agree f g [] all = refl
given_agree f g (x ∷ xs) all =
    ap (λ o. cons_option o (filter_map f xs)) (All-head (λ y. f y ≡ g y) x xs all) ∙ ap (cons_option (g x)) (given_agree f g xs (All-tail (λ y. f y ≡ g y) x xs all))

pub mapped_there : {X Y : Type 0} (f : X → Y) (xs : List X) (i : ℕ) (d : X) → i < length xs → Contains (map f xs) (f (get_or xs i d))
mapped_there f xs i d inside = (i, omega (arith, length-map xs f), get_or-map f xs i d _ inside)

-- A loop that adds what each item gives.
use Rattle.std.proofs.Common.{◌≡◌, ℕ, ◌+◌, ◌<◌, List, [], ◌∷◌, ◌++◌, map, length, get_or, drop, drop-cons, append_assoc, add-one, AllPairs, refl, sym, ap, ◌∙◌, subst, arith}
use Rattle.std.proofs.lemmas.List.{get_or_default, get_or-map, length-map}

pub dropped : {X : Type 0} (xs : List X) (i : ℕ) (d : X) → i < length xs → drop i xs ≡ get_or xs i d ∷ drop (i + 1) xs
dropped xs i d inside = drop-cons xs i d inside ∙ ap (λ n. get_or xs i d ∷ drop n xs) (sym (add-one i))

pub map_more : {X Y : Type 0} (f : X → Y) (xs : List X) (i : ℕ) (d : X) (y : Y) (old new all : List Y) → i < length xs → y ≡ f (get_or xs i d) → old ++ map f (drop i xs) ≡ all → new ≡ old ++ y ∷ [] → new ++ map f (drop (i + 1) xs) ≡ all
map_more f xs i d y old new all inside is before added =
    ap (λ ys. ys ++ map f (drop (i + 1) xs)) added
    ∙ append_assoc old (y ∷ []) (map f (drop (i + 1) xs))
    ∙ ap (λ z. old ++ z ∷ map f (drop (i + 1) xs)) is
    ∙ ap (λ ys. old ++ map f ys) (sym (dropped xs i d inside))
    ∙ before

-- two places of a list, each read with its own default
pub pair_at : {X : Type 0} (R : X → X → Type 0) (xs : List X) (i j : ℕ) (d e : X) → AllPairs R xs → i < j → j < length xs → R (get_or xs i d) (get_or xs j e)
pair_at R xs i j d e pairs less inside = subst (λ x. R x (get_or xs j e)) (get_or_default xs i e d (omega arith)) (pairs i j e less inside)

-- what an item gives, at its place
pub given_at : {X Y : Type 0} (f : X → Y) (xs : List X) (ys : List Y) (i : ℕ) (d : X) (r : Y) → ys ≡ map f xs → i < length xs → ((e : Y) → i < length ys → r ≡ get_or ys i e) → r ≡ f (get_or xs i d)
given_at f xs ys i d r is inside reads =
    let long : length ys ≡ length xs = ap length is ∙ length-map xs f in
    reads (f d) (omega arith) ∙ ap (λ zs. get_or zs i (f d)) is ∙ get_or-map f xs i d (f d) inside

pub map_each : {X Y : Type 0} (f g : X → Y) (xs : List X) → ((x : X) → f x ≡ g x) → map f xs ≡ map g xs
map_each f g [] same = refl
map_each f g (x ∷ xs) same = ap (λ y. y ∷ map f xs) (same x) ∙ ap (λ ys. g x ∷ ys) (map_each f g xs same)

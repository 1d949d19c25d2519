-- Lists that rise, and lists of what each item gives.
use Rattle.std.proofs.Common.{◌≡◌, ℕ, ◌+◌, ◌<◌, ◌≤◌, List, [], ◌∷◌, ◌++◌, Option, Some, None, AllPairs, length, get_or, take, map, refl, sym, ap, ◌∙◌, subst, inl, inr, arith}
use Rattle.std.proofs.lemmas.Bool.{cases_eq}
use Rattle.std.proofs.lemmas.List.{take_more, get_or-map, length-map}
use Rattle.std.proofs.lemmas.List.Elements.{filter_map-append}
use Rattle.std.specs.List.{filter_map, cons_option}
use Rattle.std.specs.List.Sorted.{IsNonDecreasingBy}
use Rattle.std.specs.Option.{option_to_list}

cons_one : {Y : Type 0} (o : Option Y) → cons_option o [] ≡ option_to_list o
cons_one None = refl
cons_one (Some y) = refl

-- one item more
pub given_more : {X Y : Type 0} (h : X → Option Y) (xs : List X) (i : ℕ) (x : X) → i < length xs → x ≡ get_or xs i x → filter_map h (take (i + 1) xs) ≡ filter_map h (take i xs) ++ option_to_list (h x)
given_more h xs i x inside is =
    ap (filter_map h) (take_more xs i x inside ∙ ap (λ y. take i xs ++ y ∷ []) (sym is))
    ∙ filter_map-append h (take i xs) (x ∷ []) ∙ ap (λ ys. filter_map h (take i xs) ++ ys) (cons_one (h x))

pub rising_pairs : {X : Type 0} (n : X → ℕ) (xs : List X) → AllPairs (λ u v. n u ≤ n v) xs → IsNonDecreasingBy n xs
rising_pairs n xs pairs i j d up inside = elim (cases_eq i j) [ inl e ↦ subst (λ k. n (get_or xs i d) ≤ n (get_or xs k d)) e (omega arith) | inr ne ↦ pairs i j d (omega arith) inside ]

pub rising_map : {X Y : Type 0} (n : Y → ℕ) (f : X → Y) (e : X) (xs : List X) → AllPairs (λ u v. n (f u) ≤ n (f v)) xs → IsNonDecreasingBy n (map f xs)
rising_map n f e xs pairs i j d up inside =
    let within : j < length xs = omega (arith, length-map xs f) in
    let r = rising_pairs (λ x. n (f x)) xs pairs i j e up within in
    subst (λ y. n y ≤ n (get_or (map f xs) j d)) (sym (get_or-map f xs i e d (omega arith)))
    (subst (λ y. n (f (get_or xs i e)) ≤ n y) (sym (get_or-map f xs j e d within)) r)

-- one map after another
pub map_through : {X Y Z : Type 0} (f : X → Y) (g : Y → Z) (h : X → Z) → ((x : X) → g (f x) ≡ h x) → (xs : List X) → map g (map f xs) ≡ map h xs
map_through f g h each [] = refl
map_through f g h each (x ∷ xs) = ap (λ z. z ∷ map g (map f xs)) (each x) ∙ ap (λ zs. h x ∷ zs) (map_through f g h each xs)

-- a map keeps a list rising that does so by what it reads
pub rising_mapped : {X Y : Type 0} (n : X → ℕ) (m : Y → ℕ) (f : X → Y) (e : X) → ((x y : X) → n x ≤ n y → m (f x) ≤ m (f y)) → (xs : List X) → IsNonDecreasingBy n xs → IsNonDecreasingBy m (map f xs)
rising_mapped n m f e keeps xs rises i j d up inside =
    let within : j < length xs = omega (arith, length-map xs f) in
    let r = keeps (get_or xs i e) (get_or xs j e) (rises i j e up within) in
    subst (λ y. m y ≤ m (get_or (map f xs) j d)) (sym (get_or-map f xs i e d (omega arith)))
    (subst (λ y. m (f (get_or xs i e)) ≤ m y) (sym (get_or-map f xs j e d within)) r)

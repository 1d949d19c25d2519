-- Two lists that are compared place by place, by a function of their elements.
use Rattle.std.proofs.Common.{◌≡◌, ◌∙◌, ap, sym, ℕ, ◌<◌, zero, suc, List, [], ◌∷◌, map, take, length, get_or, arith}

-- one more place
pub take-map_more : {A B : Type 0} (f : A → B) (xs ys : List A) (i : ℕ) (x y : A) → i < length xs → length xs ≡ length ys → x ≡ get_or xs i x → y ≡ get_or ys i y → f x ≡ f y → take i (map f xs) ≡ take i (map f ys) → take (suc i) (map f xs) ≡ take (suc i) (map f ys)
take-map_more f [] ys i x y within same at_x at_y e before = absurd (omega arith)
take-map_more f (a ∷ xs) [] i x y within same at_x at_y e before = absurd (omega arith)
take-map_more f (a ∷ xs) (b ∷ ys) zero x y within same at_x at_y e before = cc
take-map_more f (a ∷ xs) (b ∷ ys) (suc i) x y within same at_x at_y e before =
    let first : f a ≡ f b = cc in
    let rest : take i (map f xs) ≡ take i (map f ys) = cc in
    let more : take (suc i) (map f xs) ≡ take (suc i) (map f ys) = take-map_more f xs ys i x y (omega arith) (omega arith) at_x at_y e rest in
    cc

-- an element at a place, of two lists with the same images
pub get_or-map_same : {A B : Type 0} (f : A → B) (xs ys : List A) (i : ℕ) (x y : A) → i < length xs → x ≡ get_or xs i x → y ≡ get_or ys i y → map f xs ≡ map f ys → f x ≡ f y
get_or-map_same f [] ys i x y within at_x at_y e = absurd (omega arith)
get_or-map_same f (a ∷ xs) [] i x y within at_x at_y e = cc
get_or-map_same f (a ∷ xs) (b ∷ ys) zero x y within at_x at_y e =
    let first : f a ≡ f b = cc in ap f at_x ∙ first ∙ sym (ap f at_y)
get_or-map_same f (a ∷ xs) (b ∷ ys) (suc i) x y within at_x at_y e =
    let rest : map f xs ≡ map f ys = cc in get_or-map_same f xs ys i x y (omega arith) at_x at_y rest

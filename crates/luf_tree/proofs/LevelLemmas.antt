-- The deepest of several parts, one part after another.
use Rattle.std.proofs.Common.{◌≡◌, ℕ, zero, suc, ◌+◌, ◌<◌, List, [], ◌∷◌, length, map, max, min, take, get_or, ap, arith, add-one, nat_cmp}
use Rattle.std.specs.Ordering.{ord_max}
use Rattle.std.proofs.lemmas.Grind.{common_steps}
use Rattle.luf_tree.specs.Level.{deepest}

pub deepest_more : {A : Type 0} (f : A → ℕ) (xs : List A) (i : ℕ) (x : A) → i < length xs → x ≡ get_or xs i x
    → deepest (map f (take (suc i) xs)) ≡ max (deepest (map f (take i xs))) (f x)
deepest_more f [] i x h is = absurd (omega arith)
deepest_more f (y ∷ ys) zero x h is = omega (arith, ap f is)
deepest_more f (y ∷ ys) (suc i) x h is = let e = deepest_more f ys i x (omega arith) is in omega (arith, e)

-- the greatest so far, and one part more
pub greatest_more : {A : Type 0} (f : A → ℕ) (xs : List A) (i most n next : ℕ) (x : A) → next ≡ ord_max nat_cmp most n → i < length xs → x ≡ get_or xs i x
    → most ≡ min (deepest (map f (take i xs))) 4294967295 → n ≡ min (f x) 4294967295 → next ≡ min (deepest (map f (take (i + 1) xs))) 4294967295
greatest_more f xs i most n next x e h is so_far this = rw (add-one, deepest_more f xs i x h is) (grind (arith, common_steps))

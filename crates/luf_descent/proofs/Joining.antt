-- A list that is read part by part: what was read stands before what is left.
use Rattle.std.proofs.Common.{◌≡◌, ℕ, ◌≤◌, List, [], ◌∷◌, ◌++◌, map, max, refl, sym, subst, ap, arith, append_assoc, append-nil, ◌∙◌}
use Rattle.luf_tree.specs.Level.{deepest}

-- any rest that is derived from a place completes the list that began at another
abbrev pub Joins : {A : Type 0} → (ℕ → ℕ → List A → Type 0) → ℕ → ℕ → List A → Type 0
Joins {A} F from at found = (k : ℕ) (rest : List A) → F at k rest → F from k (found ++ rest)

pub joins_none : {A : Type 0} (F : ℕ → ℕ → List A → Type 0) (from : ℕ) (found : List A) → found ≡ [] → Joins F from from found
joins_none {A} F from found e k rest h = subst (λ (xs : List A). F from k (xs ++ rest)) (sym e) h

pub joins_more : {A : Type 0} (F : ℕ → ℕ → List A → Type 0) (from at next : ℕ) (found new : List A) (x : A) → Joins F from at found → new ≡ found ++ x ∷ []
    → ((k : ℕ) (rest : List A) → F next k rest → F at k (x ∷ rest)) → Joins F from next new
joins_more {A} F from at next found new x joins e step k rest h =
    subst (λ (xs : List A). F from k (xs ++ rest)) (sym e)
    (subst (λ (xs : List A). F from k xs) (sym (append_assoc found (x ∷ []) rest)) (joins k (x ∷ rest) (step k rest h)))

pub joins_last : {A : Type 0} (F : ℕ → ℕ → List A → Type 0) (from at to : ℕ) (found new : List A) (x : A) → Joins F from at found → new ≡ found ++ x ∷ []
    → F at to (x ∷ []) → F from to new
joins_last {A} F from at to found new x joins e h = subst (λ (xs : List A). F from to xs) (sym e) (joins to (x ∷ []) h)

pub joins_end : {A : Type 0} (F : ℕ → ℕ → List A → Type 0) (from at : ℕ) (found all : List A) → Joins F from at found → all ≡ found → F at at [] → F from at all
joins_end {A} F from at found all joins e h = subst (λ (xs : List A). F from at xs) (append-nil found ∙ sym e) (joins at [] h)

deepest_append : (xs : List ℕ) (n : ℕ) → deepest (xs ++ n ∷ []) ≡ max (deepest xs) n
deepest_append [] n = omega arith
deepest_append (x ∷ xs) n = omega (arith, deepest_append xs n)

map_push : {A : Type 0} (f : A → ℕ) (xs : List A) (x : A) → map f (xs ++ x ∷ []) ≡ map f xs ++ f x ∷ []
map_push f [] x = refl
map_push f (y ∷ ys) x = ap (λ zs. f y ∷ zs) (map_push f ys x)

-- no part of a list enters more than the levels that are left, and so does no part of it with one more
pub level_more : {A : Type 0} (f : A → ℕ) (found new : List A) (x : A) (left : ℕ) → deepest (map f found) ≤ left → new ≡ found ++ x ∷ [] → f x ≤ left → deepest (map f new) ≤ left
level_more f found new x left a e b = omega (arith, deepest_append (map f found) (f x), ap deepest (map_push f found x), ap (λ xs. deepest (map f xs)) e)

-- what is said of no parts
pub nothing : {A : Type 0} (P : List A → Type 0) (found : List A) → found ≡ [] → P [] → P found
nothing P found e h = subst P (sym e) h

pub level_end : {A : Type 0} (f : A → ℕ) (found all : List A) (left : ℕ) → deepest (map f found) ≤ left → all ≡ found → deepest (map f all) ≤ left
level_end f found all left h e = omega (arith, h, ap (λ xs. deepest (map f xs)) e)

-- no part of an empty list enters a level
pub level_none : {A : Type 0} (f : A → ℕ) (found : List A) (left : ℕ) → found ≡ [] → deepest (map f found) ≤ left
level_none f found left e = nothing (λ xs. deepest (map f xs) ≤ left) found e (omega arith)

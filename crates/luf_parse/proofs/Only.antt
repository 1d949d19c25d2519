-- Where there is at most one of each part, there is at most one whole.
use Rattle.std.proofs.Common.{◌≡◌, ℕ, List, [], ◌∷◌, ap, ◌∙◌}
use Rattle.luf_descent.specs.Exact.{Alone, Then, Enters}
use Rattle.luf_descent.proofs.Exactness.{ListRest}

-- a level is entered, and then the rest is known at each level
pub alone_enters : {A : Type 0} {left : ℕ} {Q : ℕ → A → Type 0} {y : A} → ((inner : ℕ) → Alone (Q inner) y) → Alone (Then (Enters left) Q) y
alone_enters only z p = only p.part z p.rest

-- a part before a list that is known
pub before : {X T : Type 0} {Q : (List X × T) → Type 0} {x : X} {xs : List X} {to : T} {r : List X × T} → Alone Q (xs, to) → (s : List X × T) × Q s × (r ≡ (x ∷ s.0, s.1)) → r ≡ (x ∷ xs, to)
before {X} {T} {x = x} only h = h.2 ∙ ap (λ (s : List X × T). (x ∷ s.0, s.1)) (only h.0 h.1)

-- behind a part of a list: a separator, and a rest that is known
pub rest_more : {X T : Type 0} {Sep : ℕ → Type 0} {Rest : ℕ → (List X × T) → Type 0} {x : X} {end to : T} {xs : List X} (next : ℕ) → Sep next → Alone (Rest next) (xs, to) → Alone (ListRest Sep Rest x end) (x ∷ xs, to)
rest_more next sep only r h = before only (h.more next sep)

-- behind the last part of a list: no separator
pub rest_last : {X T : Type 0} {Sep : ℕ → Type 0} {Rest : ℕ → (List X × T) → Type 0} {x : X} {end to : T} → end ≡ to → ((next : ℕ) → Sep next → ⊥) → Alone (ListRest Sep Rest x end) (x ∷ [], to)
rest_last {x = x} same none r h = h.last none ∙ ap (λ t. (x ∷ [], t)) same

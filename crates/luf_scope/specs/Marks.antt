-- What stands at some tokens of a source, as a list in the order of the tokens.
use Rattle.std.specs.Prelude.{ℕ, ◌<◌, cond, Option, Some, None, List, [], ◌∷◌, nat_eq}
use Rattle.std.specs.List.{AllPairs}

-- what stands at a token, if something does
abbrev pub mark_at : {T : Type 0} → List (ℕ × T) → ℕ → Option T
mark_at [] token = None
mark_at (m ∷ marks) token = cond (nat_eq m.0 token) (Some m.1) (mark_at marks token)

-- each token stands before all later ones
abbrev pub AreRising : {T : Type 0} → List (ℕ × T) → Type 0
AreRising {T} marks = AllPairs {X = ℕ × T} (λ u v. u.0 < v.0) marks

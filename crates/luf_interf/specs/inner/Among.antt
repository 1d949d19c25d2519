-- Members of a list, by where they stand.
use Rattle.std.specs.Prelude.{List, ◌∷◌}

pub data Among {X : Type 0} (x : X) : List X → Type 0 where
  here : {xs : List X} → Among x (x ∷ xs)
  there : {y : X} {xs : List X} → Among x xs → Among x (y ∷ xs)

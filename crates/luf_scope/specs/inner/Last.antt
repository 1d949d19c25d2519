-- The last of a list that passes a test, and stacks from which it is read.
use Rattle.std.specs.Prelude.{ℕ, Bool, cond, Option, Some, None, List, [], ◌∷◌, nat_lt}
use Rattle.std.specs.Option.{option_or}
use Rattle.luf_scope.specs.declared.stacks.Held.{Held}

abbrev pub last_such : {A : Type 0} → (A → Bool) → List A → Option A
last_such test [] = None
last_such test (x ∷ xs) = option_or (last_such test xs) (cond (test x) (Some x) None)

-- it reaches beyond this place
abbrev pub outlasts : {T : Type 0} → ℕ → Held T → Bool
outlasts place held = nat_lt place held.to

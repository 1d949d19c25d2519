-- The first fault of the jumps of a chunk, of the first ones of each word.
use Rattle.std.specs.Prelude.{ℕ, Option, Some, None, List, [], ◌∷◌}
use Rattle.luf_scope.specs.Fault.{first_of}
use Rattle.luf_scope.specs.declared.fault.ScopeBad.{ScopeBad}
use Rattle.luf_scope.specs.declared.fault.ScopeWhat.{ScopeWhat}
use Rattle.luf_scope.specs.declared.fault.ScopeWhat.TheVariants.{LabelTwice, NoLabel, JumpIntoScope, BreakOutside}

abbrev pub bad_at : Option ℕ → ScopeWhat → Option ScopeBad
bad_at None what = None
bad_at (Some token) what = Some (record { token = token; what = what })

abbrev pub first_bad : Option ℕ → Option ℕ → Option ℕ → Option ℕ → Option ScopeBad
first_bad twice missing entering outside =
    first_of (first_of (first_of (bad_at twice LabelTwice) (bad_at missing NoLabel)) (bad_at entering JumpIntoScope)) (bad_at outside BreakOutside)

abbrev pub first_token : List ℕ → Option ℕ
first_token [] = None
first_token (token ∷ tokens) = Some token

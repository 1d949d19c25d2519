-- A sweep over the scopes of a chunk, in the order in which they begin.
use Rattle.std.specs.Prelude.{◌≡◌, ℕ, ◌<◌, ◌≤◌, Bool, ◌&&◌, Option, Some, List, [], length, take, slice_get, nat_eq, nat_lt, All, AllPairs}
use Rattle.std.specs.Option.{option_map, option_map_or}
use Rattle.std.specs.Global.{Vec}
use Rattle.luf_scope.specs.declared.scopes.Scope.{Scope}
use Rattle.luf_scope.specs.declared.stacks.Held.{Held}
use Rattle.luf_scope.specs.inner.Last.{last_such, outlasts}

-- the numbers of names are below the number of scopes, and the scopes begin one after another
pub record AreRanged (number : List ℕ → Option ℕ) (scopes : List Scope) : Type 0 where
  pub numbers : (name : List ℕ) (k : ℕ) → number name ≡ Some k → k < length scopes
  pub names : All (λ s. s.name < length scopes) scopes
  pub rising : AllPairs (λ s t. s.from ≤ t.from) scopes

-- the stack of a name
abbrev pub stack_at : List (Vec (Held ℕ)) → ℕ → List (Held ℕ)
stack_at stacks k = option_map_or (λ v. v.items) (slice_get stacks k) []

-- a scope of that name that reaches beyond that place
abbrev pub reaches : ℕ → ℕ → Scope → Bool
reaches number place s = nat_eq s.name number && nat_lt place s.to

-- So many scopes have begun at a place, and from there on the stacks tell of each name which of them is the last.
pub record IsSweep (scopes : List Scope) (place entered : ℕ) (stacks : List (Vec (Held ℕ))) : Type 0 where
  pub within : entered ≤ length scopes
  pub begun : All (λ s. s.from ≤ place) (take entered scopes)
  pub count : length stacks ≡ length scopes
  pub tell : (k later : ℕ) → place ≤ later → option_map (λ h. h.what) (last_such (outlasts later) (stack_at stacks k)) ≡ option_map (λ s. s.local) (last_such (reaches k later) (take entered scopes))

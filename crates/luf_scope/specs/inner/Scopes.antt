-- Scopes of local variables in the order in which they begin, with a number for each name.
use Rattle.std.specs.Prelude.{◌≡◌, ℕ, ◌+◌, ◌<◌, ◌≤◌, ◌⊎◌, Bool, ◌&&◌, Option, Some, None, List, [], ◌∷◌, unwrap_or, nat_le, nat_lt, nat_eq, bytes_eq, AllPairs}
use Rattle.std.specs.List.{position_from}
use Rattle.std.specs.List.Sorted.{IsPermutation}
use Rattle.std.specs.Option.{option_map, option_and_then}
use Rattle.luf_scope.specs.Local.{Spelling, LocalVariable, meaning}
use Rattle.luf_scope.specs.declared.occurrence.Occurrence.{Occurrence}
use Rattle.luf_scope.specs.declared.occurrence.Occurrence.TheVariants.{Reads, Assigns}
use Rattle.luf_scope.specs.declared.scopes.Scope.{Scope}
use Rattle.luf_scope.specs.declared.locals.Variable.{Variable}
use Rattle.luf_scope.specs.inner.Last.{last_such}

-- a local variable, without the place where its name lies in memory
abbrev pub local_of : Variable → LocalVariable
local_of v = record { token = v.token; name = v.name.now; kind = v.kind; from = v.from; to = v.to }

-- the number of a name: that of the first local variable that has it
abbrev pub name_number : List LocalVariable → List ℕ → Option ℕ
name_number locals name = position_from (λ v. bytes_eq v.name name) 0 locals

-- the scopes of local variables that are numbered from n on
abbrev pub scopes_from : (List ℕ → Option ℕ) → ℕ → List LocalVariable → List Scope
scopes_from number n [] = []
scopes_from number n (v ∷ locals) = record { name = unwrap_or (number v.name) 0; local = n; from = v.from; to = v.to } ∷ scopes_from number (n + 1) locals

-- one scope begins before the other, or with it and is numbered no higher
abbrev pub Begins : Scope → Scope → Type 0
Begins s t = (s.from < t.from) ⊎ ((s.from ≡ t.from) × (s.local ≤ t.local))

-- the same scopes in the order in which they begin
pub record AreInOrder (scopes sorted : List Scope) : Type 0 where
  pub permutation : IsPermutation scopes sorted
  pub order : AllPairs Begins sorted

-- a variable of that name is active there
abbrev pub is_meant : ℕ → ℕ → Scope → Bool
is_meant number place s = nat_eq s.name number && nat_le s.from place && nat_lt place s.to

-- the variable that an occurrence names
abbrev pub used_by : Occurrence → Option ℕ
used_by (Reads name) = Some name
used_by (Assigns name) = Some name
used_by _ = None

-- what a name means at a place, read off scopes in the order in which they begin
abbrev pub meant_at : (List ℕ → Option ℕ) → List Scope → ℕ → List ℕ → Option ℕ
meant_at number scopes place name = option_and_then (λ k. option_map (λ s. s.local) (last_such (is_meant k place) scopes)) (number name)

abbrev pub meant_by : Spelling → (List ℕ → Option ℕ) → List Scope → Occurrence → Option ℕ
meant_by spelled number scopes o = option_and_then (λ name. meant_at number scopes name (spelled name)) (used_by o)

-- what the variable means that an occurrence names
abbrev pub meaning_of : Spelling → List LocalVariable → Occurrence → Option ℕ
meaning_of spelled locals o = option_and_then (λ name. meaning locals name (spelled name)) (used_by o)

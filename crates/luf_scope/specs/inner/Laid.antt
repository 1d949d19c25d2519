-- Occurrences one behind another, and what is read off them in their order.
use Rattle.std.specs.Prelude.{◌≡◌, ℕ, ◌+◌, ◌<◌, ◌≤◌, Bool, false, not, cond, Option, Some, None, List, [], ◌∷◌, nat_eq, nat_lt, bytes_eq, codes, All, AllPairs, if◌then◌else◌}
use Rattle.std.specs.BTreeSet.{BTreeSet, contains}
use Rattle.std.specs.List.{cons_option, list_any}
use Rattle.std.specs.Option.{option_or, option_map, option_map_or, option_and_then}
use Rattle.std.specs.Ordering.{nat_cmp}
use Rattle.luf_scope.specs.Local.{Spelling, FunctionAt}
use Rattle.luf_scope.specs.Order.{place, behind, is_loop, declares}
use Rattle.luf_scope.specs.Role.{reference}
use Rattle.luf_scope.specs.declared.binder.Role.{Role}
use Rattle.luf_scope.specs.declared.binder.Role.TheVariants as role
use Rattle.luf_scope.specs.declared.fault.ScopeBad.{ScopeBad}
use Rattle.luf_scope.specs.declared.fault.ScopeWhat.{ScopeWhat}
use Rattle.luf_scope.specs.declared.occurrence.Occurrence.{Occurrence}
use Rattle.luf_scope.specs.declared.occurrence.Occurrence.TheVariants.{Local, LocalFunction, Parameter, ImplicitSelf, LoopVariable, Reads, Assigns, Field, Varargs}
use Rattle.luf_scope.specs.declared.stacks.Held.{Held}
use Rattle.luf_scope.specs.inner.Last.{last_such, outlasts}

-- each stands behind those before it, and but for a loop at one token at least
pub record AreLaid (os : List Occurrence) : Type 0 where
  pub later : AllPairs (λ u v. behind u ≤ place v) os
  pub stands : All (λ u. is_loop u ≡ false → place u < behind u) os

-- the first fault of a word, in the order of the list
abbrev pub first_at : ScopeWhat → (Occurrence → Option ℕ) → List Occurrence → Option ScopeBad
first_at what test [] = None
first_at what test (o ∷ os) = option_or (option_map (λ t. record { token = t; what = what }) (test o)) (first_at what test os)

-- a `close`, with the end of its statement
abbrev pub close_of : Spelling → Occurrence → Option (ℕ × ℕ)
close_of spelled (Local name (Some attribute) from to) = cond (bytes_eq (spelled attribute) (codes "close")) (Some (attribute, from)) None
close_of spelled _ = None

abbrev pub closes_at : Spelling → ℕ → Occurrence → Bool
closes_at spelled end o = option_map_or (λ c. nat_eq c.1 end) (close_of spelled o) false

-- the ends of the statements that have a `close`
pub record AreEnds (spelled : Spelling) (ends : BTreeSet ℕ) (os : List Occurrence) : Type 0 where
  pub are : (end : ℕ) → contains nat_cmp ends end ≡ list_any (closes_at spelled end) os

-- a `close` behind another of its statement
abbrev pub second_among : Spelling → List Occurrence → Occurrence → Option ℕ
second_among spelled os o = option_and_then (λ c. cond (list_any (closes_at spelled c.1) os) (Some c.0) None) (close_of spelled o)

-- of the functions that reach beyond a place, a stack tells of the last whether it takes `...`
abbrev pub Tells : List (Held Bool) → List FunctionAt → ℕ → Type 0
Tells stack functions place = option_map (λ h. h.what) (last_such (outlasts place) stack) ≡ option_map (λ f. f.vararg) (last_such (λ f. nat_lt place f.to) functions)

-- `...` in a function that does not take it, of functions that have begun
abbrev pub varargs_among : List FunctionAt → Occurrence → Option ℕ
varargs_among functions (Varargs token) = cond (option_map_or (λ f. not f.vararg) (last_such (λ f. nat_lt token f.to) functions) false) (Some token) None
varargs_among functions _ = None

-- the token of an occurrence with its role, where n local variables are declared before it and it means m
abbrev pub role_here : ℕ → Option ℕ → Occurrence → Option (ℕ × Role)
role_here n m (Local name attribute from to) = Some (name, role.Declares n)
role_here n m (LocalFunction name from to) = Some (name, role.Declares n)
role_here n m (Parameter name from to) = Some (name, role.Declares n)
role_here n m (ImplicitSelf colon from to) = Some (colon, role.Declares n)
role_here n m (LoopVariable name from to) = Some (name, role.Declares n)
role_here n m (Reads name) = Some (name, reference m)
role_here n m (Assigns name) = Some (name, reference m)
role_here n m (Field name) = Some (name, role.Field)
role_here n m _ = None

-- the roles, where n local variables are declared before
abbrev pub roles_from : (Occurrence → Option ℕ) → ℕ → List Occurrence → List (ℕ × Role)
roles_from means n [] = []
roles_from means n (o ∷ os) = cons_option (role_here n (means o) o) (roles_from means (if declares o then n + 1 else n) os)

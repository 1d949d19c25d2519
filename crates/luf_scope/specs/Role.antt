-- What each token is to the names of a chunk.
use Rattle.std.specs.Prelude.{ℕ, Bool, false, Option, Some, None, List, nat_eq, if◌then◌else◌}
use Rattle.std.specs.List.{list_any, position_from}
use Rattle.luf_scope.specs.Local.{Spelling, LocalVariable, locals_of, meaning}
use Rattle.luf_scope.specs.declared.binder.Role.{Role}
use Rattle.luf_scope.specs.declared.binder.Role.TheVariants as role
use Rattle.luf_scope.specs.declared.occurrence.Occurrence.{Occurrence}
use Rattle.luf_scope.specs.declared.occurrence.Occurrence.TheVariants.{Reads, Assigns, Field}

-- the name of a variable, and that of a field or a method
abbrev pub is_variable : ℕ → Occurrence → Bool
is_variable token (Reads name) = nat_eq token name
is_variable token (Assigns name) = nat_eq token name
is_variable token _ = false

abbrev pub is_field : ℕ → Occurrence → Bool
is_field token (Field name) = nat_eq token name
is_field token _ = false

-- a name that is free is a field of what `_ENV` means there (2.2), or the chunk's own `_ENV`
abbrev pub reference : Option ℕ → Role
reference (Some n) = role.Refers n
reference None = role.Global

abbrev pub declaration : Option ℕ → Role → Role
declaration (Some n) other = role.Declares n
declaration None other = other

-- the number of the local variable that a token declares
abbrev pub declared_at : List LocalVariable → ℕ → Option ℕ
declared_at locals token = position_from (λ v. nat_eq v.token token) 0 locals

abbrev pub role_of : Spelling → List Occurrence → ℕ → Role
role_of spelled occurrences token =
    declaration (declared_at (locals_of spelled occurrences) token)
    (if list_any (is_variable token) occurrences then reference (meaning (locals_of spelled occurrences) token (spelled token))
    else if list_any (is_field token) occurrences then role.Field
    else role.Plain)

-- The local variables of a chunk, and what its names mean (Lua 5.4 manual, 3.5 and 2.2). Names are numbered tokens, and
-- a spelling says what each is.
use Rattle.std.specs.Prelude.{ℕ, ◌+◌, Bool, true, false, ◌&&◌, ◌||◌, Option, Some, None, List, [], ◌∷◌, nat_le, nat_lt, bytes_eq, codes, if◌then◌else◌}
use Rattle.std.specs.List.{filter_map}
use Rattle.std.specs.Option.{option_or}
use Rattle.luf_scope.specs.declared.binder.Binder.{Binder}
use Rattle.luf_scope.specs.declared.binder.BinderKind.{BinderKind}
use Rattle.luf_scope.specs.declared.binder.BinderKind.TheVariants as kind
use Rattle.luf_scope.specs.declared.occurrence.Occurrence.{Occurrence}
use Rattle.luf_scope.specs.declared.occurrence.Occurrence.TheVariants.{Local, LocalFunction, Parameter, ImplicitSelf, LoopVariable, Function}

-- what stands at a place: the bytes of a token
abbrev pub Spelling : Type 0
Spelling = ℕ → List ℕ

-- a local variable: the token that declares it, its name, how it is declared, and the places at which it is active,
-- from the first up to one past the last
pub record LocalVariable : Type 0 where
  pub token : ℕ
  pub name : List ℕ
  pub kind : BinderKind
  pub from : ℕ
  pub to : ℕ

abbrev pub is_active : ℕ → LocalVariable → Bool
is_active place v = nat_le v.from place && nat_lt place v.to

-- the attributes of the manual, 3.3.7; any other is refused
abbrev pub kind_of : Spelling → Option ℕ → BinderKind
kind_of spelled None = kind.Local
kind_of spelled (Some attribute) = if bytes_eq (spelled attribute) (codes "const") then kind.Const else if bytes_eq (spelled attribute) (codes "close") then kind.Close else kind.Local

-- the local variable that is declared there, if one is
abbrev pub declared_by : Spelling → Occurrence → Option LocalVariable
declared_by spelled (Local name attribute from to) = Some (record { token = name; name = spelled name; kind = kind_of spelled attribute; from = from; to = to })
declared_by spelled (LocalFunction name from to) = Some (record { token = name; name = spelled name; kind = kind.Function; from = from; to = to })
declared_by spelled (Parameter name from to) = Some (record { token = name; name = spelled name; kind = kind.Param; from = from; to = to })
declared_by spelled (ImplicitSelf colon from to) = Some (record { token = colon; name = codes "self"; kind = kind.SelfParam; from = from; to = to })
declared_by spelled (LoopVariable name from to) = Some (record { token = name; name = spelled name; kind = kind.Loop; from = from; to = to })
declared_by spelled _ = None

-- the local variables, numbered from 0 in the order of their tokens
abbrev pub locals_of : Spelling → List Occurrence → List LocalVariable
locals_of spelled occurrences = filter_map (declared_by spelled) occurrences

-- the implicit `self`, and each local named `_ENV`, keep their names
abbrev pub is_self : BinderKind → Bool
is_self kind.SelfParam = true
is_self _ = false

abbrev pub binder_of : LocalVariable → Binder
binder_of v = record { token = v.token; kind = v.kind; fixed = is_self v.kind || bytes_eq v.name (codes "_ENV") }

-- the number of the last that passes, of those numbered from n on
abbrev pub last_passing : {A : Type 0} → (A → Bool) → ℕ → List A → Option ℕ
last_passing test n [] = None
last_passing test n (x ∷ xs) = option_or (last_passing test (n + 1) xs) (if test x then Some n else None)

-- what a name means at a place: the last local variable of that name that is active there, by its number; none for a
-- name that is free there
abbrev pub meaning : List LocalVariable → ℕ → List ℕ → Option ℕ
meaning locals place name = last_passing (λ v. is_active place v && bytes_eq v.name name) 0 locals

-- a function: the places that it holds, from the `(` of its parameters to its `end`, and whether it takes `...`
pub record FunctionAt : Type 0 where
  pub from : ℕ
  pub to : ℕ
  pub vararg : Bool

abbrev pub function_by : Occurrence → Option FunctionAt
function_by (Function from to vararg) = Some (record { from = from; to = to; vararg = vararg })
function_by _ = None

abbrev pub functions_of : List Occurrence → List FunctionAt
functions_of occurrences = filter_map function_by occurrences

abbrev pub is_held : ℕ → FunctionAt → Bool
is_held place f = nat_le f.from place && nat_lt place f.to

-- the innermost function that holds a place, by its number; none for the main function
abbrev pub function_of : List FunctionAt → ℕ → Option ℕ
function_of functions place = last_passing (is_held place) 0 functions

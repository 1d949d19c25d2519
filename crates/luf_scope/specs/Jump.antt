-- Labels, and where a `goto` goes (Lua 5.4 manual, 3.3.4): to the label of its name in the innermost block that has one,
-- of the blocks of its function that hold it.
use Rattle.std.specs.Prelude.{ℕ, ◌+◌, Bool, ◌&&◌, cond, Option, Some, None, List, [], ◌∷◌, nat_le, nat_lt, nat_eq, bytes_eq}
use Rattle.std.specs.List.{filter_map, position_from}
use Rattle.std.specs.Option.{option_eq}
use Rattle.luf_scope.specs.Local.{Spelling, FunctionAt, functions_of, function_of}
use Rattle.luf_scope.specs.declared.jump.JumpRole.{JumpRole}
use Rattle.luf_scope.specs.declared.jump.JumpRole.TheVariants as jump
use Rattle.luf_scope.specs.declared.occurrence.Occurrence.{Occurrence}
use Rattle.luf_scope.specs.declared.occurrence.Occurrence.TheVariants.{Label, Goto}

-- a label: the token of its name, its name, the function and the block that hold it, and whether it counts as standing
-- outside the local variables of that block, at its end
pub record LabelAt : Type 0 where
  pub token : ℕ
  pub name : List ℕ
  pub function : Option ℕ
  pub from : ℕ
  pub to : ℕ
  pub at_end : Bool

-- a `goto`: its token, the token of its label's name, that name, and the function that holds it
pub record GotoAt : Type 0 where
  pub token : ℕ
  pub label : ℕ
  pub name : List ℕ
  pub function : Option ℕ

abbrev pub label_by : Spelling → List FunctionAt → Occurrence → Option LabelAt
label_by spelled functions (Label name from to at_end) = Some (record { token = name; name = spelled name; function = function_of functions name; from = from; to = to; at_end = at_end })
label_by spelled functions _ = None

abbrev pub goto_by : Spelling → List FunctionAt → Occurrence → Option GotoAt
goto_by spelled functions (Goto token name) = Some (record { token = token; label = name; name = spelled name; function = function_of functions token })
goto_by spelled functions _ = None

-- the labels, numbered from 0 in the order of their tokens, and the gotos
abbrev pub labels_of : Spelling → List Occurrence → List LabelAt
labels_of spelled occurrences = filter_map (label_by spelled (functions_of occurrences)) occurrences

abbrev pub gotos_of : Spelling → List Occurrence → List GotoAt
gotos_of spelled occurrences = filter_map (goto_by spelled (functions_of occurrences)) occurrences

-- a label of this name is seen at this place of this function: its block holds the place
abbrev pub is_seen : Option ℕ → ℕ → List ℕ → LabelAt → Bool
is_seen function place name l = option_eq nat_eq l.function function && nat_le l.from place && nat_lt place l.to && bytes_eq l.name name

-- of two labels that are seen, the one whose block begins later; of one block, the first
abbrev pub inner : ℕ → LabelAt → Option (ℕ × LabelAt) → ℕ × LabelAt
inner n l None = (n, l)
inner n l (Some other) = cond (nat_lt l.from other.1.from) other (n, l)

-- of the labels numbered from n on, the first of the innermost block that has one that is seen
abbrev pub innermost : (LabelAt → Bool) → ℕ → List LabelAt → Option (ℕ × LabelAt)
innermost seen n [] = None
innermost seen n (l ∷ labels) = cond (seen l) (Some (inner n l (innermost seen (n + 1) labels))) (innermost seen (n + 1) labels)

-- the label that a goto goes to, with its number
abbrev pub target : List LabelAt → GotoAt → Option (ℕ × LabelAt)
target labels g = innermost (is_seen g.function g.token g.name) 0 labels

-- what the name of a label is there; none for any other token
abbrev pub jump_to : Option (ℕ × LabelAt) → Option JumpRole
jump_to (Some label) = Some (jump.Goto label.0)
jump_to None = None

abbrev pub goto_role : List LabelAt → List GotoAt → ℕ → Option JumpRole
goto_role labels [] token = None
goto_role labels (g ∷ gotos) token = cond (nat_eq g.label token) (jump_to (target labels g)) (goto_role labels gotos token)

abbrev pub label_role : Option ℕ → Option JumpRole → Option JumpRole
label_role (Some n) other = Some (jump.Label n)
label_role None other = other

abbrev pub jump_role_of : Spelling → List Occurrence → ℕ → Option JumpRole
jump_role_of spelled occurrences token =
    label_role (position_from (λ l. nat_eq l.token token) 0 (labels_of spelled occurrences))
    (goto_role (labels_of spelled occurrences) (gotos_of spelled occurrences) token)

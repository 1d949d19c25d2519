-- The new name at a token, by what is known of names and labels, and by the numbers of new names.
use Rattle.std.specs.Prelude.{◌≡◌, ℕ, ◌<◌, true, Option, Some, None, List, All, slice_get, slice_index_or, if◌then◌else◌}
use Rattle.std.specs.Option.{option_map_or}
use Rattle.luf_lex.specs.declared.token.Tok.{Tok}
use Rattle.luf_lex.specs.declared.token.Tok.TheVariants.{Name}
use Rattle.luf_scope.specs.Links.{NameTable, role_at}
use Rattle.luf_scope.specs.Marks.{mark_at}
use Rattle.luf_scope.specs.declared.binder.Binder.{Binder}
use Rattle.luf_scope.specs.declared.binder.Role.{Role}
use Rattle.luf_scope.specs.declared.binder.Role.TheVariants as role
use Rattle.luf_scope.specs.declared.jump.JumpRole.{JumpRole}
use Rattle.luf_scope.specs.declared.jump.JumpRole.TheVariants as jump
use Rattle.luf_interf.specs.NewNames.{Naming}
use Rattle.luf_interf.specs.inner.LabelNames.{name_of_number, naming_by}
use Rattle.luf_interf.specs.inner.Uses.{nowhere}

-- the new names of local variables, by their numbers
abbrev pub local_naming : List ℕ → Naming
local_naming locals n = name_of_number (slice_index_or locals n nowhere)

abbrev pub local_told : List Binder → List ℕ → ℕ → Option (List ℕ)
local_told binders locals n = if option_map_or (λ b. b.fixed) (slice_get binders n) true then None else Some (local_naming locals n)

abbrev pub label_told : List ℕ → Option JumpRole → Option (List ℕ)
label_told labels (Some (jump.Label n)) = Some (naming_by labels n)
label_told labels (Some (jump.Goto n)) = Some (naming_by labels n)
label_told labels None = None

abbrev pub told_in : List Binder → List ℕ → List ℕ → Option Role → Option JumpRole → Option (List ℕ)
told_in binders locals labels (Some (role.Declares n)) to = local_told binders locals n
told_in binders locals labels (Some (role.Refers n)) to = local_told binders locals n
told_in binders locals labels (Some role.Plain) to = label_told labels to
told_in binders locals labels _ to = None

abbrev pub told_at : NameTable → List (ℕ × JumpRole) → List ℕ → List ℕ → ℕ → Option (List ℕ)
told_at links jumps locals labels token = told_in links.binders locals labels (role_at links token) (mark_at jumps token)

-- the same where a name stands
abbrev pub if_name : Option Tok → Option (List ℕ) → Option (List ℕ)
if_name (Some Name) told = told
if_name _ told = None

abbrev pub name_told : List Tok → NameTable → List (ℕ × JumpRole) → List ℕ → List ℕ → ℕ → Option (List ℕ)
name_told toks links jumps locals labels token = if_name (slice_get toks token) (told_at links jumps locals labels token)

-- the names of the tokens before one are told
pub record AreToldTo (told : ℕ → Option (List ℕ)) (n : ℕ) (names : List (ℕ × List ℕ)) : Type 0 where
  pub at : (token : ℕ) → token < n → mark_at names token ≡ told token
  pub before : All (λ m. m.0 < n) names

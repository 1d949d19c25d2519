-- New names of local variables and labels: the first that are free. A naming gives the name of each local variable by
-- its number, and another that of each label.
--
-- The implicit `self` and each local variable named `_ENV` keep their names (`binder_of`); all others are renamed.
use Rattle.std.specs.Prelude.{◌≡◌, ℕ, ◌<◌, Bool, true, false, Option, Some, None, List, slice_get, if◌then◌else◌}
use Rattle.std.specs.Option.{option_map_or}
use Rattle.luf_name.specs.Barred.{IsBarred}
use Rattle.luf_name.specs.Order.{IsName, IsBefore}
use Rattle.luf_scope.specs.Local.{Spelling, LocalVariable, binder_of, locals_of}
use Rattle.luf_scope.specs.Jump.{LabelAt, jump_role_of}
use Rattle.luf_scope.specs.Marks.{mark_at}
use Rattle.luf_scope.specs.Role.{role_of}
use Rattle.luf_scope.specs.declared.binder.Role.{Role}
use Rattle.luf_scope.specs.declared.binder.Role.TheVariants as role
use Rattle.luf_scope.specs.declared.jump.JumpRole.{JumpRole}
use Rattle.luf_scope.specs.declared.jump.JumpRole.TheVariants as jump
use Rattle.luf_scope.specs.declared.occurrence.Occurrence.{Occurrence}
use Rattle.luf_interf.specs.Interference.{IsLocal, IsLabel, Interferes, IsGlobalAt, LabelsInterfere}

-- the new names by the numbers of local variables, or of labels
abbrev pub Naming : Type 0
Naming = ℕ → List ℕ

abbrev pub is_fixed : LocalVariable → Bool
is_fixed v = (binder_of v).fixed

-- the first name in the order that is free
pub record IsFirstFree (IsFree : List ℕ → Type 0) (name : List ℕ) : Type 0 where
  pub is_name : IsName name
  pub free : IsFree name
  pub first : (other : List ℕ) → IsName other → IsBefore other name → IsFree other → ⊥

module _ (spelled : Spelling) (occurrences : List Occurrence) where
  -- a name that the local variable v, of number n, may have: it is not barred, it is no free name where v is active, and
  -- no earlier renamed local variable that interferes with v has it
  pub record IsFree (naming : Naming) (n : ℕ) (v : LocalVariable) (name : List ℕ) : Type 0 where
    pub allowed : IsBarred name → ⊥
    pub no_global : IsGlobalAt spelled occurrences v name → ⊥
    pub no_earlier : (m : ℕ) (u : LocalVariable) → m < n → IsLocal spelled occurrences m u → is_fixed u ≡ false → Interferes spelled occurrences m v → naming m ≡ name → ⊥

  -- a name that the label l, of number n, may have: it is not barred, and no earlier label that interferes with l has it
  pub record IsFreeLabel (naming : Naming) (n : ℕ) (l : LabelAt) (name : List ℕ) : Type 0 where
    pub allowed : IsBarred name → ⊥
    pub no_earlier : (m : ℕ) (k : LabelAt) → m < n → IsLabel spelled occurrences m k → LabelsInterfere k l → naming m ≡ name → ⊥

  -- each renamed local variable and each label has the first name that it may have
  pub record AreLeast (naming label_naming : Naming) : Type 0 where
    pub locals : (n : ℕ) (v : LocalVariable) → IsLocal spelled occurrences n v → is_fixed v ≡ false → IsFirstFree (IsFree naming n v) (naming n)
    pub labels : (n : ℕ) (l : LabelAt) → IsLabel spelled occurrences n l → IsFirstFree (IsFreeLabel label_naming n l) (label_naming n)

  -- ---- the renamed source

  module _ (naming label_naming : Naming) where
    -- the new name of the local variable of this number, whose name is this
    abbrev pub new_name : ℕ → List ℕ → List ℕ
    new_name n name = if option_map_or is_fixed (slice_get (locals_of spelled occurrences) n) true then name else naming n

    -- the new name of a label, at the label or at a goto; the word itself where it is none
    abbrev pub new_label : Option JumpRole → List ℕ → List ℕ
    new_label (Some (jump.Label n)) word = label_naming n
    new_label (Some (jump.Goto n)) word = label_naming n
    new_label None word = word

    -- the new word of a token of this role, which is spelled so
    abbrev pub new_word : Role → Option JumpRole → List ℕ → List ℕ
    new_word (role.Declares n) to word = new_name n word
    new_word (role.Refers n) to word = new_name n word
    new_word role.Plain to word = new_label to word
    new_word _ to word = word

    -- how each token is spelled after it
    abbrev pub renamed : Spelling
    renamed token = new_word (role_of spelled occurrences token) (jump_role_of spelled occurrences token) (spelled token)

    -- the new name of the local variable of this number, if it is renamed
    abbrev pub name_of_local : ℕ → Option (List ℕ)
    name_of_local n = if option_map_or is_fixed (slice_get (locals_of spelled occurrences) n) true then None else Some (naming n)

    -- the new name of a label, at the label or at a goto
    abbrev pub name_of_label : Option JumpRole → Option (List ℕ)
    name_of_label (Some (jump.Label n)) = Some (label_naming n)
    name_of_label (Some (jump.Goto n)) = Some (label_naming n)
    name_of_label None = None

    -- the new name at a token of this role, if it is that of a renamed local variable or of a label
    abbrev pub name_in : Role → Option JumpRole → Option (List ℕ)
    name_in (role.Declares n) to = name_of_local n
    name_in (role.Refers n) to = name_of_local n
    name_in role.Plain to = name_of_label to
    name_in _ to = None

    -- the new name at each token that has one
    abbrev pub new_name_at : ℕ → Option (List ℕ)
    new_name_at token = name_in (role_of spelled occurrences token) (jump_role_of spelled occurrences token)

  -- what is written down of new names, by tokens, is the least names
  pub record AreNames (names : List (ℕ × List ℕ)) : Type 0 where
    pub naming : Naming
    pub label_naming : Naming
    pub least : AreLeast naming label_naming
    pub at : (token : ℕ) → mark_at names token ≡ new_name_at naming label_naming token

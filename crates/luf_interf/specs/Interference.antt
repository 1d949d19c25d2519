-- Which local variables, and which labels, may not be given one name.
use Rattle.std.specs.Prelude.{◌≡◌, ℕ, ◌≤◌, ◌⊎◌, true, Option, Some, None, List, slice_get}
use Rattle.std.specs.List.{list_any}
use Rattle.luf_scope.specs.Local.{Spelling, LocalVariable, locals_of, is_active, meaning}
use Rattle.luf_scope.specs.Jump.{LabelAt, labels_of}
use Rattle.luf_scope.specs.Role.{is_variable}
use Rattle.luf_scope.specs.declared.occurrence.Occurrence.{Occurrence}

module _ (spelled : Spelling) (occurrences : List Occurrence) where
  -- the local variable, and the label, of this number
  abbrev pub IsLocal : ℕ → LocalVariable → Type 0
  IsLocal n v = slice_get (locals_of spelled occurrences) n ≡ Some v

  abbrev pub IsLabel : ℕ → LabelAt → Type 0
  IsLabel n l = slice_get (labels_of spelled occurrences) n ≡ Some l

  -- a name stands there that is read or assigned
  abbrev pub IsReference : ℕ → Type 0
  IsReference token = list_any (is_variable token) occurrences ≡ true

  -- the number of the local variable that it refers to; none where it is free
  abbrev pub meant : ℕ → Option ℕ
  meant token = meaning (locals_of spelled occurrences) token (spelled token)

  -- some reference to the local variable u stands where v is active
  pub record Interferes (u : ℕ) (v : LocalVariable) : Type 0 where
    pub token : ℕ
    pub reference : IsReference token
    pub means : meant token ≡ Some u
    pub active : is_active token v ≡ true

  -- some free name of this spelling stands where v is active, whichever `_ENV` it is a field of
  pub record IsGlobalAt (v : LocalVariable) (name : List ℕ) : Type 0 where
    pub token : ℕ
    pub reference : IsReference token
    pub free : meant token ≡ None
    pub active : is_active token v ≡ true
    pub spelling : spelled token ≡ name

-- the block of one label is or holds that of another
abbrev pub HoldsBlock : LabelAt → LabelAt → Type 0
HoldsBlock l m = (l.from ≤ m.from) × (m.to ≤ l.to)

-- of labels of one function, the block of one is or holds the other's
pub record LabelsInterfere (l m : LabelAt) : Type 0 where
  pub function : l.function ≡ m.function
  pub blocks : HoldsBlock l m ⊎ HoldsBlock m l

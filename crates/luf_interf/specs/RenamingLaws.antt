-- What a renaming leaves as it is.
use Rattle.std.specs.Prelude.{◌≡◌, ℕ, ◌<◌, ◌↔◌, true, false, Option, Some, None, List, All, is_some}
use Rattle.luf_lex.specs.declared.token.Tok.{Tok}
use Rattle.luf_tree.specs.declared.tree.Chunk.{Chunk}
use Rattle.luf_tree.specs.Grammar.{IsChunk}
use Rattle.luf_tree.specs.SyntaxOf.{syntax_of}
use Rattle.luf_scope.specs.Local.{Spelling, LocalVariable, is_active}
use Rattle.luf_scope.specs.Jump.{LabelAt, labels_of, gotos_of, target, jump_role_of}
use Rattle.luf_scope.specs.Occurrences.{occurrences_in_block}
use Rattle.luf_scope.specs.Role.{role_of}
use Rattle.luf_scope.specs.Fault.{scope_fault}
use Rattle.luf_scope.specs.declared.occurrence.Occurrence.{Occurrence}
use Rattle.luf_resolved.specs.Resolved.{resolved}
use Rattle.luf_interf.specs.Interference.{IsLocal, IsLabel, IsReference, meant}
use Rattle.luf_interf.specs.NewNames.{Naming, is_fixed, AreLeast, new_name, renamed}

abbrev pub said_in : Chunk → List Occurrence
said_in chunk = occurrences_in_block (syntax_of chunk)

-- a local variable of this number is later than what a reference means, or the reference is free
abbrev pub IsLater : Option ℕ → ℕ → Type 0
IsLater None w = Unit {0}
IsLater (Some u) w = u < w

module _ (spelled : Spelling) (occurrences : List Occurrence) (naming label_naming : Naming) where
  -- a local variable that is active there, and later than what the reference means, gets the name that the reference gets
  pub record IsCaptured (token : ℕ) : Type 0 where
    pub number : ℕ
    pub local : LocalVariable
    pub is : IsLocal spelled occurrences number local
    pub active : is_active token local ≡ true
    pub later : IsLater (meant spelled occurrences token) number
    pub taken : new_name spelled occurrences naming label_naming number local.name ≡ renamed spelled occurrences naming label_naming token

-- Whatever the naming, a reference means the same local variable after it, or is free as before, exactly where nothing
-- captures it.
abbrev pub CapturedOrAlike : Type 0
CapturedOrAlike =
    (toks : List Tok) (chunk : Chunk) (spelled : Spelling) (naming label_naming : Naming) (token : ℕ) → IsChunk toks chunk → IsReference spelled (said_in chunk) token
    → (meant (renamed spelled (said_in chunk) naming label_naming) (said_in chunk) token ≡ meant spelled (said_in chunk) token) ↔ (IsCaptured spelled (said_in chunk) naming label_naming token → ⊥)

-- under least names nothing is captured
abbrev pub LeastIsFree : Type 0
LeastIsFree =
    (toks : List Tok) (chunk : Chunk) (spelled : Spelling) (naming label_naming : Naming) (token : ℕ) → IsChunk toks chunk → AreLeast spelled (said_in chunk) naming label_naming → IsReference spelled (said_in chunk) token
    → IsCaptured spelled (said_in chunk) naming label_naming token → ⊥

-- the names of two namings by least names
pub record NamesAgree (spelled : Spelling) (occurrences : List Occurrence) (naming label_naming other other_labels : Naming) : Type 0 where
  pub locals : (n : ℕ) (v : LocalVariable) → IsLocal spelled occurrences n v → is_fixed v ≡ false → naming n ≡ other n
  pub labels : (n : ℕ) (l : LabelAt) → IsLabel spelled occurrences n l → label_naming n ≡ other_labels n

-- the least names of a source are one
abbrev pub OneNaming : Type 0
OneNaming =
    (spelled : Spelling) (occurrences : List Occurrence) (naming label_naming other other_labels : Naming) → AreLeast spelled occurrences naming label_naming → AreLeast spelled occurrences other other_labels
    → NamesAgree spelled occurrences naming label_naming other other_labels

-- under least names each token has the role that it had
abbrev pub LeastNamesKeepRoles : Type 0
LeastNamesKeepRoles =
    (toks : List Tok) (chunk : Chunk) (spelled : Spelling) (naming label_naming : Naming) (token : ℕ) → IsChunk toks chunk → AreLeast spelled (said_in chunk) naming label_naming
    → role_of (renamed spelled (said_in chunk) naming label_naming) (said_in chunk) token ≡ role_of spelled (said_in chunk) token

-- each goto of the source has a label to go to
abbrev pub HaveLabels : Spelling → List Occurrence → Type 0
HaveLabels spelled occurrences = All (λ g. is_some (target (labels_of spelled occurrences) g) ≡ true) (gotos_of spelled occurrences)

-- under least names each label has its number, and each goto goes to the label that it went to
abbrev pub LeastNamesKeepJumps : Type 0
LeastNamesKeepJumps =
    (toks : List Tok) (chunk : Chunk) (spelled : Spelling) (naming label_naming : Naming) (token : ℕ) → IsChunk toks chunk → AreLeast spelled (said_in chunk) naming label_naming → HaveLabels spelled (said_in chunk)
    → jump_role_of (renamed spelled (said_in chunk) naming label_naming) (said_in chunk) token ≡ jump_role_of spelled (said_in chunk) token

-- a chunk under least names resolves to what it resolved to
abbrev pub LeastNamesResolveAlike : Type 0
LeastNamesResolveAlike =
    (toks : List Tok) (chunk : Chunk) (spelled : Spelling) (naming label_naming : Naming) → IsChunk toks chunk → AreLeast spelled (said_in chunk) naming label_naming → HaveLabels spelled (said_in chunk)
    → resolved (renamed spelled (said_in chunk) naming label_naming) (syntax_of chunk) ≡ resolved spelled (syntax_of chunk)

-- a source without scope faults has none under least names
abbrev pub LeastNamesHaveNoFault : Type 0
LeastNamesHaveNoFault =
    (toks : List Tok) (chunk : Chunk) (spelled : Spelling) (naming label_naming : Naming) → IsChunk toks chunk → AreLeast spelled (said_in chunk) naming label_naming
    → scope_fault spelled (said_in chunk) ≡ None → scope_fault (renamed spelled (said_in chunk) naming label_naming) (said_in chunk) ≡ None

-- each source has least names
abbrev pub LeastNamesExist : Type 0
LeastNamesExist = (spelled : Spelling) (occurrences : List Occurrence) → (naming : Naming) × (label_naming : Naming) × AreLeast spelled occurrences naming label_naming

-- What the references of a chunk refer to, the scopes of its renamed local variables, and numbers of least names.
use Rattle.std.specs.Prelude.{◌≡◌, ℕ, ◌+◌, ◌<◌, ◌⊎◌, Bool, true, false, cond, Option, Some, None, List, [], ◌∷◌, drop, length, slice_index_or}
use Rattle.std.specs.List.{cons_option}
use Rattle.luf_name.specs.Barred.{IsBarred}
use Rattle.luf_name.specs.Order.{IsNth}
use Rattle.luf_scope.specs.Local.{Spelling, LocalVariable, locals_of}
use Rattle.luf_scope.specs.declared.occurrence.Occurrence.{Occurrence}
use Rattle.luf_scope.specs.inner.Scopes.{used_by}
use Rattle.luf_interf.specs.Interference.{IsLocal, meant}
use Rattle.luf_interf.specs.NewNames.{Naming, is_fixed, IsFirstFree, IsFree}
use Rattle.luf_interf.specs.declared.uses.Owner.{Owner}
use Rattle.luf_interf.specs.declared.uses.Owner.TheVariants as owner
use Rattle.luf_interf.specs.declared.uses.Use.{Use}
use Rattle.luf_interf.specs.declared.uses.Scope.{Scope}
use Rattle.luf_interf.specs.inner.Uses.{nowhere, AreFirsts, IsTable}

-- What a free name refers to, where local variables are given names of so many numbers: none where it is barred or has
-- none of these numbers.
pub data IsFreeOwner (size : ℕ) (name : List ℕ) : Option Owner → Type 0 where
  a_number : {k : ℕ} → IsNth name k → k < size → (IsBarred name → ⊥) → IsFreeOwner size name (Some (owner.Free k))
  no_number : ((k : ℕ) → k < size → IsNth name k → IsBarred name) → IsFreeOwner size name None

module _ (spelled : Spelling) (occurrences : List Occurrence) where
  -- what the reference at a token refers to: none for a local variable that keeps its name
  pub data IsOwner (size token : ℕ) : Option Owner → Type 0 where
    renamed : {n : ℕ} {v : LocalVariable} → meant spelled occurrences token ≡ Some n → IsLocal spelled occurrences n v → is_fixed v ≡ false → IsOwner size token (Some (owner.Local n))
    fixed : {n : ℕ} {v : LocalVariable} → meant spelled occurrences token ≡ Some n → IsLocal spelled occurrences n v → is_fixed v ≡ true → IsOwner size token None
    free : {owner : Option Owner} → meant spelled occurrences token ≡ None → IsFreeOwner size (spelled token) owner → IsOwner size token owner

  -- the references among these occurrences that refer to something
  pub data AreUses (size : ℕ) : List Occurrence → List Use → Type 0 where
    no_uses : AreUses size [] []
    no_name : {o : Occurrence} {os : List Occurrence} {uses : List Use} → used_by o ≡ None → AreUses size os uses → AreUses size (o ∷ os) uses
    no_owner : {token : ℕ} {o : Occurrence} {os : List Occurrence} {uses : List Use} → used_by o ≡ Some token → IsOwner size token None → AreUses size os uses → AreUses size (o ∷ os) uses
    a_use : {u : Use} {o : Occurrence} {os : List Occurrence} {uses : List Use} → used_by o ≡ Some u.token → IsOwner size u.token (Some u.owner) → AreUses size os uses → AreUses size (o ∷ os) (u ∷ uses)

  -- the references among those from a place on are read, before any local variable has a number
  pub record IsReading (place : ℕ) (names behind heads firsts : List ℕ) (uses : List Use) : Type 0 where
    pub are : AreUses (length heads) (drop place occurrences) uses
    pub table : IsTable names behind heads uses
    pub first : AreFirsts firsts uses
    pub count : length firsts ≡ length (locals_of spelled occurrences)
    pub unnamed : (n : ℕ) → slice_index_or names n nowhere ≡ nowhere

  -- names of these numbers are least names of the local variables
  abbrev pub AreLocalNames : List ℕ → Type 0
  AreLocalNames numbers =
      (naming : Naming) → ((n : ℕ) → IsNth (naming n) (slice_index_or numbers n nowhere))
      → (n : ℕ) (v : LocalVariable) → IsLocal spelled occurrences n v → is_fixed v ≡ false → IsFirstFree (IsFree spelled occurrences naming n v) (naming n)

-- the scope of a local variable of this number; none where it keeps its name
abbrev pub scope_at : Bool → ℕ → ℕ → ℕ → Option Scope
scope_at kept n from to = cond kept None (Some (record { local = n; from = from; to = to }))

-- the scopes of those of local variables numbered from n on that are renamed
abbrev pub scopes_from : ℕ → List LocalVariable → List Scope
scopes_from n [] = []
scopes_from n (v ∷ locals) = cons_option (scope_at (is_fixed v) n v.from v.to) (scopes_from (n + 1) locals)

-- one scope begins before the other, or with it and has the lower number
abbrev pub Begins : Scope → Scope → Type 0
Begins s t = (s.from < t.from) ⊎ ((s.from ≡ t.from) × (s.local < t.local))

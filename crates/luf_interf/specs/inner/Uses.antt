-- The references of a chunk one behind another, each with what it refers to, and a table of the next use of each name.
use Rattle.std.specs.Prelude.{◌≡◌, ℕ, ◌<◌, ◌≤◌, ◌⊎◌, Bool, true, false, ◌&&◌, cond, nat_eq, nat_le, nat_lt, List, [], ◌∷◌, ◌++◌, length, slice_index_or, slice_set, All, AllPairs}
use Rattle.std.specs.List.{list_any}
use Rattle.luf_name.specs.Barred.{IsBarred}
use Rattle.luf_name.specs.Order.{IsNth}
use Rattle.luf_interf.specs.declared.uses.Owner.{Owner}
use Rattle.luf_interf.specs.declared.uses.Owner.TheVariants as owner
use Rattle.luf_interf.specs.declared.uses.Use.{Use}
use Rattle.luf_interf.specs.declared.uses.Scope.{Scope}

-- behind all tokens; as the number of a name, none yet
abbrev pub nowhere : ℕ
nowhere = 4294967295

-- the number of a barred name
pub record IsBarredNumber (k : ℕ) : Type 0 where
  pub name : List ℕ
  pub is : IsNth name k
  pub barred : IsBarred name

-- the number of the name that stands for what is referred to
abbrev pub number_of : List ℕ → Owner → ℕ
number_of names (owner.Local n) = slice_index_or names n nowhere
number_of names (owner.Free k) = k

abbrev pub has_number : List ℕ → ℕ → Use → Bool
has_number names k u = nat_eq (number_of names u.owner) k

abbrev pub is_local : ℕ → Owner → Bool
is_local n (owner.Local m) = nat_eq m n
is_local n (owner.Free k) = false

-- a reference to this local variable
abbrev pub is_of : ℕ → Use → Bool
is_of n u = is_local n u.owner

-- the token of the first that passes
abbrev pub next_of : (Use → Bool) → List Use → ℕ
next_of test [] = nowhere
next_of test (u ∷ uses) = cond (test u) u.token (next_of test uses)

-- what came next of its name when a local variable was given it
abbrev pub behind_of : List ℕ → Owner → ℕ
behind_of behind (owner.Local n) = slice_index_or behind n nowhere
behind_of behind (owner.Free k) = nowhere

-- the next use of the name of a reference
abbrev pub following : List ℕ → Use → ℕ
following behind u = cond (nat_eq u.next nowhere) (behind_of behind u.owner) u.next

-- a reference, with those behind it, where there are names of so many numbers
pub record IsLinked (size : ℕ) (names behind : List ℕ) (u : Use) (uses : List Use) : Type 0 where
  pub rising : All (λ w. u.token < w.token) uses
  pub before : u.token < nowhere
  pub next : (n : ℕ) → is_of n u ≡ true → u.next ≡ next_of (is_of n) uses
  pub follows : number_of names u.owner < size → following behind u ≡ next_of (has_number names (number_of names u.owner)) uses
  pub allowed : number_of names u.owner < size → IsBarredNumber (number_of names u.owner) → ⊥

abbrev pub AreLinked : ℕ → List ℕ → List ℕ → List Use → Type 0
AreLinked size names behind [] = Unit {0}
AreLinked size names behind (u ∷ uses) = IsLinked size names behind u uses × AreLinked size names behind uses

-- the next use of the name of number k; 0 for a barred one
abbrev pub IsHead : List ℕ → List Use → ℕ → ℕ → Type 0
IsHead names uses k head = (IsBarredNumber k × (head ≡ 0)) ⊎ ((IsBarredNumber k → ⊥) × (head ≡ next_of (has_number names k) uses))

-- the table of a place, before which no reference of the list stands
pub record IsTable (names behind heads : List ℕ) (uses : List Use) : Type 0 where
  pub small : length heads < nowhere
  pub tells : (k : ℕ) → k < length heads → IsHead names uses k (slice_index_or heads k 0)
  pub linked : AreLinked (length heads) names behind uses

-- a name of this number is used where a local variable is active
abbrev pub is_used : List ℕ → Scope → ℕ → Use → Bool
is_used names s k u = (nat_le s.from u.token && nat_lt u.token s.to) && has_number names k u

-- a number that a local variable cannot have
abbrev pub IsTaken : List Use → List ℕ → Scope → ℕ → Type 0
IsTaken uses names s k = IsBarredNumber k ⊎ (list_any (is_used names s k) uses ≡ true)

-- the first number that it can have
pub record IsChoice (uses : List Use) (names : List ℕ) (s : Scope) (k : ℕ) : Type 0 where
  pub free : IsTaken uses names s k → ⊥
  pub first : (j : ℕ) → j < k → IsTaken uses names s j

-- local variables are given their first numbers one after another
pub data AreNamed (size : ℕ) (uses : List Use) : List ℕ → List Scope → List ℕ → Type 0 where
  named : {names : List ℕ} → AreNamed size uses names [] names
  name_next : {names : List ℕ} {s : Scope} {scopes : List Scope} {k : ℕ} {final : List ℕ} → k < size → IsChoice uses names s k → AreNamed size uses (slice_set names s.local k) scopes final → AreNamed size uses names (s ∷ scopes) final

-- the token at which the first one stands
abbrev pub first_token : List Use → ℕ
first_token [] = nowhere
first_token (u ∷ uses) = u.token

-- some that stand before a place are passed
pub record IsPassed (place : ℕ) (uses rest : List Use) : Type 0 where
  pub done : List Use
  pub whole : done ++ rest ≡ uses
  pub before : All (λ u. u.token < place) done

-- a local variable that has no number yet, with all references to it
pub record IsScope (uses : List Use) (names firsts : List ℕ) (s : Scope) : Type 0 where
  pub some : 0 < s.to
  pub within : s.local < length names
  pub unnamed : slice_index_or names s.local nowhere ≡ nowhere
  pub holds : All (λ u. is_of s.local u ≡ true → (s.from ≤ u.token) × (u.token < s.to)) uses
  pub first : slice_index_or firsts s.local nowhere ≡ next_of (is_of s.local) uses

-- local variables in the order in which their scopes begin
pub record AreScopes (uses : List Use) (names firsts : List ℕ) (scopes : List Scope) : Type 0 where
  pub rising : AllPairs (λ s t. s.from ≤ t.from) scopes
  pub apart : AllPairs (λ s t. s.local ≡ t.local → ⊥) scopes
  pub each : All (IsScope uses names firsts) scopes

-- the tokens of the first references to local variables
abbrev pub AreFirsts : List ℕ → List Use → Type 0
AreFirsts firsts uses = (n : ℕ) → n < length firsts → slice_index_or firsts n nowhere ≡ next_of (is_of n) uses

-- a reference may refer to it before any local variable has a number
abbrev pub CanStand : List ℕ → ℕ → ℕ → Owner → Type 0
CanStand names size count (owner.Local n) = (n < count) × (slice_index_or names n nowhere ≡ nowhere)
CanStand names size count (owner.Free k) = (k < size) × (IsBarredNumber k → ⊥)

-- a reference is put in front
pub record IsPut (token : ℕ) (what : Owner) (uses more : List Use) : Type 0 where
  pub first : Use
  pub is : more ≡ first ∷ uses
  pub token_is : first.token ≡ token
  pub owner_is : first.owner ≡ what

-- of so many numbers, 0 at those of barred names, and nowhere at all others
pub record AreBarred (size : ℕ) (heads : List ℕ) : Type 0 where
  pub count : length heads ≡ size
  pub told : (k : ℕ) → k < size → IsHead [] [] k (slice_index_or heads k 0)

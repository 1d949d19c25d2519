-- What a name means, read off scopes in the order in which they begin, is what the definition says.
use Rattle.std.proofs.Common.{◌≡◌, ℕ, zero, suc, ◌+◌, ◌<◌, ◌≤◌, ◌≢◌, ◌⊎◌, inl, inr, Bool, true, false, ◌&&◌, cond, nat_eq, nat_le, nat_lt, bytes_eq, Option, Some, None, IfSome, unwrap_or, List, [], ◌∷◌, length, get_or, refl, sym, ap, ◌∙◌, subst, arith, All, AllPairs}
use Rattle.std.specs.List.{cons_option, position_from}
use Rattle.std.specs.Option.{option_or, option_map, option_and_then}
use Rattle.std.proofs.lemmas.Bool.Decides.{nat_tests}
use Rattle.std.proofs.lemmas.List.Elements.{All-head, All-tail, All-cons, All-nil}
use Rattle.std.proofs.lemmas.List.Kept.{AllPairs-cons}
use Rattle.std.proofs.lemmas.List.Sorted.{All-permutation, length_permutation}
use Rattle.std.proofs.lemmas.Slice.Eq.{bytes_eq-Decides}
use Rattle.luf_scope.specs.Local.{Spelling, LocalVariable, declared_by, locals_of, is_active, last_passing, meaning}
use Rattle.luf_scope.specs.Order.{declares, from_of, to_of, Follows}
use Rattle.luf_scope.specs.declared.occurrence.Occurrence.{Occurrence}
use Rattle.luf_scope.specs.declared.occurrence.Occurrence.TheVariants.{Local, LocalFunction, Parameter, ImplicitSelf, LoopVariable}
use Rattle.luf_scope.specs.declared.scopes.Scope.{Scope}
use Rattle.luf_scope.specs.inner.Last.{last_such}
use Rattle.luf_scope.specs.inner.Scopes.{name_number, scopes_from, Begins, AreInOrder, is_meant, meant_at, used_by, meant_by, meaning_of}
use Rattle.luf_scope.specs.inner.Sweep.{AreRanged}
use Rattle.luf_scope.proofs.Laying.{all_filter_map}
use Rattle.luf_scope.proofs.Marked.{pairs_head, pairs_tail}
use Rattle.luf_scope.proofs.Meant.{Nested, LocalsNested, same_last, rise_here, rise_there}

-- ---- names by their numbers

cond_some : (b : Bool) (n : ℕ) (r : Option ℕ) (k : ℕ) → cond b (Some n) r ≡ Some k → ((b ≡ true) × (n ≡ k)) ⊎ ((b ≡ false) × (r ≡ Some k))
cond_some true n r k is = let same : n ≡ k = cc in inl (refl, same)
cond_some false n r k is = inr (refl, is)

cond_none : (b : Bool) (n : ℕ) (r : Option ℕ) → cond b (Some n) r ≡ None → (b ≡ false) × (r ≡ None)
cond_none true n r is = absurd cc
cond_none false n r is = (refl, is)

position_range : {A : Type 0} (test : A → Bool) (n : ℕ) (xs : List A) (k : ℕ) → position_from test n xs ≡ Some k → (n ≤ k) × (k < n + length xs)
position_range test n [] k is = absurd cc
position_range test n (x ∷ xs) k is = elim (cond_some (test x) n (position_from test (n + 1) xs) k is) [
  | inl here ↦ (omega (arith, here.1), omega (arith, here.1))
  | inr there ↦ let h = position_range test (n + 1) xs k there.1 in (omega (arith, h.0), omega (arith, h.1))
]

position_none : {A : Type 0} (test : A → Bool) (n : ℕ) (xs : List A) → position_from test n xs ≡ None → All (λ x. test x ≡ false) xs
position_none test n [] is = All-nil (λ x. test x ≡ false)
position_none test n (x ∷ xs) is = let h = cond_none (test x) n (position_from test (n + 1) xs) is in All-cons (λ y. test y ≡ false) x xs h.0 (position_none test (n + 1) xs h.1)

no_yes : (b : Bool) → b ≡ false → b ≡ true → ⊥
no_yes true f t = cc
no_yes false f t = cc

-- two names with one number are one
both_named : (vs : List LocalVariable) (n k : ℕ) (p q : List ℕ) → position_from (λ v. bytes_eq v.name p) n vs ≡ Some k → position_from (λ v. bytes_eq v.name q) n vs ≡ Some k → p ≡ q
both_named [] n k p q is is' = absurd cc
both_named (v ∷ vs) n k p q is is' = elim (cond_some (bytes_eq v.name p) n (position_from (λ u. bytes_eq u.name p) (n + 1) vs) k is) [
  | inl here ↦ elim (cond_some (bytes_eq v.name q) n (position_from (λ u. bytes_eq u.name q) (n + 1) vs) k is') [
    | inl here' ↦ sym ((bytes_eq-Decides v.name p).0 here.0) ∙ (bytes_eq-Decides v.name q).0 here'.0
    | inr there' ↦ let h = position_range (λ u. bytes_eq u.name q) (n + 1) vs k there'.1 in absurd (omega (arith, h.0, here.1))
  ]
  | inr there ↦ elim (cond_some (bytes_eq v.name q) n (position_from (λ u. bytes_eq u.name q) (n + 1) vs) k is') [
    | inl here' ↦ let h = position_range (λ u. bytes_eq u.name p) (n + 1) vs k there.1 in absurd (omega (arith, h.0, here'.1))
    | inr there' ↦ both_named vs (n + 1) k p q there.1 there'.1
  ]
]

module _ (locals : List LocalVariable) (number : List ℕ → Option ℕ) (numbers : (name : List ℕ) → number name ≡ name_number locals name) where
  -- the variables of a name are those that have its number
  agree : (name : List ℕ) (k : ℕ) → number name ≡ Some k → All (λ v. nat_eq (unwrap_or (number v.name) 0) k ≡ bytes_eq v.name name) locals
  agree name k is i d inside = decide (get_or locals i d) (λ none. no_yes (bytes_eq (get_or locals i d).name (get_or locals i d).name) (position_none (λ v. bytes_eq v.name (get_or locals i d).name) 0 locals none i d inside) ((bytes_eq-Decides (get_or locals i d).name (get_or locals i d).name).1 refl)) (number (get_or locals i d).name) (bytes_eq (get_or locals i d).name name) refl refl
    where
      decide : (v : LocalVariable) → (name_number locals v.name ≡ None → ⊥) → (r : Option ℕ) (b : Bool) → number v.name ≡ r → bytes_eq v.name name ≡ b → nat_eq (unwrap_or r 0) k ≡ b
      decide v some None b r t = absurd (some (sym (numbers v.name) ∙ r))
      decide v some (Some m) true r t = let same : v.name ≡ name = (bytes_eq-Decides v.name name).0 t in let found : Some m ≡ Some k = sym r ∙ ap number same ∙ is in let eq : m ≡ k = cc in grind (arith, nat_tests)
      decide v some (Some m) false r t =
          let apart : m ≢ k = λ eq. no_yes (bytes_eq v.name name) t ((bytes_eq-Decides v.name name).1 (both_named locals 0 k v.name name (sym (numbers v.name) ∙ r ∙ ap Some eq) (sym (numbers name) ∙ is))) in
          grind (arith, nat_tests)

map_or : (r : Option Scope) (b : Bool) (s : Scope) → option_map (λ t. t.local) (option_or r (cond b (Some s) None)) ≡ option_or (option_map (λ t. t.local) r) (cond b (Some s.local) None)
map_or (Some t) b s = refl
map_or None true s = refl
map_or None false s = refl

turned : (a b c d : Bool) → a ≡ d → ((a && b) && c) ≡ ((b && c) && d)
turned true true true d is = is
turned true true false d is = refl
turned true false c d is = refl
turned false b c d is = last b c d is
  where
    last : (b c d : Bool) → false ≡ d → false ≡ ((b && c) && d)
    last true true d is = is
    last true false d is = refl
    last false c d is = refl

meant_locals : (number : List ℕ → Option ℕ) (k p n : ℕ) (name : List ℕ) (vs : List LocalVariable) → All (λ v. nat_eq (unwrap_or (number v.name) 0) k ≡ bytes_eq v.name name) vs → option_map (λ s. s.local) (last_such (is_meant k p) (scopes_from number n vs)) ≡ last_passing (λ v. is_active p v && bytes_eq v.name name) n vs
meant_locals number k p n name [] same = refl
meant_locals number k p n name (v ∷ vs) same =
    let s : Scope = record { name = unwrap_or (number v.name) 0; local = n; from = v.from; to = v.to } in
    map_or (last_such (is_meant k p) (scopes_from number (n + 1) vs)) (is_meant k p s) s
    ∙ ap (λ r. option_or r (cond (is_meant k p s) (Some n) None)) (meant_locals number k p (n + 1) name vs (All-tail (λ u. nat_eq (unwrap_or (number u.name) 0) k ≡ bytes_eq u.name name) v vs same))
    ∙ ap (λ b. option_or (last_passing (λ u. is_active p u && bytes_eq u.name name) (n + 1) vs) (cond b (Some n) None)) (turned (nat_eq (unwrap_or (number v.name) 0) k) (nat_le v.from p) (nat_lt p v.to) (bytes_eq v.name name) (All-head (λ u. nat_eq (unwrap_or (number u.name) 0) k ≡ bytes_eq u.name name) v vs same))

passing_none : (p n : ℕ) (name : List ℕ) (vs : List LocalVariable) → All (λ v. bytes_eq v.name name ≡ false) vs → None ≡ last_passing (λ v. is_active p v && bytes_eq v.name name) n vs
passing_none p n name [] none = refl
passing_none p n name (v ∷ vs) none =
    ap (λ r. option_or r None) (passing_none p (n + 1) name vs (All-tail (λ u. bytes_eq u.name name ≡ false) v vs none))
    ∙ ap (λ b. option_or (last_passing (λ u. is_active p u && bytes_eq u.name name) (n + 1) vs) (cond b (Some n) None)) (sym (and_none (is_active p v) (bytes_eq v.name name) (All-head (λ u. bytes_eq u.name name ≡ false) v vs none)))
  where
    and_none : (a b : Bool) → b ≡ false → (a && b) ≡ false
    and_none true b is = is
    and_none false b is = refl

-- ---- scopes by their variables

all_scopes : (P : Scope → Type 0) (number : List ℕ → Option ℕ) (n : ℕ) (vs : List LocalVariable) → All (λ v. (m : ℕ) → P (record { name = unwrap_or (number v.name) 0; local = m; from = v.from; to = v.to })) vs → All P (scopes_from number n vs)
all_scopes P number n [] each = All-nil P
all_scopes P number n (v ∷ vs) each =
    let here : (m : ℕ) → P (record { name = unwrap_or (number v.name) 0; local = m; from = v.from; to = v.to }) = each zero v (omega arith) in
    All-cons P (record { name = unwrap_or (number v.name) 0; local = n; from = v.from; to = v.to }) (scopes_from number (n + 1) vs) (here n) (all_scopes P number (n + 1) vs (λ i d inside. each (suc i) d (omega arith)))

-- the same numbers make the same scopes
pub same_scopes : (number number' : List ℕ → Option ℕ) → ((name : List ℕ) → number name ≡ number' name) → (n : ℕ) (vs : List LocalVariable) → scopes_from number n vs ≡ scopes_from number' n vs
same_scopes number number' same n [] = refl
same_scopes number number' same n (v ∷ vs) =
    ap (λ (r : Option ℕ). record { name = unwrap_or r 0; local = n; from = v.from; to = v.to } ∷ scopes_from number (n + 1) vs) (same v.name)
    ∙ ap (λ ss. record { name = unwrap_or (number' v.name) 0; local = n; from = v.from; to = v.to } ∷ ss) (same_scopes number number' same (n + 1) vs)

scopes_numbered : (number : List ℕ → Option ℕ) (n : ℕ) (vs : List LocalVariable) (i : ℕ) (d : Scope) → i < length (scopes_from number n vs) → (get_or (scopes_from number n vs) i d).local ≡ n + i
scopes_numbered number n [] i d inside = absurd (omega arith)
scopes_numbered number n (v ∷ vs) zero d inside = omega arith
scopes_numbered number n (v ∷ vs) (suc i) d inside = omega (arith, scopes_numbered number (n + 1) vs i d (omega arith))

pub numbered_from : (number : List ℕ → Option ℕ) (vs : List LocalVariable) (scopes : List Scope) → scopes ≡ scopes_from number 0 vs → (i : ℕ) (d : Scope) → i < length scopes → (get_or scopes i d).local ≡ i
numbered_from number vs scopes are i d inside = ap (λ ss. (get_or ss i d).local) are ∙ scopes_numbered number 0 vs i d (subst (λ ss. i < length ss) are inside) ∙ (let e : 0 + i ≡ i = omega arith in e)

scopes_length : (number : List ℕ → Option ℕ) (n : ℕ) (vs : List LocalVariable) → length (scopes_from number n vs) ≡ length vs
scopes_length number n [] = refl
scopes_length number n (v ∷ vs) = ap suc (scopes_length number (n + 1) vs)

scopes_nested : (number : List ℕ → Option ℕ) (n : ℕ) (vs : List LocalVariable) → AllPairs LocalsNested vs → AllPairs Nested (scopes_from number n vs)
scopes_nested number n [] nested = λ i j d less inside. absurd (omega arith)
scopes_nested number n (v ∷ vs) nested =
    let s : Scope = record { name = unwrap_or (number v.name) 0; local = n; from = v.from; to = v.to } in
    AllPairs-cons Nested s (scopes_from number (n + 1) vs)
    (all_scopes (Nested s) number (n + 1) vs (λ i d inside m. pairs_head LocalsNested v vs nested i d inside))
    (scopes_nested number (n + 1) vs (pairs_tail LocalsNested v vs nested))

-- a local variable and what declares it
record IsOf (v : LocalVariable) (o : Occurrence) : Type 0 where
  declared : declares o ≡ true
  from : from_of o ≡ v.from
  to : to_of o ≡ v.to

declared_is : (spelled : Spelling) (o : Occurrence) → IfSome (declared_by spelled o) (λ v. IsOf v o)
declared_is spelled (Local name attribute from to) = record { declared = refl; from = refl; to = refl }
declared_is spelled (LocalFunction name from to) = record { declared = refl; from = refl; to = refl }
declared_is spelled (Parameter name from to) = record { declared = refl; from = refl; to = refl }
declared_is spelled (ImplicitSelf colon from to) = record { declared = refl; from = refl; to = refl }
declared_is spelled (LoopVariable name from to) = record { declared = refl; from = refl; to = refl }
declared_is spelled o = tt

one_nested : (u v : Occurrence) (x y : LocalVariable) → Follows u v → IsOf x u → IsOf y v → LocalsNested x y
one_nested u v x y follows is_x is_y less = let h = (follows.nested is_x.declared is_y.declared).before in omega (arith, is_x.from, is_x.to, is_y.from, is_y.to, h (omega (arith, is_x.from, is_y.from)))

nested_behind : (spelled : Spelling) (o v : Occurrence) (x : LocalVariable) (s : Option LocalVariable) → IsOf x o → Follows o v → IfSome s (λ y. IsOf y v) → IfSome s (LocalsNested x)
nested_behind spelled o v x None is on of = tt
nested_behind spelled o v x (Some y) is on of = one_nested o v x y on is of

one_local_nested : (spelled : Spelling) (o : Occurrence) (os : List Occurrence) (r : Option LocalVariable) → IfSome r (λ v. IsOf v o) → All (Follows o) os → AllPairs LocalsNested (locals_of spelled os) → AllPairs LocalsNested (cons_option r (locals_of spelled os))
one_local_nested spelled o os None is on rest = rest
one_local_nested spelled o os (Some x) is on rest = AllPairs-cons LocalsNested x (locals_of spelled os)
    (all_filter_map (declared_by spelled) (LocalsNested x) os (λ j d inside. nested_behind spelled o (get_or os j d) x (declared_by spelled (get_or os j d)) is (on j d inside) (declared_is spelled (get_or os j d))))
    rest

locals_nested : (spelled : Spelling) (os : List Occurrence) → AllPairs Follows os → AllPairs LocalsNested (locals_of spelled os)
locals_nested spelled [] follows = λ i j d less inside. absurd (omega arith)
locals_nested spelled (o ∷ os) follows = one_local_nested spelled o os (declared_by spelled o) (declared_is spelled o) (pairs_head Follows o os follows) (locals_nested spelled os (pairs_tail Follows o os follows))

-- ---- the meaning of a name

below_or_zero : (r : Option ℕ) (n : ℕ) → 0 < n → ((k : ℕ) → r ≡ Some k → k < n) → unwrap_or r 0 < n
below_or_zero None n some below = some
below_or_zero (Some k) n some below = below k refl

begins_on : (s t : Scope) → Begins s t → s.from ≤ t.from
begins_on s t (inl before) = omega arith
begins_on s t (inr tie) = omega (arith, tie.0)

module _ (spelled : Spelling) (os : List Occurrence) (number : List ℕ → Option ℕ) (scopes sorted : List Scope) (numbers : (name : List ℕ) → number name ≡ name_number (locals_of spelled os) name) (are : scopes ≡ scopes_from number 0 (locals_of spelled os)) (order : AreInOrder scopes sorted) where
  long : length sorted ≡ length (locals_of spelled os)
  long = length_permutation scopes sorted order.permutation ∙ ap length are ∙ scopes_length number 0 (locals_of spelled os)

  within : (name : List ℕ) (k : ℕ) → number name ≡ Some k → k < length (locals_of spelled os)
  within name k is = omega (arith, (position_range (λ v. bytes_eq v.name name) 0 (locals_of spelled os) k (sym (numbers name) ∙ is)).1)

  pub ranged : AreRanged number sorted
  ranged = record {
    numbers = λ name k is. omega (arith, within name k is, long);
    names = All-permutation (λ s. s.name < length sorted) scopes sorted order.permutation (subst (λ ss. All (λ (s : Scope). s.name < length sorted) ss) (sym are)
        (all_scopes (λ s. s.name < length sorted) number 0 (locals_of spelled os) (λ i d inside m. below_or_zero (number (get_or (locals_of spelled os) i d).name) (length sorted) (omega (arith, long)) (λ k is. omega (arith, within _ k is, long)))));
    rising = λ i j d less inside. begins_on (get_or sorted i d) (get_or sorted j d) (order.order i j d less inside);
  }

  module _ (follows : AllPairs Follows os) where
    numbered : (i : ℕ) (d : Scope) → i < length scopes → (get_or scopes i d).local ≡ i
    numbered = numbered_from number (locals_of spelled os) scopes are

    nested : AllPairs Nested scopes
    nested = subst (λ ss. AllPairs Nested ss) (sym are) (scopes_nested number 0 (locals_of spelled os) (locals_nested spelled os follows))

    meant_as : (p : ℕ) (name : List ℕ) (r : Option ℕ) → number name ≡ r → option_and_then (λ k. option_map (λ s. s.local) (last_such (is_meant k p) sorted)) r ≡ meaning (locals_of spelled os) p name
    meant_as p name None is = passing_none p 0 name (locals_of spelled os) (position_none (λ v. bytes_eq v.name name) 0 (locals_of spelled os) (sym (numbers name) ∙ is))
    meant_as p name (Some k) is =
        same_last (is_meant k p) scopes sorted order.permutation (rise_here scopes numbered nested (is_meant k p)) (rise_there scopes numbered nested k p sorted order)
        ∙ ap (λ ss. option_map (λ s. s.local) (last_such (is_meant k p) ss)) are
        ∙ meant_locals number k p 0 name (locals_of spelled os) (agree (locals_of spelled os) number numbers name k is)

    -- so it is of each occurrence that names a variable
    pub meant_each : (o : Occurrence) → meant_by spelled number sorted o ≡ meaning_of spelled (locals_of spelled os) o
    meant_each o = each (used_by o)
      where
        each : (r : Option ℕ) → option_and_then (λ name. meant_at number sorted name (spelled name)) r ≡ option_and_then (λ name. meaning (locals_of spelled os) name (spelled name)) r
        each None = refl
        each (Some name) = meant_as name (spelled name) (number (spelled name)) refl

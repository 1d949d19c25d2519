-- Uses by their tokens, and scopes by their local variables.
use Rattle.std.proofs.Common.{◌≡◌, ℕ, zero, suc, ◌+◌, ◌⊎◌, inl, inr, Bool, true, false, cond, Some, None, List, [], ◌∷◌, slice_get, refl, sym, ap, subst, ◌∙◌, arith}
use Rattle.std.specs.List.{cons_option}
use Rattle.std.proofs.lemmas.Option.{none-some, same_Some}
use Rattle.std.proofs.lemmas.Bool.{eqb-true, eq-eqb, cond-false}
use Rattle.luf_scope.specs.Local.{Spelling, LocalVariable, locals_of, is_active}
use Rattle.luf_scope.specs.Role.{is_variable}
use Rattle.luf_scope.specs.declared.occurrence.Occurrence.{Occurrence}
use Rattle.luf_scope.specs.declared.occurrence.Occurrence.TheVariants.{Reads, Assigns}
use Rattle.luf_scope.specs.inner.Scopes.{used_by}
use Rattle.luf_interf.specs.Interference.{IsLocal, IsReference, meant}
use Rattle.luf_interf.specs.NewNames.{is_fixed}
use Rattle.luf_interf.specs.declared.uses.Use.{Use}
use Rattle.luf_interf.specs.declared.uses.Scope.{Scope}
use Rattle.luf_interf.specs.inner.Owners.{IsOwner, AreUses, no_uses, no_name, no_owner, a_use, scopes_from}
use Rattle.luf_interf.specs.inner.Among.{Among, here, there}
use Rattle.luf_interf.proofs.Among.{any_among, any_of}
use Rattle.luf_interf.proofs.Last.{IsLast, last_is}
use Rattle.luf_interf.proofs.Alike.{is_meant}
use Rattle.std.proofs.lemmas.Bool.{and_parts}

variable_used : (t : ℕ) (o : Occurrence) → is_variable t o ≡ true → used_by o ≡ Some t
variable_used t (Reads name) is = ap Some (sym (eqb-true t name is))
variable_used t (Assigns name) is = ap Some (sym (eqb-true t name is))
variable_used t _ is = absurd cc

pub used_variable : (t : ℕ) (o : Occurrence) → used_by o ≡ Some t → is_variable t o ≡ true
used_variable t (Reads name) is = eq-eqb t name (sym (same_Some name t is))
used_variable t (Assigns name) is = eq-eqb t name (sym (same_Some name t is))
used_variable t _ is = absurd (none-some t is)

module _ (spelled : Spelling) (all : List Occurrence) (size : ℕ) where
  -- each is a reference
  pub record IsUse (os : List Occurrence) (u : Use) : Type 0 where
    pub occurrence : Occurrence
    pub among : Among occurrence os
    pub used : used_by occurrence ≡ Some u.token
    pub owned : IsOwner spelled all size u.token (Some u.owner)

  behind_one : (o : Occurrence) (os : List Occurrence) (u : Use) → IsUse os u → IsUse (o ∷ os) u
  behind_one o os u is = record { occurrence = is.occurrence; among = there is.among; used = is.used; owned = is.owned }

  pub use_is : (os : List Occurrence) (uses : List Use) → AreUses spelled all size os uses → (u : Use) → Among u uses → IsUse os u
  use_is [] us no_uses u m = elim m [ ]
  use_is (o ∷ os) us (no_name none rest) u m = behind_one o os u (use_is os us rest u m)
  use_is (o ∷ os) us (no_owner used none rest) u m = behind_one o os u (use_is os us rest u m)
  use_is (o ∷ os) (w ∷ us) (a_use used owned rest) w' here = record { occurrence = o; among = here; used = used; owned = owned }
  use_is (o ∷ os) (w ∷ us) (a_use used owned rest) u (there m) = behind_one o os u (use_is os us rest u m)

  -- and each reference is one, or refers to nothing
  pub record HasUse (uses : List Use) (t : ℕ) : Type 0 where
    pub one : Use
    pub among : Among one uses
    pub token : one.token ≡ t
    pub owned : IsOwner spelled all size t (Some one.owner)

  later_use : (w : Use) (uses : List Use) (t : ℕ) → HasUse uses t ⊎ IsOwner spelled all size t None → HasUse (w ∷ uses) t ⊎ IsOwner spelled all size t None
  later_use w uses t (inl has) = inl (record { one = has.one; among = there has.among; token = has.token; owned = has.owned })
  later_use w uses t (inr none) = inr none

  use_there : (os : List Occurrence) (uses : List Use) → AreUses spelled all size os uses → (t : ℕ) (o : Occurrence) → Among o os → used_by o ≡ Some t → HasUse uses t ⊎ IsOwner spelled all size t None
  use_there [] us no_uses t o m is = elim m [ ]
  use_there (w ∷ os) us (no_name none rest) t w' here is = absurd (none-some t (sym none ∙ is))
  use_there (w ∷ os) us (no_name none rest) t o (there m) is = use_there os us rest t o m is
  use_there (w ∷ os) us (no_owner {token} used none rest) t w' here is = inr (subst (λ n. IsOwner spelled all size n None) (same_Some token t (sym used ∙ is)) none)
  use_there (w ∷ os) us (no_owner used none rest) t o (there m) is = use_there os us rest t o m is
  use_there (w ∷ os) (u ∷ us) (a_use used owned rest) t w' here is =
      let same = same_Some u.token t (sym used ∙ is) in inl (record { one = u; among = here; token = same; owned = subst (λ n. IsOwner spelled all size n (Some u.owner)) same owned })
  use_there (w ∷ os) (u ∷ us) (a_use used owned rest) t o (there m) is = later_use u us t (use_there os us rest t o m is)

  module _ (uses : List Use) (are : AreUses spelled all size all uses) where
    pub use_reference : (u : Use) → Among u uses → IsReference spelled all u.token
    use_reference u m = let is = use_is all uses are u m in any_of (is_variable u.token) all is.occurrence is.among (used_variable u.token is.occurrence is.used)

    pub use_owner : (u : Use) → Among u uses → IsOwner spelled all size u.token (Some u.owner)
    use_owner u m = (use_is all uses are u m).owned

    pub reference_use : (t : ℕ) → IsReference spelled all t → HasUse uses t ⊎ IsOwner spelled all size t None
    reference_use t is = let found = any_among (is_variable t) all is in use_there all uses are t found.0 found.1 (variable_used t found.0 found.2)

  -- what a name means is active there
  pub meant_active : (t m : ℕ) (v : LocalVariable) → meant spelled all t ≡ Some m → IsLocal spelled all m v → is_active t v ≡ true
  meant_active t m v means is =
      let last : IsLast (is_meant t (spelled t)) (locals_of spelled all) (Some m) = subst (IsLast (is_meant t (spelled t)) (locals_of spelled all)) means (last_is (is_meant t (spelled t)) (locals_of spelled all)) in
      let same = same_Some last.0 v (sym last.1 ∙ is) in
      subst (λ w. is_active t w ≡ true) same (and_parts (is_active t last.0) _ last.2).0

-- ---- scopes

-- the scope of a renamed local variable
pub record IsScopeOf (locals : List LocalVariable) (i : ℕ) (s : Scope) : Type 0 where
  pub place : ℕ
  pub local : LocalVariable
  pub number : s.local ≡ i + place
  pub is : slice_get locals place ≡ Some local
  pub renamed : is_fixed local ≡ false
  pub from : s.from ≡ local.from
  pub to : s.to ≡ local.to

scope_later : (v : LocalVariable) (locals : List LocalVariable) (i : ℕ) (s : Scope) → IsScopeOf locals (i + 1) s → IsScopeOf (v ∷ locals) i s
scope_later v locals i s is = let number = is.number in record { place = suc is.place; local = is.local; number = omega (arith, number); is = is.is; renamed = is.renamed; from = is.from; to = is.to }

pub scope_is : (locals : List LocalVariable) (i : ℕ) (s : Scope) → Among s (scopes_from i locals) → IsScopeOf locals i s
scope_is [] i s m = elim m [ ]
scope_is (v ∷ locals) i s m = by s (is_fixed v) refl m (scope_is locals (i + 1) s)
  where
    by : (t : Scope) (b : Bool) → is_fixed v ≡ b → Among t (cons_option (cond b None (Some (record { local = i; from = v.from; to = v.to }))) (scopes_from (i + 1) locals)) → (Among t (scopes_from (i + 1) locals) → IsScopeOf locals (i + 1) t) → IsScopeOf (v ∷ locals) i t
    by t true fixed m rest = scope_later v locals i t (rest m)
    by t' false free here rest = record { place = 0; local = v; number = omega arith; is = refl; renamed = free; from = refl; to = refl }
    by t false free (there m) rest = scope_later v locals i t (rest m)

pub scope_there : (locals : List LocalVariable) (i n : ℕ) (v : LocalVariable) → slice_get locals n ≡ Some v → is_fixed v ≡ false → (s : Scope) × Among s (scopes_from i locals) × (s.local ≡ i + n)
scope_there [] i n v is free = absurd (none-some v is)
scope_there (w ∷ locals) i zero v is free =
    let off : is_fixed w ≡ false = ap is_fixed (same_Some w v is) ∙ free in
    let s : Scope = record { local = i; from = w.from; to = w.to } in
    (s, subst (λ o. Among s (cons_option o (scopes_from (i + 1) locals))) (sym (cond-false (is_fixed w) None (Some s) off)) here, omega arith)
scope_there (w ∷ locals) i (suc n) v is free = by (is_fixed w) refl (scope_there locals (i + 1) n v is free)
  where
    by : (b : Bool) → is_fixed w ≡ b → (s : Scope) × Among s (scopes_from (i + 1) locals) × (s.local ≡ i + 1 + n)
        → (s : Scope) × Among s (cons_option (cond b None (Some (record { local = i; from = w.from; to = w.to }))) (scopes_from (i + 1) locals)) × (s.local ≡ i + suc n)
    by true fixed found = let number = found.2 in (found.0, found.1, omega (arith, number))
    by false off found = let number = found.2 in (found.0, there found.1, omega (arith, number))

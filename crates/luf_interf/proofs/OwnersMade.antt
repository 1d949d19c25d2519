-- What a reference refers to, by its role.
use Rattle.std.proofs.Common.{◌≡◌, ℕ, ◌<◌, ◌≤◌, ◌⊎◌, inl, inr, true, false, Option, Some, None, option_map, List, [], slice_get, refl, sym, ap, subst, ◌∙◌, arith}
use Rattle.std.specs.Option.{option_map_or}
use Rattle.std.proofs.lemmas.Option.{none-some, slice_get-map}
use Rattle.luf_name.specs.Order.{IsNth}
use Rattle.luf_scope.specs.Local.{Spelling, LocalVariable, binder_of, locals_of}
use Rattle.luf_scope.specs.Links.{NameTable, role_at, AreLinks}
use Rattle.luf_scope.specs.Order.{Within, AreOrdered}
use Rattle.luf_scope.specs.Role.{is_variable, reference}
use Rattle.luf_scope.specs.declared.binder.Role.{Role}
use Rattle.luf_scope.specs.declared.binder.Role.TheVariants as role
use Rattle.luf_scope.specs.declared.occurrence.Occurrence.{Occurrence}
use Rattle.luf_interf.specs.Interference.{IsLocal, IsReference, meant}
use Rattle.luf_interf.specs.declared.uses.Owner.{Owner}
use Rattle.luf_interf.specs.declared.uses.Owner.TheVariants as owner
use Rattle.luf_interf.specs.inner.Owners.{IsFreeOwner, no_number, IsOwner, renamed, fixed, free}
use Rattle.luf_interf.proofs.Alike.{is_meant}
use Rattle.luf_interf.proofs.Among.{any_among, all_among}
use Rattle.luf_interf.proofs.Last.{IsLast, last_is}
use Rattle.luf_interf.proofs.NewLocals.{reference_role}
use Rattle.luf_interf.proofs.Tokens.{variable_named}

pub past_all : (size : ℕ) (name : List ℕ) (n : ℕ) → IsNth name n → size ≤ n → IsFreeOwner size name None
past_all size name n is past = no_number (λ k small nth. let same : n ≡ k = sym is.1 ∙ nth.1 in absurd (omega (arith, same, small, past)))

module _ (e : ℕ) (os : List Occurrence) (lies : AreOrdered 0 e e os) (spelled : Spelling) (links : NameTable) (are : AreLinks spelled os e links) (size t : ℕ) (is : IsReference spelled os t) where
  pub token_within : t < e
  token_within =
      let found = any_among (is_variable t) os is in
      let high = (all_among (Within 0 e e) os found.0 lies.within found.1).high in
      let has = (variable_named t found.0 found.2).has in
      omega (arith, high, has)

  role_is : (o : Option Role) → role_at links t ≡ o → Some (reference (meant spelled os t)) ≡ o
  role_is o at = ap Some (sym (reference_role 0 e e os lies spelled (λ _. []) (λ _. []) t is)) ∙ sym (are.roles t token_within) ∙ at

  local_there : (n : ℕ) → meant spelled os t ≡ Some n → (v : LocalVariable) × IsLocal spelled os n v
  local_there n means =
      let last : IsLast (is_meant t (spelled t)) (locals_of spelled os) (Some n) = subst (IsLast (is_meant t (spelled t)) (locals_of spelled os)) means (last_is (is_meant t (spelled t)) (locals_of spelled os)) in
      (last.0, last.1)

  means_refers : (o : Option ℕ) (n : ℕ) → Some (reference o) ≡ Some (role.Refers n) → o ≡ Some n
  means_refers (Some m) n same = cc
  means_refers None n same = absurd cc

  means_global : (o : Option ℕ) → Some (reference o) ≡ Some role.Global → o ≡ None
  means_global (Some m) same = absurd cc
  means_global None same = refl

  no_other : (o : Option ℕ) (r : Role) → Some (reference o) ≡ Some r → (r ≡ role.Plain) ⊎ (((n : ℕ) × (r ≡ role.Declares n)) ⊎ (r ≡ role.Field)) → ⊥
  no_other (Some m) r same (inl plain) = let one : Some (role.Refers m) ≡ Some role.Plain = same ∙ ap Some plain in cc
  no_other (Some m) r same (inr (inl declares)) = let one : Some (role.Refers m) ≡ Some (role.Declares declares.0) = same ∙ ap Some declares.1 in cc
  no_other (Some m) r same (inr (inr field)) = let one : Some (role.Refers m) ≡ Some role.Field = same ∙ ap Some field in cc
  no_other None r same (inl plain) = let one : Some role.Global ≡ Some role.Plain = same ∙ ap Some plain in cc
  no_other None r same (inr (inl declares)) = let one : Some role.Global ≡ Some (role.Declares declares.0) = same ∙ ap Some declares.1 in cc
  no_other None r same (inr (inr field)) = let one : Some role.Global ≡ Some role.Field = same ∙ ap Some field in cc

  kept_is : (n : ℕ) (v : LocalVariable) → IsLocal spelled os n v → option_map_or (λ b. b.fixed) (slice_get links.binders n) true ≡ (binder_of v).fixed
  kept_is n v at = ap (λ o. option_map_or (λ b. b.fixed) o true) (ap (λ bs. slice_get bs n) are.binders ∙ slice_get-map binder_of (locals_of spelled os) n ∙ ap (option_map binder_of) at)

  pub refers_fixed : (n : ℕ) → role_at links t ≡ Some (role.Refers n) → option_map_or (λ b. b.fixed) (slice_get links.binders n) true ≡ true → IsOwner spelled os size t None
  refers_fixed n at kept =
      let means = means_refers (meant spelled os t) n (role_is (Some (role.Refers n)) at) in
      let v = local_there n means in
      fixed means v.1 (sym (kept_is n v.0 v.1) ∙ kept)

  pub refers_renamed : (n : ℕ) → role_at links t ≡ Some (role.Refers n) → option_map_or (λ b. b.fixed) (slice_get links.binders n) true ≡ false → IsOwner spelled os size t (Some (owner.Local n))
  refers_renamed n at kept =
      let means = means_refers (meant spelled os t) n (role_is (Some (role.Refers n)) at) in
      let v = local_there n means in
      renamed means v.1 (sym (kept_is n v.0 v.1) ∙ kept)

  pub refers_free : (o : Option Owner) → role_at links t ≡ Some role.Global → IsFreeOwner size (spelled t) o → IsOwner spelled os size t o
  refers_free o at is_free = free (means_global (meant spelled os t) (role_is (Some role.Global) at)) is_free

  pub refers_something : role_at links t ≡ None → ⊥
  refers_something at = none-some _ (sym (role_is None at))

  pub no_plain : role_at links t ≡ Some role.Plain → ⊥
  no_plain at = no_other (meant spelled os t) role.Plain (role_is (Some role.Plain) at) (inl refl)

  pub no_declaration : (n : ℕ) → role_at links t ≡ Some (role.Declares n) → ⊥
  no_declaration n at = no_other (meant spelled os t) (role.Declares n) (role_is (Some (role.Declares n)) at) (inr (inl (n, refl)))

  pub no_field : role_at links t ≡ Some role.Field → ⊥
  no_field at = no_other (meant spelled os t) role.Field (role_is (Some role.Field) at) (inr (inr refl))

-- The local variables after a renaming: the same, with their new names.
use Rattle.std.proofs.Common.{◌≡◌, ℕ, ◌⊎◌, inl, inr, true, false, cond, Option, Some, None, List, slice_get, refl, sym, ap, subst, ◌∙◌, ⊎_elim, codes, bytes_eq, if◌then◌else◌}
use Rattle.std.specs.List.{list_any}
use Rattle.std.specs.Option.{option_map_or}
use Rattle.std.proofs.lemmas.Bool.{or_left}
use Rattle.luf_scope.specs.declared.occurrence.Occurrence.{Occurrence}
use Rattle.luf_scope.specs.declared.occurrence.Occurrence.TheVariants.{Local, LocalFunction, Parameter, ImplicitSelf, LoopVariable}
use Rattle.luf_scope.specs.Local.{Spelling, LocalVariable, is_self, declared_by, locals_of, meaning}
use Rattle.luf_scope.specs.Jump.{jump_role_of}
use Rattle.luf_scope.specs.Role.{is_variable, is_field, declaration, reference, role_of}
use Rattle.luf_scope.specs.declared.binder.Role.TheVariants as role
use Rattle.luf_scope.specs.Order.{AreOrdered}
use Rattle.luf_resolved.proofs.Paired.{Paired, PairedOption, neither, both, filtered}
use Rattle.luf_interf.specs.Interference.{IsLocal, IsReference, meant}
use Rattle.luf_interf.specs.NewNames.{Naming, is_fixed, new_name, new_word, renamed}
use Rattle.luf_interf.proofs.Among.{beside_itself, paired_at, paired_back}
use Rattle.luf_interf.proofs.Tokens.{declared_there, reference_undeclared}

-- of one local variable under two spellings: the implicit `self` has its name, and any other has that of its token
pub record Respelled (spelled told : Spelling) (v w : LocalVariable) : Type 0 where
  pub token : w.token ≡ v.token
  pub from : w.from ≡ v.from
  pub to : w.to ≡ v.to
  pub name : ((is_self v.kind ≡ true) × (w.name ≡ v.name)) ⊎ ((v.name ≡ spelled v.token) × (w.name ≡ told v.token))

respelled : (spelled told : Spelling) (u : Occurrence) → PairedOption (Respelled spelled told) (declared_by spelled u) (declared_by told u)
respelled spelled told (Local name attribute from to) = both (record { token = refl; from = refl; to = refl; name = inr (refl, refl) })
respelled spelled told (LocalFunction name from to) = both (record { token = refl; from = refl; to = refl; name = inr (refl, refl) })
respelled spelled told (Parameter name from to) = both (record { token = refl; from = refl; to = refl; name = inr (refl, refl) })
respelled spelled told (ImplicitSelf colon from to) = both (record { token = refl; from = refl; to = refl; name = inl (refl, refl) })
respelled spelled told (LoopVariable name from to) = both (record { token = refl; from = refl; to = refl; name = inr (refl, refl) })
respelled spelled told _ = neither

pub locals_respelled : (spelled told : Spelling) (os : List Occurrence) → Paired (Respelled spelled told) (locals_of spelled os) (locals_of told os)
locals_respelled spelled told os =
    filtered (declared_by spelled) (declared_by told) (λ u v is. subst (λ z. PairedOption (Respelled spelled told) (declared_by spelled u) (declared_by told z)) is (respelled spelled told u))
    (beside_itself (λ u v. u ≡ v) os (λ u m. refl))

module _ (a e c : ℕ) (os : List Occurrence) (lies : AreOrdered a e c os) (spelled : Spelling) (naming label_naming : Naming) where
  abbrev pub told : Spelling
  told = renamed spelled os naming label_naming

  -- the role of a reference
  pub reference_role : (t : ℕ) → IsReference spelled os t → role_of spelled os t ≡ reference (meant spelled os t)
  reference_role t is =
      (λ i. declaration (reference_undeclared a e c os lies spelled t is i)
      (cond (is i) (reference (meaning (locals_of spelled os) t (spelled t))) (cond (list_any (is_field t) os) role.Field role.Plain)))

  -- a reference gets the new name of what it means
  abbrev pub word_of : Option ℕ → List ℕ → List ℕ
  word_of None word = word
  word_of (Some n) word = new_name spelled os naming label_naming n word

  pub told_reference : (t : ℕ) → IsReference spelled os t → told t ≡ word_of (meant spelled os t) (spelled t)
  told_reference t is =
      (λ i. new_word spelled os naming label_naming (reference_role t is i) (jump_role_of spelled os t) (spelled t)) ∙ by (meant spelled os t)
    where
      by : (o : Option ℕ) → new_word spelled os naming label_naming (reference o) (jump_role_of spelled os t) (spelled t) ≡ word_of o (spelled t)
      by None = refl
      by (Some n) = refl

  -- a declaration gets the new name of what it declares
  pub told_declaration : (n : ℕ) (v : LocalVariable) → IsLocal spelled os n v → told v.token ≡ new_name spelled os naming label_naming n (spelled v.token)
  told_declaration n v is =
      λ i. new_word spelled os naming label_naming (declaration (declared_there a e c os lies spelled n v is i) (cond (list_any (is_variable v.token) os) (reference (meaning (locals_of spelled os) v.token (spelled v.token))) (cond (list_any (is_field v.token) os) role.Field role.Plain))) (jump_role_of spelled os v.token) (spelled v.token)

  -- a fixed one keeps its name, any other has that of the naming
  pub kept_name : (n : ℕ) (v : LocalVariable) → IsLocal spelled os n v → is_fixed v ≡ true → (word : List ℕ) → new_name spelled os naming label_naming n word ≡ word
  kept_name n v is fixed word = λ i. if ((λ k. option_map_or is_fixed (is k) true) ∙ fixed) i then word else naming n

  pub given_name : (n : ℕ) (v : LocalVariable) → IsLocal spelled os n v → is_fixed v ≡ false → (word : List ℕ) → new_name spelled os naming label_naming n word ≡ naming n
  given_name n v is free word = λ i. if ((λ k. option_map_or is_fixed (is k) true) ∙ free) i then word else naming n

  -- the local variable of a number, and the same with its new name
  pub record IsNew (n : ℕ) (v w : LocalVariable) : Type 0 where
    pub token : w.token ≡ v.token
    pub from : w.from ≡ v.from
    pub to : w.to ≡ v.to
    pub name : w.name ≡ new_name spelled os naming label_naming n v.name

  pub renewed : (n : ℕ) (v w : LocalVariable) → IsLocal spelled os n v → Respelled spelled told v w → IsNew n v w
  renewed n v w is r = record {
    token = r.token;
    from = r.from;
    to = r.to;
    name = ⊎_elim (λ own. own.1 ∙ sym (kept_name n v is (or_left (is_self v.kind) (bytes_eq v.name (codes "_ENV")) own.0) v.name))
        (λ by_token. by_token.1 ∙ told_declaration n v is ∙ ap (new_name spelled os naming label_naming n) (sym by_token.0)) r.name;
  }

  pub new_at : (n : ℕ) (v : LocalVariable) → IsLocal spelled os n v → (w : LocalVariable) × (slice_get (locals_of told os) n ≡ Some w) × IsNew n v w
  new_at n v is = let found = paired_at (locals_respelled spelled told os) n v is in (found.0, found.1, renewed n v found.0 is found.2)

  pub old_at : (n : ℕ) (w : LocalVariable) → slice_get (locals_of told os) n ≡ Some w → (v : LocalVariable) × IsLocal spelled os n v × IsNew n v w
  old_at n w is = let found = paired_back (locals_respelled spelled told os) n w is in (found.0, found.1, renewed n found.0 w found.1 found.2)

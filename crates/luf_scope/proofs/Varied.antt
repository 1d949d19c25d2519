-- The local variables that are read so far: binders, numbers of names and scopes.
use Rattle.std.proofs.Common.{◌≡◌, ℕ, ◌+◌, ◌<◌, Bool, true, false, cond, Option, Some, None, List, [], ◌∷◌, ◌++◌, map, length, get_or, drop, bytes_eq, unwrap_or, append_assoc, refl, sym, ap, ◌∙◌, arith}
use Rattle.std.specs.List.{cons_option, position_from}
use Rattle.std.specs.Option.{option_or}
use Rattle.std.proofs.lemmas.Slice.Eq.{bytes_eq-Decides}
use Rattle.luf_scope.specs.Local.{Spelling, LocalVariable, declared_by, locals_of, binder_of}
use Rattle.luf_scope.specs.declared.binder.Binder.{Binder}
use Rattle.luf_scope.specs.declared.names.Bucket.{Bucket}
use Rattle.luf_scope.specs.declared.occurrence.Occurrence.{Occurrence}
use Rattle.luf_scope.specs.declared.scopes.Scope.{Scope}
use Rattle.luf_scope.specs.inner.Buckets.{number_in}
use Rattle.luf_scope.specs.inner.Scopes.{name_number, scopes_from}
use Rattle.luf_scope.proofs.Mapped.{dropped}

-- so many of all local variables are read that these are left
pub record AreRead (locals rest : List LocalVariable) (local : ℕ) (buckets : List Bucket) (found : List Binder) (ranges : List Scope) : Type 0 where
  pub count : length buckets ≡ 1024
  pub many : local + length rest ≡ length locals
  pub binders : found ++ map binder_of rest ≡ map binder_of locals
  pub named : (name : List ℕ) → option_or (number_in buckets name) (position_from (λ v. bytes_eq v.name name) local rest) ≡ name_number locals name
  pub scopes : ranges ++ scopes_from (name_number locals) local rest ≡ scopes_from (name_number locals) 0 locals

or_assoc : (a : Option ℕ) (b : Bool) (n : ℕ) (r : Option ℕ) → option_or (option_or a (cond b (Some n) None)) r ≡ option_or a (cond b (Some n) r)
or_assoc (Some x) b n r = refl
or_assoc None true n r = refl
or_assoc None false n r = refl

or_some : (a : Option ℕ) (b : Bool) (n : ℕ) (r : Option ℕ) → b ≡ true → option_or a (cond b (Some n) r) ≡ option_or a (cond b (Some n) None)
or_some a true n r is = refl
or_some a false n r is = absurd cc

module _ (locals rest : List LocalVariable) (v : LocalVariable) (local : ℕ) (old new : List Bucket) (binders binders' : List Binder) (scopes scopes' : List Scope) where
  pub read_one : AreRead locals (v ∷ rest) local old binders scopes → length new ≡ 1024 → binders' ≡ binders ++ binder_of v ∷ [] → ((other : List ℕ) → number_in new other ≡ option_or (number_in old other) (cond (bytes_eq v.name other) (Some local) None)) → scopes' ≡ scopes ++ record { name = unwrap_or (number_in new v.name) 0; local = local; from = v.from; to = v.to } ∷ [] → AreRead locals rest (local + 1) new binders' scopes'
  read_one are count more numbers one =
      let numbered : number_in new v.name ≡ name_number locals v.name =
      numbers v.name ∙ sym (or_some (number_in old v.name) (bytes_eq v.name v.name) local (position_from (λ u. bytes_eq u.name v.name) (local + 1) rest) ((bytes_eq-Decides v.name v.name).1 refl)) ∙ are.named v.name in
      record {
        count = count;
        many = omega (arith, are.many);
        binders = ap (λ bs. bs ++ map binder_of rest) more ∙ append_assoc binders (binder_of v ∷ []) (map binder_of rest) ∙ are.binders;
        named = λ name. ap (λ r. option_or r (position_from (λ u. bytes_eq u.name name) (local + 1) rest)) (numbers name) ∙ or_assoc (number_in old name) (bytes_eq v.name name) local (position_from (λ u. bytes_eq u.name name) (local + 1) rest) ∙ are.named name;
        scopes = ap (λ ss. ss ++ scopes_from (name_number locals) (local + 1) rest) one
            ∙ append_assoc scopes (record { name = unwrap_or (number_in new v.name) 0; local = local; from = v.from; to = v.to } ∷ []) (scopes_from (name_number locals) (local + 1) rest)
            ∙ ap (λ (r : Option ℕ). scopes ++ record { name = unwrap_or r 0; local = local; from = v.from; to = v.to } ∷ scopes_from (name_number locals) (local + 1) rest) numbered
            ∙ are.scopes;
      }

-- what an occurrence declares is the first of what is left
pub left_at : (spelled : Spelling) (os : List Occurrence) (i : ℕ) (d : Occurrence) (r : Option LocalVariable) → i < length os → r ≡ declared_by spelled (get_or os i d) → locals_of spelled (drop i os) ≡ cons_option r (locals_of spelled (drop (i + 1) os))
left_at spelled os i d r inside gives = ap (locals_of spelled) (dropped os i d inside) ∙ ap (λ x. cons_option x (locals_of spelled (drop (i + 1) os))) (sym gives)

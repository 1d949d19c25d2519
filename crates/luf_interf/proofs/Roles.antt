-- Under a naming that captures nothing each token has the role that it had.
use Rattle.std.proofs.Common.{◌≡◌, ℕ, Bool, true, false, ◌&&◌, cond, Option, Some, None, List, nat_le, nat_lt, nat_eq, length, refl, sym, ap, ◌∙◌, ⊎_elim, bytes_eq, codes}
use Rattle.std.specs.List.{list_any}
use Rattle.std.proofs.lemmas.Bool.{or_parts, both_ways, false_from_ne_true, cases_Bool}
use Rattle.luf_name.specs.Barred.{name_ENV}
use Rattle.luf_scope.specs.declared.occurrence.Occurrence.{Occurrence}
use Rattle.luf_scope.specs.declared.binder.Role.TheVariants as role
use Rattle.luf_scope.specs.Local.{Spelling, LocalVariable, is_self, locals_of, meaning}
use Rattle.luf_scope.specs.Role.{is_variable, is_field, declared_at, declaration, reference, role_of}
use Rattle.luf_scope.specs.Order.{declares, place, AreOrdered}
use Rattle.luf_resolved.proofs.Paired.{same_position}
use Rattle.luf_interf.specs.Interference.{IsLocal, IsReference, meant}
use Rattle.luf_interf.specs.NewNames.{Naming, is_fixed, AreLeast}
use Rattle.luf_interf.specs.RenamingLaws.{said_in, LeastNamesKeepRoles}
use Rattle.luf_scope.proofs.Places.{block_lies}
use Rattle.luf_interf.specs.inner.Among.{Among}
use Rattle.luf_interf.proofs.Among.{any_none}
use Rattle.luf_interf.proofs.Last.{IsLast, last_is, one_last}
use Rattle.luf_interf.proofs.Tokens.{Has, one, variable_named, field_named, none_declared}
use Rattle.luf_interf.proofs.NewLocals.{told, locals_respelled, IsNew, new_at, old_at, kept_name, given_name}
use Rattle.luf_interf.proofs.Alike.{is_meant, same_name, alike}
use Rattle.luf_interf.proofs.Least.{nothing_captured}

-- a token that names no variable and no field, and declares nothing, is plain
pub plain_there : (a e c : ℕ) (os : List Occurrence) (lies : AreOrdered a e c os) (spelled : Spelling) (t : ℕ) (u : Occurrence) → Among u os → Has t u
    → (declares u ≡ true → place u ≡ t → ⊥) → is_variable t u ≡ false → is_field t u ≡ false → role_of spelled os t ≡ role.Plain
plain_there a e c os lies spelled t u m has silent variable field =
    let no_variable : list_any (is_variable t) os ≡ false = any_none (is_variable t) os (λ v n is.
    let same : v ≡ u = one a e c os lies t v u n m (variable_named t v is).has has in both_ways (is_variable t u) variable (ap (is_variable t) (sym same) ∙ is)) in
    let no_field : list_any (is_field t) os ≡ false = any_none (is_field t) os (λ v n is.
    let same : v ≡ u = one a e c os lies t v u n m (field_named t v is).has has in both_ways (is_field t u) field (ap (is_field t) (sym same) ∙ is)) in
    λ i. declaration (none_declared a e c os lies spelled t u m has silent i) (cond (no_variable i) (reference (meant_there i)) (cond (no_field i) role.Field role.Plain))
  where
    meant_there : meaning (locals_of spelled os) t (spelled t) ≡ meaning (locals_of spelled os) t (spelled t)
    meant_there = refl

module _ (a e c : ℕ) (os : List Occurrence) (lies : AreOrdered a e c os) (spelled : Spelling) (naming label_naming : Naming) (least : AreLeast spelled os naming label_naming) where
  abbrev pub least_spelled : Spelling
  least_spelled = told a e c os lies spelled naming label_naming

  -- no other local variable is named `_ENV`
  env_alike : (n : ℕ) (v w : LocalVariable) → IsLocal spelled os n v → IsNew a e c os lies spelled naming label_naming n v w → bytes_eq w.name (codes "_ENV") ≡ bytes_eq v.name (codes "_ENV")
  env_alike n v w is new = ⊎_elim
      (λ fixed. ap (λ s. bytes_eq s (codes "_ENV")) (new.name ∙ kept_name a e c os lies spelled naming label_naming n v is fixed v.name))
      (λ free.
      let name : w.name ≡ naming n = new.name ∙ given_name a e c os lies spelled naming label_naming n v is free v.name in
      let other : bytes_eq w.name (codes "_ENV") ≡ false = false_from_ne_true (bytes_eq w.name (codes "_ENV")) (λ same. (least.locals n v is free).free.allowed (name_ENV (sym name ∙ same_name w.name (codes "_ENV") same))) in
      other ∙ sym (or_parts (is_self v.kind) (bytes_eq v.name (codes "_ENV")) free).1)
      (cases_Bool (is_fixed v))

  passes_alike : (t n : ℕ) (v w : LocalVariable) → IsLocal spelled os n v → IsNew a e c os lies spelled naming label_naming n v w → is_meant t (codes "_ENV") w ≡ is_meant t (codes "_ENV") v
  passes_alike t n v w is new = λ i. (nat_le (new.from i) t && nat_lt t (new.to i)) && env_alike n v w is new i

  env_last : (t : ℕ) (o : Option ℕ) → IsLast (is_meant t (codes "_ENV")) (locals_of spelled os) o → IsLast (is_meant t (codes "_ENV")) (locals_of least_spelled os) o
  env_last t None none = λ n w found. let old = old_at a e c os lies spelled naming label_naming n w found in passes_alike t n old.0 w old.1 old.2 ∙ none n old.0 old.1
  env_last t (Some m) (u, at, passes, none) =
      let new = new_at a e c os lies spelled naming label_naming m u at in
      (new.0, new.1, passes_alike t m u new.0 at new.2 ∙ passes, λ n w below found. let old = old_at a e c os lies spelled naming label_naming n w found in passes_alike t n old.0 w old.1 old.2 ∙ none n old.0 below old.1)

  -- `_ENV` means what it meant, everywhere
  pub environment_alike : (t : ℕ) → meaning (locals_of least_spelled os) t (codes "_ENV") ≡ meaning (locals_of spelled os) t (codes "_ENV")
  environment_alike t =
      one_last (is_meant t (codes "_ENV")) (locals_of least_spelled os) (meaning (locals_of least_spelled os) t (codes "_ENV")) (meaning (locals_of spelled os) t (codes "_ENV"))
      (last_is (is_meant t (codes "_ENV")) (locals_of least_spelled os))
      (env_last t (meaning (locals_of spelled os) t (codes "_ENV")) (last_is (is_meant t (codes "_ENV")) (locals_of spelled os)))

  pub reference_alike : (t : ℕ) → IsReference spelled os t → meant least_spelled os t ≡ meant spelled os t
  reference_alike t is = alike a e c os lies spelled naming label_naming t is (nothing_captured a e c os lies spelled naming label_naming least t is)

  declared_alike : (t : ℕ) → declared_at (locals_of least_spelled os) t ≡ declared_at (locals_of spelled os) t
  declared_alike t = same_position (λ v. nat_eq v.token t) (λ w. nat_eq w.token t) (λ v w r. λ i. nat_eq (r.token i) t) (locals_respelled spelled least_spelled os) 0

  pub role_alike : (t : ℕ) → role_of least_spelled os t ≡ role_of spelled os t
  role_alike t = (λ i. declaration (declared_alike t i) (cond (list_any (is_variable t) os) (reference (meant least_spelled os t)) (cond (list_any (is_field t) os) role.Field role.Plain))) ∙ ap (declaration (declared_at (locals_of spelled os) t)) (by (list_any (is_variable t) os) refl)
    where
      by : (b : Bool) → list_any (is_variable t) os ≡ b → cond b (reference (meant least_spelled os t)) (cond (list_any (is_field t) os) role.Field role.Plain) ≡ cond b (reference (meant spelled os t)) (cond (list_any (is_field t) os) role.Field role.Plain)
      by true is = ap reference (reference_alike t is)
      by false is = refl

pub least_names_keep_roles : LeastNamesKeepRoles
least_names_keep_roles toks chunk spelled naming label_naming token derived least = role_alike 0 (length toks) (length toks) (said_in chunk) (block_lies derived) spelled naming label_naming least token

-- Least names capture nothing.
use Rattle.std.proofs.Common.{◌≡◌, ℕ, ◌<◌, Bool, true, false, cond, Option, Some, None, List, length, refl, sym, ap, subst, ◌∙◌, ⊎_elim, bytes_eq, codes, if◌then◌else◌}
use Rattle.std.proofs.lemmas.Option.{same_Some}
use Rattle.std.proofs.lemmas.Bool.{and_parts, and_from, both_ways, or_cases}
use Rattle.luf_name.specs.Barred.{IsBarred, name_self, name_ENV}
use Rattle.luf_scope.specs.declared.binder.BinderKind.TheVariants as kind
use Rattle.luf_scope.specs.declared.occurrence.Occurrence.{Occurrence}
use Rattle.luf_scope.specs.declared.occurrence.Occurrence.TheVariants.{Local, LocalFunction, Parameter, ImplicitSelf, LoopVariable}
use Rattle.luf_scope.specs.Local.{Spelling, LocalVariable, is_active, is_self, kind_of, declared_by, locals_of}
use Rattle.luf_scope.specs.Order.{AreOrdered}
use Rattle.luf_scope.proofs.Places.{block_lies}
use Rattle.luf_interf.specs.Interference.{IsLocal, IsReference, meant}
use Rattle.luf_interf.specs.NewNames.{Naming, is_fixed, AreLeast, new_name}
use Rattle.luf_interf.specs.RenamingLaws.{said_in, IsLater, IsCaptured, LeastIsFree}
use Rattle.luf_interf.proofs.Among.{among_at, given_by}
use Rattle.luf_interf.proofs.Last.{IsLast, last_is}
use Rattle.luf_interf.proofs.NewLocals.{word_of, told_reference, kept_name, given_name}
use Rattle.luf_interf.proofs.Alike.{is_meant, same_name, by_name}

-- ---- fixed names are barred

of_field : {C : Type 0} (f : LocalVariable → C) (a b : LocalVariable) → Some a ≡ Some b → f a ≡ f b
of_field f a b is = ap f (same_Some a b is)

no_self : (b c : Bool) → is_self (if b then kind.Const else if c then kind.Close else kind.Local) ≡ true → ⊥
no_self true c is = absurd cc
no_self false true is = absurd cc
no_self false false is = absurd cc

self_of_local : (spelled : Spelling) (attribute : Option ℕ) → is_self (kind_of spelled attribute) ≡ true → ⊥
self_of_local spelled None is = absurd cc
self_of_local spelled (Some n) is = no_self (bytes_eq (spelled n) (codes "const")) (bytes_eq (spelled n) (codes "close")) is

self_named : (spelled : Spelling) (u : Occurrence) (v : LocalVariable) → declared_by spelled u ≡ Some v → is_self v.kind ≡ true → v.name ≡ codes "self"
self_named spelled (Local name attribute from to) v is self = absurd (self_of_local spelled attribute (of_field (λ k. is_self k.kind) _ v is ∙ self))
self_named spelled (LocalFunction name from to) v is self = let k : is_self kind.Function ≡ true = of_field (λ k. is_self k.kind) _ v is ∙ self in absurd cc
self_named spelled (Parameter name from to) v is self = let k : is_self kind.Param ≡ true = of_field (λ k. is_self k.kind) _ v is ∙ self in absurd cc
self_named spelled (ImplicitSelf colon from to) v is self = sym (of_field (λ k. k.name) _ v is)
self_named spelled (LoopVariable name from to) v is self = let k : is_self kind.Loop ≡ true = of_field (λ k. is_self k.kind) _ v is ∙ self in absurd cc
self_named spelled _ v is self = absurd cc

pub fixed_barred : (spelled : Spelling) (os : List Occurrence) (n : ℕ) (v : LocalVariable) → IsLocal spelled os n v → is_fixed v ≡ true → IsBarred v.name
fixed_barred spelled os n v is fixed =
    let from = given_by (declared_by spelled) os v (among_at (locals_of spelled os) n v is) in
    ⊎_elim (λ self. name_self (self_named spelled from.0 v from.2 self)) (λ named. name_ENV (same_name v.name (codes "_ENV") named)) (or_cases (is_self v.kind) (bytes_eq v.name (codes "_ENV")) fixed)

-- ---- who would capture

module _ (a e c : ℕ) (os : List Occurrence) (lies : AreOrdered a e c os) (spelled : Spelling) (naming label_naming : Naming) (least : AreLeast spelled os naming label_naming) where
  -- what captures gets this name
  module _ (t : ℕ) (is : IsReference spelled os t) (k : ℕ) (w : LocalVariable) (at : IsLocal spelled os k w) (active : is_active t w ≡ true) where
    -- it is no earlier one of that name
    old_passes : w.name ≡ spelled t → is_meant t (spelled t) w ≡ true
    old_passes named = and_from (is_active t w) (bytes_eq w.name (spelled t)) active (by_name w.name (spelled t) named)

    abbrev new_of : Bool → List ℕ
    new_of true = w.name
    new_of false = naming k

    new_is : (b : Bool) → is_fixed w ≡ b → new_name spelled os naming label_naming k w.name ≡ new_of b
    new_is true fixed = kept_name a e c os lies spelled naming label_naming k w at fixed w.name
    new_is false free = given_name a e c os lies spelled naming label_naming k w at free w.name

    from_free : meant spelled os t ≡ None → is_meant t (spelled t) w ≡ false → (b : Bool) → is_fixed w ≡ b → new_of b ≡ spelled t → ⊥
    from_free means none true fixed taken = both_ways (is_meant t (spelled t) w) none (old_passes taken)
    from_free means none false free taken = (least.locals k w at free).free.no_global (record { token = t; reference = is; free = means; active = active; spelling = sym taken })

    module _ (m : ℕ) (u : LocalVariable) (there : IsLocal spelled os m u) (means : meant spelled os t ≡ Some m) (named : u.name ≡ spelled t) (below : m < k) (none : is_meant t (spelled t) w ≡ false) where
      from_local : (b d : Bool) → is_fixed w ≡ b → is_fixed u ≡ d → new_of b ≡ cond d (spelled t) (naming m) → ⊥
      from_local true true fixed held taken = both_ways (is_meant t (spelled t) w) none (old_passes taken)
      from_local true false fixed free taken = (least.locals m u there free).free.allowed (subst IsBarred taken (fixed_barred spelled os k w at fixed))
      from_local false true free held taken = (least.locals k w at free).free.allowed (subst IsBarred (named ∙ sym taken) (fixed_barred spelled os m u there held))
      from_local false false free free_too taken =
          (least.locals k w at free).free.no_earlier m u below there free_too (record { token = t; reference = is; means = means; active = active }) (sym taken)

    word_is : (m : ℕ) (u : LocalVariable) → IsLocal spelled os m u → (d : Bool) → is_fixed u ≡ d → new_name spelled os naming label_naming m (spelled t) ≡ cond d (spelled t) (naming m)
    word_is m u there true held = kept_name a e c os lies spelled naming label_naming m u there held (spelled t)
    word_is m u there false free = given_name a e c os lies spelled naming label_naming m u there free (spelled t)

    no_capture : (o : Option ℕ) → meant spelled os t ≡ o → IsLast (is_meant t (spelled t)) (locals_of spelled os) o → IsLater o k → new_name spelled os naming label_naming k w.name ≡ word_of a e c os lies spelled naming label_naming o (spelled t) → ⊥
    no_capture None means none later taken = from_free means (none k w at) (is_fixed w) refl (sym (new_is (is_fixed w) refl) ∙ taken)
    no_capture (Some m) means (u, there, passes, none) later taken =
        from_local m u there means (same_name u.name (spelled t) (and_parts (is_active t u) (bytes_eq u.name (spelled t)) passes).1) later (none k w later at) (is_fixed w) (is_fixed u) refl refl
        (sym (new_is (is_fixed w) refl) ∙ taken ∙ word_is m u there (is_fixed u) refl)

  pub nothing_captured : (t : ℕ) → IsReference spelled os t → IsCaptured spelled os naming label_naming t → ⊥
  nothing_captured t is captured =
      no_capture t is captured.number captured.local captured.is captured.active (meant spelled os t) refl (last_is (is_meant t (spelled t)) (locals_of spelled os)) captured.later
      (captured.taken ∙ told_reference a e c os lies spelled naming label_naming t is)

pub least_is_free : LeastIsFree
least_is_free toks chunk spelled naming label_naming token derived least is =
    nothing_captured 0 (length toks) (length toks) (said_in chunk) (block_lies derived) spelled naming label_naming least token is

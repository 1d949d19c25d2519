-- Where no local variable has an attribute, only `...` can be a fault of names.
use Rattle.std.proofs.Common.{◌≡◌, ℕ, zero, suc, Bool, true, false, ◌||◌, cond, Option, Some, None, List, [], ◌∷◌, refl, sym, ap, ◌∙◌}
use Rattle.std.specs.Prelude.{slice_get, codes}
use Rattle.std.specs.List.{list_any}
use Rattle.std.specs.Option.{option_map, option_map_or, option_and_then, option_or}
use Rattle.std.proofs.lemmas.Bool.{false≢true}
use Rattle.luf_scope.specs.Fault.{first_fault, first_of, name_faults, is_constant, unknown_attribute, second_close, constant_assigned, varargs_outside}
use Rattle.luf_scope.specs.Local.{Spelling, LocalVariable, locals_of, meaning}
use Rattle.luf_scope.specs.declared.binder.BinderKind.TheVariants as kind
use Rattle.luf_scope.specs.declared.fault.ScopeWhat.{ScopeWhat}
use Rattle.luf_scope.specs.declared.fault.ScopeWhat.TheVariants.{UnknownAttribute, TwoClose, ConstAssign, VarargOutside}
use Rattle.luf_scope.specs.declared.occurrence.Occurrence.{Occurrence}
use Rattle.luf_scope.specs.declared.occurrence.Occurrence.TheVariants.{Local, LocalFunction, Parameter, ImplicitSelf, LoopVariable, Reads, Assigns, Field, Varargs, Function, Loop, Label, Goto, Break}
use Rattle.luf_scope.specs.inner.Attributes.{has_attribute}
use Rattle.luf_scope.specs.inner.Laid.{AreLaid, first_at}
use Rattle.luf_scope.proofs.Told.{first_name_fault}

neither : (a b : Bool) → (a || b) ≡ false → (a ≡ false) × (b ≡ false)
neither true b is = absurd (false≢true (sym is))
neither false b is = (refl, is)

-- a word of which no occurrence tells has no first fault
none_first : (what : ScopeWhat) (test : Occurrence → Option ℕ) → ((o : Occurrence) → has_attribute o ≡ false → test o ≡ None) → (os : List Occurrence) → list_any has_attribute os ≡ false
    → first_at what test os ≡ None
none_first what test each [] none = refl
none_first what test each (o ∷ os) none =
    let parts = neither (has_attribute o) (list_any has_attribute os) none in
    ap (λ (found : Option ℕ). option_or (option_map (λ (t : ℕ). record { token = t; what = what }) found) (first_at what test os)) (each o parts.0) ∙ none_first what test each os parts.1

-- no local variable at a number is constant
abbrev ArePlain : List LocalVariable → Type 0
ArePlain vs = (n : ℕ) → option_map_or is_constant (slice_get vs n) false ≡ false

no_more : ArePlain []
no_more n = refl

one_more : (v : LocalVariable) (vs : List LocalVariable) → is_constant v ≡ false → ArePlain vs → ArePlain (v ∷ vs)
one_more v vs is all zero = is
one_more v vs is all (suc n) = all n

module _ (spelled : Spelling) where
  plain_locals : (os : List Occurrence) → list_any has_attribute os ≡ false → ArePlain (locals_of spelled os)
  plain_locals [] none = no_more
  plain_locals (Local name None from to ∷ os) none =
      one_more (record { token = name; name = spelled name; kind = kind.Local; from = from; to = to }) (locals_of spelled os) refl (plain_locals os none)
  plain_locals (Local name (Some attribute) from to ∷ os) none = absurd (false≢true (sym none))
  plain_locals (LocalFunction name from to ∷ os) none =
      one_more (record { token = name; name = spelled name; kind = kind.Function; from = from; to = to }) (locals_of spelled os) refl (plain_locals os none)
  plain_locals (Parameter name from to ∷ os) none =
      one_more (record { token = name; name = spelled name; kind = kind.Param; from = from; to = to }) (locals_of spelled os) refl (plain_locals os none)
  plain_locals (ImplicitSelf colon from to ∷ os) none =
      one_more (record { token = colon; name = codes "self"; kind = kind.SelfParam; from = from; to = to }) (locals_of spelled os) refl (plain_locals os none)
  plain_locals (LoopVariable name from to ∷ os) none =
      one_more (record { token = name; name = spelled name; kind = kind.Loop; from = from; to = to }) (locals_of spelled os) refl (plain_locals os none)
  plain_locals (Reads name ∷ os) none = plain_locals os none
  plain_locals (Assigns name ∷ os) none = plain_locals os none
  plain_locals (Field name ∷ os) none = plain_locals os none
  plain_locals (Varargs token ∷ os) none = plain_locals os none
  plain_locals (Function from to vararg ∷ os) none = plain_locals os none
  plain_locals (Loop from to ∷ os) none = plain_locals os none
  plain_locals (Label name from to at_end ∷ os) none = plain_locals os none
  plain_locals (Goto token name ∷ os) none = plain_locals os none
  plain_locals (Break token ∷ os) none = plain_locals os none

  meant : (vs : List LocalVariable) → ArePlain vs → (m : Option ℕ) → option_map_or is_constant (option_and_then (slice_get vs) m) false ≡ false
  meant vs all None = refl
  meant vs all (Some n) = all n

  module _ (os : List Occurrence) where
    no_unknown : (o : Occurrence) → has_attribute o ≡ false → unknown_attribute spelled os o ≡ None
    no_unknown (Local name None from to) none = refl
    no_unknown (Local name (Some attribute) from to) none = absurd (false≢true (sym none))
    no_unknown o none = refl

    no_second : (o : Occurrence) → has_attribute o ≡ false → second_close spelled os o ≡ None
    no_second (Local name None from to) none = refl
    no_second (Local name (Some attribute) from to) none = absurd (false≢true (sym none))
    no_second o none = refl

    no_constant : ArePlain (locals_of spelled os) → (o : Occurrence) → constant_assigned spelled os o ≡ None
    no_constant all (Assigns name) = ap (λ (t : Bool). cond t (Some name) None) (meant (locals_of spelled os) all (meaning (locals_of spelled os) name (spelled name)))
    no_constant all (Local name attribute from to) = refl
    no_constant all o = refl

    -- the first fault of names is that of `...`
    pub only_varargs : AreLaid os → list_any has_attribute os ≡ false → first_at VarargOutside (varargs_outside spelled os) os ≡ first_fault (name_faults spelled os)
    only_varargs laid none =
        let unknown = none_first UnknownAttribute (unknown_attribute spelled os) no_unknown os none in
        let second = none_first TwoClose (second_close spelled os) no_second os none in
        let constant = none_first ConstAssign (constant_assigned spelled os) (λ o _. no_constant (plain_locals os none) o) os none in
        let varargs = first_at VarargOutside (varargs_outside spelled os) os in
        (λ i. first_of (first_of (first_of (sym unknown i) (sym second i)) (sym constant i)) varargs) ∙ first_name_fault spelled os laid

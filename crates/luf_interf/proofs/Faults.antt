-- Under least names a source without scope faults has none.
use Rattle.std.proofs.Common.{◌≡◌, ℕ, true, false, not, ◌&&◌, ◌||◌, cond, Option, Some, None, List, [], ◌∷◌, ◌++◌, map, All, is_none, is_some, slice_get, nat_le, nat_lt, nat_eq, length, refl, sym, ap, subst, ◌∙◌, bytes_eq, codes}
use Rattle.std.specs.List.{filter_map, list_any}
use Rattle.std.specs.Option.{option_map_or, option_and_then}
use Rattle.std.proofs.lemmas.Bool.{eq-eqb}
use Rattle.luf_scope.specs.declared.binder.BinderKind.{BinderKind}
use Rattle.luf_scope.specs.declared.fault.ScopeBad.{ScopeBad}
use Rattle.luf_scope.specs.declared.fault.ScopeWhat.{ScopeWhat}
use Rattle.luf_scope.specs.declared.fault.ScopeWhat.TheVariants.{UnknownAttribute, TwoClose, ConstAssign, VarargOutside, LabelTwice, NoLabel, JumpIntoScope, BreakOutside}
use Rattle.luf_scope.specs.declared.occurrence.Occurrence.{Occurrence}
use Rattle.luf_scope.specs.declared.occurrence.Occurrence.TheVariants.{Local, Assigns, Varargs, Break}
use Rattle.luf_scope.specs.Local.{Spelling, LocalVariable, locals_of, meaning}
use Rattle.luf_scope.specs.Jump.{LabelAt, GotoAt, labels_of, gotos_of, is_seen, target}
use Rattle.luf_scope.specs.Fault.{is_constant, unknown_attribute, closes_before, second_close, constant_assigned, varargs_outside, label_twice, without_label, enters, into_scope, break_outside, name_faults, jump_faults, first_fault, first_of, scope_fault}
use Rattle.luf_scope.specs.Role.{is_variable}
use Rattle.luf_scope.specs.Order.{AreOrdered}
use Rattle.luf_scope.specs.Nesting.{AreNestedBlocks}
use Rattle.luf_scope.proofs.Places.{block_lies}
use Rattle.luf_scope.proofs.Blocks.{block_lies as blocks_lie}
use Rattle.luf_resolved.proofs.Paired.{PairedOption, neither, both, paired_option, same_any as same_any_paired}
use Rattle.luf_interf.specs.NewNames.{Naming, AreLeast}
use Rattle.luf_interf.specs.RenamingLaws.{said_in, HaveLabels, LeastNamesHaveNoFault}
use Rattle.luf_interf.specs.inner.Among.{Among}
use Rattle.luf_interf.proofs.Among.{all_from, index_of, any_none, any_of, given, paired_back, same_any, same_given, none_given, paired_given}
use Rattle.luf_interf.proofs.NewLocals.{told, Respelled, locals_respelled}
use Rattle.luf_interf.proofs.Roles.{reference_alike}
use Rattle.luf_interf.proofs.Labels.{LabelRespelled, GotoRespelled, labels_respelled, gotos_respelled, target_at, none_twice}
use Rattle.luf_interf.proofs.Resolve.{attribute_kept, kinds_paired}

abbrev marked : ScopeWhat → List ℕ → List ScopeBad
marked what tokens = map (λ token. record { token = token; what = what }) tokens

-- ---- no fault at all

no_first : (faults : List ScopeBad) → first_fault faults ≡ None → faults ≡ []
no_first [] is = refl
no_first (x ∷ faults) is = absurd cc

neither_first : (o p : Option ScopeBad) → first_of o p ≡ None → (o ≡ None) × (p ≡ None)
neither_first None p is = (refl, is)
neither_first (Some x) None is = absurd cc
neither_first (Some x) (Some y) is = absurd cc

both_empty : {X : Type 0} (xs ys : List X) → xs ++ ys ≡ [] → (xs ≡ []) × (ys ≡ [])
both_empty [] ys is = (refl, is)
both_empty (x ∷ xs) ys is = absurd cc

none_at : (tokens : List ℕ) (mark : ℕ → ScopeBad) → map mark tokens ≡ [] → tokens ≡ []
none_at [] mark is = refl
none_at (t ∷ tokens) mark is = absurd cc

among_none : {X : Type 0} (x : X) → Among x [] → ⊥
among_none x m = elim m [ ]

-- without faults each goto has a label to go to
goto_targets : (spelled : Spelling) (os : List Occurrence) → jump_faults spelled os ≡ [] → (g : GotoAt) → Among g (gotos_of spelled os) → target (labels_of spelled os) g ≡ None → ⊥
goto_targets spelled os is g m none =
    let last = both_empty _ (marked BreakOutside (filter_map (break_outside spelled os) os)) is in
    let third = both_empty _ (marked JumpIntoScope (filter_map (into_scope spelled os) (gotos_of spelled os))) last.0 in
    let second = both_empty (marked LabelTwice (filter_map (label_twice spelled os) (labels_of spelled os))) (marked NoLabel (filter_map (without_label spelled os) (gotos_of spelled os))) third.0 in
    let empty : filter_map (without_label spelled os) (gotos_of spelled os) ≡ [] = none_at (filter_map (without_label spelled os) (gotos_of spelled os)) (λ token. record { token = token; what = NoLabel }) second.1 in
    let given_one : Among g.token (filter_map (without_label spelled os) (gotos_of spelled os)) = given (without_label spelled os) (gotos_of spelled os) g g.token m (λ i. cond (is_none (none i)) (Some g.token) None) in
    among_none g.token (subst (λ z. Among g.token z) empty given_one)

some_there : {A : Type 0} (o : Option A) → (o ≡ None → ⊥) → is_some o ≡ true
some_there None there = absurd (there refl)
some_there (Some x) there = refl

pub have_labels : (spelled : Spelling) (os : List Occurrence) → scope_fault spelled os ≡ None → HaveLabels spelled os
have_labels spelled os is =
    let jumps = no_first (jump_faults spelled os) (neither_first (first_fault (name_faults spelled os)) (first_fault (jump_faults spelled os)) is).1 in
    all_from (λ g. is_some (target (labels_of spelled os) g) ≡ true) (gotos_of spelled os) (λ g m. some_there (target (labels_of spelled os) g) (goto_targets spelled os jumps g m))

module _ (a e c : ℕ) (os : List Occurrence) (lies : AreOrdered a e c os) (spelled : Spelling) (naming label_naming : Naming) (nested : All (λ u. All (AreNestedBlocks u) os) os) (least : AreLeast spelled os naming label_naming) where
  abbrev new_spelled : Spelling
  new_spelled = told a e c os lies spelled naming label_naming

  -- ---- names

  unknown_kept : (u : Occurrence) → Among u os → unknown_attribute new_spelled os u ≡ unknown_attribute spelled os u
  unknown_kept (Local name None from to) m = refl
  unknown_kept (Local name (Some b) from to) m = ap (λ s. cond (not (bytes_eq s (codes "const") || bytes_eq s (codes "close"))) (Some b) None) (attribute_kept a e c os lies spelled naming label_naming name b from to m)
  unknown_kept _ m = refl

  closes_kept : (end token : ℕ) (u : Occurrence) → Among u os → closes_before new_spelled os end token u ≡ closes_before spelled os end token u
  closes_kept end token (Local name None from to) m = refl
  closes_kept end token (Local name (Some b) from to) m = ap (λ s. nat_eq from end && nat_lt b token && bytes_eq s (codes "close")) (attribute_kept a e c os lies spelled naming label_naming name b from to m)
  closes_kept end token _ m = refl

  second_kept : (u : Occurrence) → Among u os → second_close new_spelled os u ≡ second_close spelled os u
  second_kept (Local name None from to) m = refl
  second_kept (Local name (Some b) from to) m =
      let others = same_any (closes_before spelled os from b) (closes_before new_spelled os from b) os (closes_kept from b) in
      λ i. cond (bytes_eq (attribute_kept a e c os lies spelled naming label_naming name b from to m i) (codes "close") && others i) (Some b) None
  second_kept _ m = refl

  kind_constant : (v w : LocalVariable) → w.kind ≡ v.kind → is_constant w ≡ is_constant v
  kind_constant v w same = ap (λ (k : BinderKind). is_constant (record { token = 0; name = []; kind = k; from = 0; to = 0 })) same

  one_constant : {o p : Option LocalVariable} → PairedOption (λ v w. w.kind ≡ v.kind) o p → option_map_or is_constant p false ≡ option_map_or is_constant o false
  one_constant neither = refl
  one_constant (both {x} {y} same) = kind_constant x y same

  constant_at : (o : Option ℕ) → option_map_or is_constant (option_and_then (slice_get (locals_of new_spelled os)) o) false ≡ option_map_or is_constant (option_and_then (slice_get (locals_of spelled os)) o) false
  constant_at None = refl
  constant_at (Some n) = one_constant (paired_option (kinds_paired a e c os lies spelled naming label_naming) n)

  constant_kept : (u : Occurrence) → Among u os → constant_assigned new_spelled os u ≡ constant_assigned spelled os u
  constant_kept (Assigns name) m =
      let means = reference_alike a e c os lies spelled naming label_naming least name (any_of (is_variable name) os (Assigns name) m (eq-eqb name name refl)) in
      ap (λ o. cond (option_map_or is_constant (option_and_then (slice_get (locals_of new_spelled os)) o) false) (Some name) None) means
      ∙ ap (λ b. cond b (Some name) None) (constant_at (meaning (locals_of spelled os) name (spelled name)))
  constant_kept _ m = refl

  varargs_kept : (u : Occurrence) → Among u os → varargs_outside new_spelled os u ≡ varargs_outside spelled os u
  varargs_kept (Varargs token) m = refl
  varargs_kept _ m = refl

  break_kept : (u : Occurrence) → Among u os → break_outside new_spelled os u ≡ break_outside spelled os u
  break_kept (Break token) m = refl
  break_kept _ m = refl

  pub names_kept : name_faults new_spelled os ≡ name_faults spelled os
  names_kept =
      let first = same_given (unknown_attribute spelled os) (unknown_attribute new_spelled os) os unknown_kept in
      let second = same_given (second_close spelled os) (second_close new_spelled os) os second_kept in
      let third = same_given (constant_assigned spelled os) (constant_assigned new_spelled os) os constant_kept in
      let fourth = same_given (varargs_outside spelled os) (varargs_outside new_spelled os) os varargs_kept in
      λ i. marked UnknownAttribute (first i) ++ marked TwoClose (second i) ++ marked ConstAssign (third i) ++ marked VarargOutside (fourth i)

  -- ---- jumps

  twice_none : filter_map (label_twice new_spelled os) (labels_of new_spelled os) ≡ []
  twice_none = none_given (label_twice new_spelled os) (labels_of new_spelled os) (λ l m.
      let n = index_of (labels_of new_spelled os) l m in
      let old = paired_back (labels_respelled spelled new_spelled os) n.0 l n.1 in
      let none : list_any (λ u. nat_lt u.token l.token && is_seen l.function l.token l.name u) (labels_of new_spelled os) ≡ false =
      any_none (λ u. nat_lt u.token l.token && is_seen l.function l.token l.name u) (labels_of new_spelled os) (λ k mk is.
      let j = index_of (labels_of new_spelled os) k mk in
      let its = paired_back (labels_respelled spelled new_spelled os) j.0 k j.1 in
      none_twice a e c os lies spelled naming label_naming nested least n.0 j.0 old.0 its.0 l k old.1 its.1 old.2 its.2 is) in
      ap (λ b. cond b (Some l.token) None) none)

  module _ (has_target : (g : GotoAt) → Among g (gotos_of spelled os) → target (labels_of spelled os) g ≡ None → ⊥) where
    without_kept : (g h : GotoAt) → GotoRespelled spelled new_spelled g h → Among g (gotos_of spelled os) → without_label new_spelled os h ≡ without_label spelled os g
    without_kept g h q m = by (target (labels_of spelled os) g) refl
      where
        by : (o : Option (ℕ × LabelAt)) → target (labels_of spelled os) g ≡ o → without_label new_spelled os h ≡ without_label spelled os g
        by None is = absurd (has_target g m is)
        by (Some x) is =
            let found = target_at a e c os lies spelled naming label_naming nested least g h q m x is in
            (λ i. cond (is_none (found.1 i)) (Some (q.token i)) None) ∙ sym (λ i. cond (is_none (is i)) (Some g.token) None)

    enters_kept : (g h : GotoAt) (l k : LabelAt) → GotoRespelled spelled new_spelled g h → LabelRespelled spelled new_spelled l k → (v w : LocalVariable) → Respelled spelled new_spelled v w → enters new_spelled os h k w ≡ enters spelled os g l v
    enters_kept g h l k q r v w s =
        λ i. not (r.at_end i) && (nat_le (s.from i) (r.token i) && nat_lt (r.token i) (s.to i)) && not (nat_le (s.from i) (q.token i) && nat_lt (q.token i) (s.to i))

    into_kept : (g h : GotoAt) → GotoRespelled spelled new_spelled g h → Among g (gotos_of spelled os) → into_scope new_spelled os h ≡ into_scope spelled os g
    into_kept g h q m = by (target (labels_of spelled os) g) refl
      where
        by : (o : Option (ℕ × LabelAt)) → target (labels_of spelled os) g ≡ o → into_scope new_spelled os h ≡ into_scope spelled os g
        by None is = absurd (has_target g m is)
        by (Some x) is =
            let found = target_at a e c os lies spelled naming label_naming nested least g h q m x is in
            let same : list_any (enters new_spelled os h found.0) (locals_of new_spelled os) ≡ list_any (enters spelled os g x.1) (locals_of spelled os) =
            same_any_paired (enters spelled os g x.1) (enters new_spelled os h found.0) (enters_kept g h x.1 found.0 q found.2) (locals_respelled spelled new_spelled os) in
            (λ i. cond (option_map_or (λ (l : ℕ × LabelAt). list_any (enters new_spelled os h l.1) (locals_of new_spelled os)) (found.1 i) false) (Some (q.token i)) None)
            ∙ (λ i. cond (same i) (Some g.token) None)
            ∙ sym (λ i. cond (option_map_or (λ (l : ℕ × LabelAt). list_any (enters spelled os g l.1) (locals_of spelled os)) (is i) false) (Some g.token) None)

    pub jumps_kept : jump_faults spelled os ≡ [] → jump_faults new_spelled os ≡ []
    jumps_kept is =
        let no_label = paired_given (without_label spelled os) (without_label new_spelled os) (gotos_respelled spelled new_spelled os) without_kept in
        let into = paired_given (into_scope spelled os) (into_scope new_spelled os) (gotos_respelled spelled new_spelled os) into_kept in
        let breaks = same_given (break_outside spelled os) (break_outside new_spelled os) os break_kept in
        let last = both_empty _ (marked BreakOutside (filter_map (break_outside spelled os) os)) is in
        let third = both_empty _ (marked JumpIntoScope (filter_map (into_scope spelled os) (gotos_of spelled os))) last.0 in
        let second = both_empty (marked LabelTwice (filter_map (label_twice spelled os) (labels_of spelled os))) (marked NoLabel (filter_map (without_label spelled os) (gotos_of spelled os))) third.0 in
        (λ i. marked LabelTwice (twice_none i) ++ marked NoLabel (no_label i) ++ marked JumpIntoScope (into i) ++ marked BreakOutside (breaks i))
        ∙ (λ i. second.1 i ++ third.1 i ++ last.1 i)

  pub none_kept : scope_fault spelled os ≡ None → scope_fault new_spelled os ≡ None
  none_kept is =
      let parts = neither_first (first_fault (name_faults spelled os)) (first_fault (jump_faults spelled os)) is in
      let jumps = no_first (jump_faults spelled os) parts.1 in
      let kept = jumps_kept (goto_targets spelled os jumps) jumps in
      (λ i. first_of (first_fault (names_kept i)) (first_fault (kept i))) ∙ (λ i. first_of (parts.0 i) None)

pub least_names_have_no_fault : LeastNamesHaveNoFault
least_names_have_no_fault toks chunk spelled naming label_naming derived least =
    none_kept 0 (length toks) (length toks) (said_in chunk) (block_lies derived) spelled naming label_naming (blocks_lie derived).pairs least

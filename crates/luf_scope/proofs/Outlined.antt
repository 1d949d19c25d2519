-- What is read off an outline as off all that a chunk says.
use Rattle.std.proofs.Common.{◌≡◌, ℕ, Bool, true, false, ◌&&◌, ◌||◌, not, cond, nat_eq, nat_lt, nat_le, Option, Some, None, List, [], ◌∷◌, ◌++◌, refl, sym, ap, ◌∙◌}
use Rattle.std.specs.List.{filter_map, cons_option, list_any, position_from}
use Rattle.std.specs.Option.{option_eq, option_map, option_map_or, option_or, option_and_then}
use Rattle.std.specs.Prelude.{slice_get, is_none}
use Rattle.std.proofs.lemmas.List.Elements.{All-filter}
use Rattle.std.proofs.lemmas.List.Kept.{AllPairs-filter}
use Rattle.luf_scope.specs.Fault.{first_fault, name_faults, jump_faults, label_twice, without_label, into_scope, loops_round, break_outside, varargs_outside}
use Rattle.luf_scope.specs.Jump.{LabelAt, GotoAt, label_by, goto_by, labels_of, gotos_of, is_seen, target, goto_role, label_role, jump_role_of}
use Rattle.luf_scope.specs.Local.{Spelling, FunctionAt, LocalVariable, declared_by, locals_of, function_by, functions_of, function_of, is_active}
use Rattle.luf_scope.specs.Order.{Follows, Within, AreOrdered}
use Rattle.luf_scope.specs.Outline.{is_outline, outlined}
use Rattle.luf_scope.specs.declared.fault.ScopeWhat.{ScopeWhat}
use Rattle.luf_scope.specs.declared.fault.ScopeWhat.TheVariants.{LabelTwice, NoLabel, JumpIntoScope, BreakOutside, VarargOutside}
use Rattle.luf_scope.specs.declared.occurrence.Occurrence.{Occurrence}
use Rattle.luf_scope.specs.declared.occurrence.Occurrence.TheVariants.{Reads, Assigns, Field, Varargs, Loop, Break}
use Rattle.luf_scope.specs.inner.Attributes.{has_attribute}
use Rattle.luf_scope.specs.inner.Laid.{first_at}
use Rattle.luf_scope.proofs.Counted.{laid_from_order}
use Rattle.luf_scope.proofs.NoAttribute.{only_varargs}
use Rattle.luf_scope.proofs.Told.{faults_at}

-- ---- the order

pub outline_ordered : (a e c : ℕ) (os : List Occurrence) → AreOrdered a e c os → AreOrdered a e c (outlined os)
outline_ordered a e c os order = record {
  on = order.on;
  up_to = order.up_to;
  pairs = AllPairs-filter Follows is_outline os order.pairs;
  within = All-filter is_outline (Within a e c) os order.within;
}

-- ---- what no name that is used tells

module _ {Y : Type 0} (h : Occurrence → Option Y) (none : (o : Occurrence) → is_outline o ≡ false → h o ≡ None) where
  given : (o : Occurrence) (os kept : List Occurrence) (b : Bool) → is_outline o ≡ b → filter_map h kept ≡ filter_map h os → filter_map h (cond b (o ∷ kept) kept) ≡ cons_option (h o) (filter_map h os)
  given o os kept true is rest = ap (cons_option (h o)) rest
  given o os kept false is rest = rest ∙ ap (λ y. cons_option y (filter_map h os)) (sym (none o is))

  pub outline_given : (os : List Occurrence) → filter_map h (outlined os) ≡ filter_map h os
  outline_given [] = refl
  outline_given (o ∷ os) = given o os (outlined os) (is_outline o) refl (outline_given os)

module _ (test : Occurrence → Bool) (none : (o : Occurrence) → is_outline o ≡ false → test o ≡ false) where
  found : (o : Occurrence) (os kept : List Occurrence) (b : Bool) → is_outline o ≡ b → list_any test kept ≡ list_any test os → list_any test (cond b (o ∷ kept) kept) ≡ (test o || list_any test os)
  found o os kept true is rest = ap (λ t. test o || t) rest
  found o os kept false is rest = rest ∙ ap (λ t. t || list_any test os) (sym (none o is))

  pub outline_any : (os : List Occurrence) → list_any test (outlined os) ≡ list_any test os
  outline_any [] = refl
  outline_any (o ∷ os) = found o os (outlined os) (is_outline o) refl (outline_any os)

no_function : (o : Occurrence) → is_outline o ≡ false → function_by o ≡ None
no_function (Reads name) is = refl
no_function (Assigns name) is = refl
no_function (Field name) is = refl
no_function _ is = absurd cc

no_local : (spelled : Spelling) (o : Occurrence) → is_outline o ≡ false → declared_by spelled o ≡ None
no_local spelled (Reads name) is = refl
no_local spelled (Assigns name) is = refl
no_local spelled (Field name) is = refl
no_local spelled _ is = absurd cc

no_label : (spelled : Spelling) (fs : List FunctionAt) (o : Occurrence) → is_outline o ≡ false → label_by spelled fs o ≡ None
no_label spelled fs (Reads name) is = refl
no_label spelled fs (Assigns name) is = refl
no_label spelled fs (Field name) is = refl
no_label spelled fs _ is = absurd cc

no_goto : (spelled : Spelling) (fs : List FunctionAt) (o : Occurrence) → is_outline o ≡ false → goto_by spelled fs o ≡ None
no_goto spelled fs (Reads name) is = refl
no_goto spelled fs (Assigns name) is = refl
no_goto spelled fs (Field name) is = refl
no_goto spelled fs _ is = absurd cc

no_attribute : (o : Occurrence) → is_outline o ≡ false → has_attribute o ≡ false
no_attribute (Reads name) is = refl
no_attribute (Assigns name) is = refl
no_attribute (Field name) is = refl
no_attribute _ is = absurd cc

functions_same : (os : List Occurrence) → functions_of (outlined os) ≡ functions_of os
functions_same os = outline_given function_by no_function os

-- the first fault of a word that no name that is used has
module _ (what : ScopeWhat) (test : Occurrence → Option ℕ) (none : (o : Occurrence) → is_outline o ≡ false → test o ≡ None) where
  first : (o : Occurrence) (os kept : List Occurrence) (b : Bool) → is_outline o ≡ b → first_at what test kept ≡ first_at what test os → first_at what test (cond b (o ∷ kept) kept) ≡ first_at what test (o ∷ os)
  first o os kept true is rest = ap (option_or (option_map (λ (t : ℕ). record { token = t; what = what }) (test o))) rest
  first o os kept false is rest = rest ∙ ap (λ (found : Option ℕ). option_or (option_map (λ (t : ℕ). record { token = t; what = what }) found) (first_at what test os)) (sym (none o is))

  first_same : (os : List Occurrence) → first_at what test (outlined os) ≡ first_at what test os
  first_same [] = refl
  first_same (o ∷ os) = first o os (outlined os) (is_outline o) refl (first_same os)

module _ (spelled : Spelling) (os : List Occurrence) where
  locals_same : locals_of spelled (outlined os) ≡ locals_of spelled os
  locals_same = outline_given (declared_by spelled) (no_local spelled) os

  labels_same : labels_of spelled (outlined os) ≡ labels_of spelled os
  labels_same = ap (λ fs. filter_map (label_by spelled fs) (outlined os)) (functions_same os) ∙ outline_given (label_by spelled (functions_of os)) (no_label spelled (functions_of os)) os

  gotos_same : gotos_of spelled (outlined os) ≡ gotos_of spelled os
  gotos_same = ap (λ fs. filter_map (goto_by spelled fs) (outlined os)) (functions_same os) ∙ outline_given (goto_by spelled (functions_of os)) (no_goto spelled (functions_of os)) os

  -- ---- the faults of names, where no local variable has an attribute

  no_varargs : (o : Occurrence) → is_outline o ≡ false → varargs_outside spelled os o ≡ None
  no_varargs (Reads name) is = refl
  no_varargs (Assigns name) is = refl
  no_varargs (Field name) is = refl
  no_varargs _ is = absurd cc

  varargs_same : (o : Occurrence) → varargs_outside spelled (outlined os) o ≡ varargs_outside spelled os o
  varargs_same (Varargs token) = ap (λ (fs : List FunctionAt). cond (option_map_or (λ f. not f.vararg) (option_and_then (slice_get fs) (function_of fs token)) false) (Some token) None) (functions_same os)
  varargs_same (Reads name) = refl
  varargs_same _ = refl

  pub outline_names : (a e c : ℕ) → AreOrdered a e c os → list_any has_attribute (outlined os) ≡ false → first_fault (name_faults spelled (outlined os)) ≡ first_fault (name_faults spelled os)
  outline_names a e c order none =
      sym (only_varargs spelled (outlined os) (laid_from_order a e c (outlined os) (outline_ordered a e c os order)) none)
      ∙ (λ i. first_at VarargOutside (λ o. varargs_same o i) (outlined os))
      ∙ first_same VarargOutside (varargs_outside spelled os) no_varargs os
      ∙ only_varargs spelled os (laid_from_order a e c os order) (sym (outline_any has_attribute no_attribute os) ∙ none)

  -- ---- the faults of jumps, and where they go

  no_loop : (token : ℕ) (o : Occurrence) → is_outline o ≡ false → loops_round spelled os token o ≡ false
  no_loop token (Reads name) is = refl
  no_loop token (Assigns name) is = refl
  no_loop token (Field name) is = refl
  no_loop token _ is = absurd cc

  no_break : (o : Occurrence) → is_outline o ≡ false → break_outside spelled os o ≡ None
  no_break (Reads name) is = refl
  no_break (Assigns name) is = refl
  no_break (Field name) is = refl
  no_break _ is = absurd cc

  round_same : (token : ℕ) (o : Occurrence) → loops_round spelled (outlined os) token o ≡ loops_round spelled os token o
  round_same token (Loop from to) = ap (λ (fs : List FunctionAt). nat_le from token && nat_lt token to && option_eq nat_eq (function_of fs from) (function_of fs token)) (functions_same os)
  round_same token (Reads name) = refl
  round_same token _ = refl

  loops_same : (token : ℕ) → list_any (loops_round spelled (outlined os) token) (outlined os) ≡ list_any (loops_round spelled os token) os
  loops_same token = (λ i. list_any (λ o. round_same token o i) (outlined os)) ∙ outline_any (loops_round spelled os token) (no_loop token) os

  break_same : (o : Occurrence) → break_outside spelled (outlined os) o ≡ break_outside spelled os o
  break_same (Break token) = ap (λ (b : Bool). cond (not b) (Some token) None) (loops_same token)
  break_same (Reads name) = refl
  break_same _ = refl

  twice : filter_map (label_twice spelled (outlined os)) (labels_of spelled (outlined os)) ≡ filter_map (label_twice spelled os) (labels_of spelled os)
  twice = ap (λ (ls : List LabelAt). filter_map (λ (l : LabelAt). cond (list_any (λ (u : LabelAt). nat_lt u.token l.token && is_seen l.function l.token l.name u) ls) (Some l.token) None) ls) labels_same

  missing : filter_map (without_label spelled (outlined os)) (gotos_of spelled (outlined os)) ≡ filter_map (without_label spelled os) (gotos_of spelled os)
  missing = λ i. filter_map (λ (g : GotoAt). cond (is_none (target (labels_same i) g)) (Some g.token) None) (gotos_same i)

  entering : filter_map (into_scope spelled (outlined os)) (gotos_of spelled (outlined os)) ≡ filter_map (into_scope spelled os) (gotos_of spelled os)
  entering = λ i. filter_map (λ (g : GotoAt). cond (option_map_or (λ (l : ℕ × LabelAt). list_any (λ (v : LocalVariable). not l.1.at_end && is_active l.1.token v && not (is_active g.token v)) (locals_same i)) (target (labels_same i) g) false) (Some g.token) None) (gotos_same i)

  breaks : filter_map (break_outside spelled (outlined os)) (outlined os) ≡ filter_map (break_outside spelled os) os
  breaks = (λ i. filter_map (λ o. break_same o i) (outlined os)) ∙ outline_given (break_outside spelled os) no_break os

  pub outline_jumps : jump_faults spelled (outlined os) ≡ jump_faults spelled os
  outline_jumps = λ i. faults_at LabelTwice (twice i) ++ faults_at NoLabel (missing i) ++ faults_at JumpIntoScope (entering i) ++ faults_at BreakOutside (breaks i)

  pub outline_roles : (token : ℕ) → jump_role_of spelled (outlined os) token ≡ jump_role_of spelled os token
  outline_roles token = λ i. label_role (position_from (λ (l : LabelAt). nat_eq l.token token) 0 (labels_same i)) (goto_role (labels_same i) (gotos_same i) token)

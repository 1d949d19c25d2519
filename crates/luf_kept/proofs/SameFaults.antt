-- The scope faults of a chunk depend on the spellings of its names alone.
use Rattle.std.proofs.Common.{◌≡◌, ℕ, Bool, false, cond, not, ◌||◌, ◌&&◌, Option, Some, None, List, [], ◌∷◌, map, codes, bytes_eq, nat_lt, slice_get, refl, ap}
use Rattle.std.specs.Prelude.{is_none, ◌++◌}
use Rattle.std.specs.List.{filter_map, list_any, cons_option}
use Rattle.std.specs.Option.{option_map_or, option_and_then}
use Rattle.luf_scope.specs.declared.fault.ScopeBad.{ScopeBad}
use Rattle.luf_scope.specs.declared.fault.ScopeWhat.{ScopeWhat}
use Rattle.luf_scope.specs.declared.fault.ScopeWhat.TheVariants.{UnknownAttribute, TwoClose, ConstAssign, VarargOutside, LabelTwice, NoLabel, JumpIntoScope, BreakOutside}
use Rattle.luf_lex.specs.declared.token.Tok.{Tok}
use Rattle.luf_lex.specs.declared.token.Tok.TheVariants as tok
use Rattle.luf_tree.specs.Grammar.{At, IsChunk}
use Rattle.luf_tree.specs.declared.tree.Chunk.{Chunk}
use Rattle.luf_scope.specs.declared.occurrence.Occurrence.{Occurrence}
use Rattle.luf_scope.specs.declared.occurrence.Occurrence.TheVariants.{Local, LocalFunction, Parameter, ImplicitSelf, LoopVariable, Reads, Assigns, Field, Label, Goto, Varargs, Break}
use Rattle.luf_scope.specs.Links.{occurrences_of}
use Rattle.luf_scope.specs.Local.{Spelling, LocalVariable, FunctionAt, kind_of, declared_by, locals_of, functions_of, meaning, is_active}
use Rattle.luf_scope.specs.Jump.{LabelAt, GotoAt, label_by, goto_by, labels_of, gotos_of, is_seen, target}
use Rattle.luf_scope.specs.Fault.{is_constant, unknown_attribute, closes_before, second_close, constant_assigned, varargs_outside, break_outside, name_faults, jump_faults, first_fault, first_of, scope_fault}
use Rattle.luf_interf.specs.inner.Among.{Among, here, there}
use Rattle.luf_interf.proofs.Says.{Named, NamedOption}
use Rattle.luf_interf.proofs.Program.{block_says}
use Rattle.luf_resolved.specs.Resolved.{meanings}

-- ---- lists

filtered_alike : {A B : Type 0} (p q : A → Option B) (xs : List A) → ((x : A) → Among x xs → p x ≡ q x) → filter_map p xs ≡ filter_map q xs
filtered_alike p q [] same = refl
filtered_alike p q (x ∷ xs) same = λ i. cons_option (same x here i) (filtered_alike p q xs (λ y m. same y (there m)) i)

any_alike : {A : Type 0} (p q : A → Bool) (xs : List A) → ((x : A) → Among x xs → p x ≡ q x) → list_any p xs ≡ list_any q xs
any_alike p q [] same = refl
any_alike p q (x ∷ xs) same = λ i. same x here i || any_alike p q xs (λ y m. same y (there m)) i

-- ---- an occurrence whose names are spelled alike

module _ (f g : Spelling) where
  abbrev AlikeOption : Option ℕ → Type 0
  AlikeOption None = Unit {0}
  AlikeOption (Some token) = f token ≡ g token

  abbrev pub Alike : Occurrence → Type 0
  Alike (Local name attribute from to) = (f name ≡ g name) × AlikeOption attribute
  Alike (LocalFunction name from to) = f name ≡ g name
  Alike (Parameter name from to) = f name ≡ g name
  Alike (LoopVariable name from to) = f name ≡ g name
  Alike (Reads name) = f name ≡ g name
  Alike (Assigns name) = f name ≡ g name
  Alike (Label name from to at_end) = f name ≡ g name
  Alike (Goto token name) = f name ≡ g name
  Alike _ = Unit {0}

  kind_alike : (a : Option ℕ) → AlikeOption a → kind_of f a ≡ kind_of g a
  kind_alike None same = refl
  kind_alike (Some a) same = ap (λ (s : List ℕ). kind_of (λ _. s) (Some a)) same

  declared_alike : (u : Occurrence) → Alike u → declared_by f u ≡ declared_by g u
  declared_alike (Local name attribute from to) same =
      λ i. Some (record { token = name; name = same.0 i; kind = kind_alike attribute same.1 i; from = from; to = to })
  declared_alike (LocalFunction name from to) same = ap (λ (s : List ℕ). declared_by (λ _. s) (LocalFunction name from to)) same
  declared_alike (Parameter name from to) same = ap (λ (s : List ℕ). declared_by (λ _. s) (Parameter name from to)) same
  declared_alike (LoopVariable name from to) same = ap (λ (s : List ℕ). declared_by (λ _. s) (LoopVariable name from to)) same
  declared_alike (ImplicitSelf colon from to) same = refl
  declared_alike _ same = refl

  label_alike : (functions : List FunctionAt) (u : Occurrence) → Alike u → label_by f functions u ≡ label_by g functions u
  label_alike functions (Label name from to at_end) same = ap (λ (s : List ℕ). label_by (λ _. s) functions (Label name from to at_end)) same
  label_alike functions _ same = refl

  goto_alike : (functions : List FunctionAt) (u : Occurrence) → Alike u → goto_by f functions u ≡ goto_by g functions u
  goto_alike functions (Goto token name) same = ap (λ (s : List ℕ). goto_by (λ _. s) functions (Goto token name)) same
  goto_alike functions _ same = refl

  module _ (os : List Occurrence) (same : (u : Occurrence) → Among u os → Alike u) where
    locals_alike : locals_of f os ≡ locals_of g os
    locals_alike = filtered_alike (declared_by f) (declared_by g) os (λ u m. declared_alike u (same u m))

    labels_alike : labels_of f os ≡ labels_of g os
    labels_alike = filtered_alike (label_by f (functions_of os)) (label_by g (functions_of os)) os (λ u m. label_alike (functions_of os) u (same u m))

    gotos_alike : gotos_of f os ≡ gotos_of g os
    gotos_alike = filtered_alike (goto_by f (functions_of os)) (goto_by g (functions_of os)) os (λ u m. goto_alike (functions_of os) u (same u m))

    attribute_alike : (u : Occurrence) → Alike u → unknown_attribute f os u ≡ unknown_attribute g os u
    attribute_alike (Local name (Some attribute) from to) alike = ap (λ (s : List ℕ). unknown_attribute (λ _. s) os (Local name (Some attribute) from to)) alike.1
    attribute_alike (Local name None from to) alike = refl
    attribute_alike _ alike = refl

    closes_alike : (end token : ℕ) (u : Occurrence) → Alike u → closes_before f os end token u ≡ closes_before g os end token u
    closes_alike end token (Local name (Some attribute) from to) alike = ap (λ (s : List ℕ). closes_before (λ _. s) os end token (Local name (Some attribute) from to)) alike.1
    closes_alike end token (Local name None from to) alike = refl
    closes_alike end token _ alike = refl

    close_alike : (u : Occurrence) → Alike u → second_close f os u ≡ second_close g os u
    close_alike (Local name (Some attribute) from to) alike =
        λ i. cond (bytes_eq (alike.1 i) (codes "close") && any_alike (closes_before f os from attribute) (closes_before g os from attribute) os (λ u m. closes_alike from attribute u (same u m)) i) (Some attribute) None
    close_alike (Local name None from to) alike = refl
    close_alike _ alike = refl

    assigned_alike : (u : Occurrence) → Alike u → constant_assigned f os u ≡ constant_assigned g os u
    assigned_alike (Assigns name) alike =
        λ i. cond (option_map_or is_constant (option_and_then (slice_get (locals_alike i)) (meaning (locals_alike i) name (alike i))) false) (Some name) None
    assigned_alike _ alike = refl

    varargs_alike : (u : Occurrence) → varargs_outside f os u ≡ varargs_outside g os u
    varargs_alike (Varargs token) = refl
    varargs_alike _ = refl

    break_alike : (u : Occurrence) → break_outside f os u ≡ break_outside g os u
    break_alike (Break token) = refl
    break_alike _ = refl

    abbrev told : ScopeWhat → List ℕ → List ScopeBad
    told what tokens = map (λ token. record { token = token; what = what }) tokens

    names_alike : name_faults f os ≡ name_faults g os
    names_alike = λ i.
        told UnknownAttribute (filtered_alike (unknown_attribute f os) (unknown_attribute g os) os (λ u m. attribute_alike u (same u m)) i)
        ++ told TwoClose (filtered_alike (second_close f os) (second_close g os) os (λ u m. close_alike u (same u m)) i)
        ++ told ConstAssign (filtered_alike (constant_assigned f os) (constant_assigned g os) os (λ u m. assigned_alike u (same u m)) i)
        ++ told VarargOutside (filtered_alike (varargs_outside f os) (varargs_outside g os) os (λ u m. varargs_alike u) i)

    -- the faults of jumps, by the lists of which they are found
    abbrev twice : List LabelAt → LabelAt → Option ℕ
    twice labels l = cond (list_any (λ u. nat_lt u.token l.token && is_seen l.function l.token l.name u) labels) (Some l.token) None

    abbrev lost : List LabelAt → GotoAt → Option ℕ
    lost labels g = cond (is_none (target labels g)) (Some g.token) None

    abbrev entering : List LocalVariable → List LabelAt → GotoAt → Option ℕ
    entering locals labels g = cond (option_map_or (λ l. list_any (λ v. not l.1.at_end && is_active l.1.token v && not (is_active g.token v)) locals) (target labels g) false) (Some g.token) None

    jumps_alike : jump_faults f os ≡ jump_faults g os
    jumps_alike = λ i.
        told LabelTwice (filter_map (twice (labels_alike i)) (labels_alike i))
        ++ told NoLabel (filter_map (lost (labels_alike i)) (gotos_alike i))
        ++ told JumpIntoScope (filter_map (entering (locals_alike i) (labels_alike i)) (gotos_alike i))
        ++ told BreakOutside (filtered_alike (break_outside f os) (break_outside g os) os (λ u m. break_alike u) i)

    pub faults_alike : scope_fault f os ≡ scope_fault g os
    faults_alike = λ i. first_of (first_fault (names_alike i)) (first_fault (jumps_alike i))

-- ---- where two spellings differ at no name

module _ (toks : List Tok) (f g : Spelling) (names : (i : ℕ) → At toks i tok.Name → f i ≡ g i) where
  option_named : (a : Option ℕ) → NamedOption toks a → AlikeOption f g a
  option_named None named = tt
  option_named (Some a) named = names a named

  named_alike : (u : Occurrence) → Named toks u → Alike f g u
  named_alike (Local name attribute from to) named = (names name named.0, option_named attribute named.1)
  named_alike (LocalFunction name from to) named = names name named
  named_alike (Parameter name from to) named = names name named
  named_alike (LoopVariable name from to) named = names name named
  named_alike (Reads name) named = names name named
  named_alike (Assigns name) named = names name named
  named_alike (Label name from to at_end) named = names name named
  named_alike (Goto token name) named = names name named
  named_alike (Field name) named = tt
  named_alike _ named = tt

  pub same_faults : (chunk : Chunk) → IsChunk toks chunk → scope_fault f (occurrences_of chunk) ≡ scope_fault g (occurrences_of chunk)
  same_faults chunk derived =
      let os = occurrences_of chunk in
      let named = (block_says toks (meanings f os) (meanings f os) (λ s. refl) (λ i t at is. refl) derived).0.named in
      faults_alike f g os (λ u m. named_alike u (named u m))

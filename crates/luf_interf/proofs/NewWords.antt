-- The new words: at each token that has a new name, a name of the order that is not barred; elsewhere what stood there.
-- Only names get one.
use Rattle.std.proofs.Common.{◌≡◌, ℕ, suc, ◌+◌, ◌⊎◌, inl, inr, Bool, true, false, cond, Option, Some, None, List, [], ◌∷◌, slice_get, nat_eq, length, refl, sym, ap, subst, ◌∙◌, zero-add, arith, ⊎_elim, if◌then◌else◌}
use Rattle.std.specs.Prelude.{unwrap_or}
use Rattle.std.specs.List.{list_any, position_from}
use Rattle.std.specs.Option.{option_map_or}
use Rattle.std.proofs.lemmas.Option.{same_Some}
use Rattle.std.proofs.lemmas.Bool.{eqb-true, ne_eqb}
use Rattle.luf_lex.specs.declared.token.Tok.{Tok}
use Rattle.luf_lex.specs.declared.token.Tok.TheVariants as tok
use Rattle.luf_name.specs.Barred.{IsBarred}
use Rattle.luf_name.specs.Order.{IsName}
use Rattle.luf_tree.specs.declared.tree.Chunk.{Chunk}
use Rattle.luf_tree.specs.Grammar.{At, IsChunk}
use Rattle.luf_scope.specs.declared.occurrence.Occurrence.{Occurrence}
use Rattle.luf_scope.specs.declared.occurrence.Occurrence.TheVariants.{Local, LocalFunction, Parameter, ImplicitSelf, LoopVariable, Reads, Assigns, Field, Label, Goto}
use Rattle.luf_scope.specs.declared.binder.Role.{Role}
use Rattle.luf_scope.specs.declared.binder.Role.TheVariants as role
use Rattle.luf_scope.specs.declared.jump.JumpRole.{JumpRole}
use Rattle.luf_scope.specs.declared.jump.JumpRole.TheVariants as jump
use Rattle.luf_scope.specs.Local.{Spelling, LocalVariable, declared_by, locals_of, meaning}
use Rattle.luf_scope.specs.Jump.{LabelAt, GotoAt, labels_of, gotos_of, is_seen, target, jump_to, goto_role, label_role, jump_role_of}
use Rattle.luf_scope.specs.Marks.{mark_at}
use Rattle.luf_scope.specs.Role.{is_variable, is_field, declared_at, declaration, reference, role_of}
use Rattle.luf_scope.specs.Order.{place, behind, is_label, AreOrdered}
use Rattle.luf_scope.proofs.Places.{block_lies}
use Rattle.luf_resolved.specs.Resolved.{meanings}
use Rattle.luf_interf.specs.Interference.{IsLabel}
use Rattle.luf_interf.specs.NewNames.{Naming, is_fixed, AreLeast, AreNames, new_word, renamed, name_of_label, name_in, new_name_at}
use Rattle.luf_interf.specs.RenamingLaws.{said_in, NamesAgree}
use Rattle.luf_interf.specs.inner.Among.{Among}
use Rattle.luf_interf.proofs.Among.{among_at, any_none, given_by}
use Rattle.luf_interf.proofs.Last.{first_none}
use Rattle.luf_interf.proofs.Innermost.{innermost_seen}
use Rattle.luf_interf.proofs.Labels.{is_goto, label_from, goto_from, goto_role_none}
use Rattle.luf_interf.proofs.Says.{Named}
use Rattle.luf_interf.proofs.Program.{block_says}

-- ---- what a test finds in a list

abbrev Finds : {X : Type 0} → (X → Bool) → List X → Option ℕ → Type 0
Finds test xs None = Unit {0}
Finds {X} test xs (Some n) = (x : X) × (slice_get xs n ≡ Some x) × (test x ≡ true)

found_from : {X : Type 0} (test : X → Bool) (all : List X) (i : ℕ) (xs : List X) → ((k : ℕ) → slice_get xs k ≡ slice_get all (i + k)) → Finds test all (position_from test i xs)
found_from test all i [] lies = tt
found_from test all i (x ∷ xs) lies = by (test x) refl (found_from test all (i + 1) xs (λ k. let at : i + suc k ≡ (i + 1) + k = omega arith in lies (suc k) ∙ ap (slice_get all) at))
  where
    by : (b : Bool) → test x ≡ b → Finds test all (position_from test (i + 1) xs) → Finds test all (cond b (Some i) (position_from test (i + 1) xs))
    by true is rest = let at : i + 0 ≡ i = omega arith in (x, ap (slice_get all) (sym at) ∙ sym (lies 0), is)
    by false is rest = rest

found : {X : Type 0} (test : X → Bool) (xs : List X) → Finds test xs (position_from test 0 xs)
found test xs = found_from test xs 0 xs (λ k. ap (slice_get xs) (sym (zero-add k)))

-- ---- new words and new names

module _ (spelled : Spelling) (os : List Occurrence) where
  -- the labels of a role are there
  abbrev IsThere : Option JumpRole → Type 0
  IsThere None = Unit {0}
  IsThere (Some (jump.Label n)) = (l : LabelAt) × IsLabel spelled os n l
  IsThere (Some (jump.Goto n)) = (l : LabelAt) × IsLabel spelled os n l

  goto_there : (o : Option (ℕ × LabelAt)) → ((n : ℕ) (l : LabelAt) → o ≡ Some (n, l) → IsLabel spelled os n l) → IsThere (jump_to o)
  goto_there None lies = tt
  goto_there (Some x) lies = (x.1, lies x.0 x.1 refl)

  gotos_there : (gotos : List GotoAt) (token : ℕ) → IsThere (goto_role (labels_of spelled os) gotos token)
  gotos_there [] token = tt
  gotos_there (g ∷ gotos) token = by (nat_eq g.label token) (gotos_there gotos token)
    where
      by : (b : Bool) → IsThere (goto_role (labels_of spelled os) gotos token) → IsThere (cond b (jump_to (target (labels_of spelled os) g)) (goto_role (labels_of spelled os) gotos token))
      by true rest = goto_there (target (labels_of spelled os) g) (λ n l is. (innermost_seen (is_seen g.function g.token g.name) (labels_of spelled os) n l is).0)
      by false rest = rest

  label_there : (test : LabelAt → Bool) (o : Option ℕ) (to : Option JumpRole) → Finds test (labels_of spelled os) o → IsThere to → IsThere (label_role o to)
  label_there test None to finds there = there
  label_there test (Some n) to finds there = (finds.0, finds.1)

  jumps_there : (token : ℕ) → IsThere (jump_role_of spelled os token)
  jumps_there token =
      label_there (λ l. nat_eq l.token token) (position_from (λ l. nat_eq l.token token) 0 (labels_of spelled os)) (goto_role (labels_of spelled os) (gotos_of spelled os) token) (found (λ l. nat_eq l.token token) (labels_of spelled os)) (gotos_there (gotos_of spelled os) token)

  module _ (naming label_naming : Naming) where
    local_word : (b : Bool) (n : ℕ) (word : List ℕ) → (if b then word else naming n) ≡ unwrap_or (if b then None else Some (naming n)) word
    local_word true n word = refl
    local_word false n word = refl

    word_is : (r : Role) (to : Option JumpRole) (word : List ℕ) → new_word spelled os naming label_naming r to word ≡ unwrap_or (name_in spelled os naming label_naming r to) word
    word_is (role.Declares n) to word = local_word (option_map_or is_fixed (slice_get (locals_of spelled os) n) true) n word
    word_is (role.Refers n) to word = local_word (option_map_or is_fixed (slice_get (locals_of spelled os) n) true) n word
    word_is role.Plain None word = refl
    word_is role.Plain (Some (jump.Label n)) word = refl
    word_is role.Plain (Some (jump.Goto n)) word = refl
    word_is role.Global to word = refl
    word_is role.Field to word = refl

    -- the word of a token is its new name, if it has one
    pub renamed_is : (token : ℕ) → renamed spelled os naming label_naming token ≡ unwrap_or (new_name_at spelled os naming label_naming token) (spelled token)
    renamed_is token = word_is (role_of spelled os token) (jump_role_of spelled os token) (spelled token)

    pub none_new : (token : ℕ) → new_name_at spelled os naming label_naming token ≡ None → renamed spelled os naming label_naming token ≡ spelled token
    none_new token none = renamed_is token ∙ ap (λ o. unwrap_or o (spelled token)) none

    -- ---- each new name is one

    -- a name that may stand there
    abbrev pub IsGood : List ℕ → Type 0
    IsGood name = IsName name × (IsBarred name → ⊥)

    abbrev AllGood : Option (List ℕ) → Type 0
    AllGood None = Unit {0}
    AllGood (Some name) = IsGood name

    module _ (least : AreLeast spelled os naming label_naming) where
      local_good : (n : ℕ) (o : Option LocalVariable) → slice_get (locals_of spelled os) n ≡ o → AllGood (if option_map_or is_fixed o true then None else Some (naming n))
      local_good n None is = tt
      local_good n (Some v) is = by (is_fixed v) refl
        where
          by : (b : Bool) → is_fixed v ≡ b → AllGood (if b then None else Some (naming n))
          by true fixed = tt
          by false free = let first = least.locals n v is free in (first.is_name, first.free.allowed)

      label_good : (to : Option JumpRole) → IsThere to → AllGood (name_of_label spelled os naming label_naming to)
      label_good None there = tt
      label_good (Some (jump.Label n)) there = let first = least.labels n there.0 there.1 in (first.is_name, first.free.allowed)
      label_good (Some (jump.Goto n)) there = let first = least.labels n there.0 there.1 in (first.is_name, first.free.allowed)

      good_in : (r : Role) (to : Option JumpRole) → IsThere to → AllGood (name_in spelled os naming label_naming r to)
      good_in (role.Declares n) to there = local_good n (slice_get (locals_of spelled os) n) refl
      good_in (role.Refers n) to there = local_good n (slice_get (locals_of spelled os) n) refl
      good_in role.Plain to there = label_good to there
      good_in role.Global to there = tt
      good_in role.Field to there = tt

      -- each word is the old one, or a name that may stand there
      pub good_words : (token : ℕ) → (renamed spelled os naming label_naming token ≡ spelled token) ⊎ IsGood (renamed spelled os naming label_naming token)
      good_words token = by (new_name_at spelled os naming label_naming token) refl (good_in (role_of spelled os token) (jump_role_of spelled os token) (jumps_there token))
        where
          by : (o : Option (List ℕ)) → new_name_at spelled os naming label_naming token ≡ o → AllGood o → (renamed spelled os naming label_naming token ≡ spelled token) ⊎ IsGood (renamed spelled os naming label_naming token)
          by None none good = inl (none_new token none)
          by (Some name) is good = inr (subst IsGood (sym (renamed_is token ∙ ap (λ o. unwrap_or o (spelled token)) is)) good)

      -- and each new name may stand there
      pub good_names : (token : ℕ) (name : List ℕ) → new_name_at spelled os naming label_naming token ≡ Some name → IsGood name
      good_names token name is = subst AllGood is (good_in (role_of spelled os token) (jump_role_of spelled os token) (jumps_there token))

  -- ---- two namings that agree

  module _ (naming label_naming other other_labels : Naming) (agree : NamesAgree spelled os naming label_naming other other_labels) where
    local_agrees : (n : ℕ) (o : Option LocalVariable) → slice_get (locals_of spelled os) n ≡ o → (word : List ℕ)
        → (if option_map_or is_fixed o true then word else naming n) ≡ (if option_map_or is_fixed o true then word else other n)
    local_agrees n None is word = refl
    local_agrees n (Some v) is word = by (is_fixed v) refl
      where
        by : (b : Bool) → is_fixed v ≡ b → (if b then word else naming n) ≡ (if b then word else other n)
        by true fixed = refl
        by false free = agree.locals n v is free

    word_agrees : (r : Role) (to : Option JumpRole) → IsThere to → (word : List ℕ) → new_word spelled os naming label_naming r to word ≡ new_word spelled os other other_labels r to word
    word_agrees (role.Declares n) to there word = local_agrees n (slice_get (locals_of spelled os) n) refl word
    word_agrees (role.Refers n) to there word = local_agrees n (slice_get (locals_of spelled os) n) refl word
    word_agrees role.Plain None there word = refl
    word_agrees role.Plain (Some (jump.Label n)) there word = agree.labels n there.0 there.1
    word_agrees role.Plain (Some (jump.Goto n)) there word = agree.labels n there.0 there.1
    word_agrees role.Global to there word = refl
    word_agrees role.Field to there word = refl

    pub renamed_agree : (token : ℕ) → renamed spelled os naming label_naming token ≡ renamed spelled os other other_labels token
    renamed_agree token = word_agrees (role_of spelled os token) (jump_role_of spelled os token) (jumps_there token) (spelled token)

  -- what is written down of new names gives each word
  pub written_words : (names : List (ℕ × List ℕ)) (are : AreNames spelled os names) (token : ℕ) → unwrap_or (mark_at names token) (spelled token) ≡ renamed spelled os are.naming are.label_naming token
  written_words names are token = ap (λ o. unwrap_or o (spelled token)) (are.at token) ∙ sym (renamed_is are.naming are.label_naming token)

-- ---- only names have new ones

-- what declares a local variable stands at a name, or is the implicit `self`, which is fixed
named_or_fixed : (toks : List Tok) (spelled : Spelling) (u : Occurrence) (v : LocalVariable) → declared_by spelled u ≡ Some v → Named toks u → At toks v.token tok.Name ⊎ (is_fixed v ≡ true)
named_or_fixed toks spelled (Local name attribute from to) v is named = inl (subst (λ (w : LocalVariable). At toks w.token tok.Name) (same_Some _ v is) named.0)
named_or_fixed toks spelled (LocalFunction name from to) v is named = inl (subst (λ (w : LocalVariable). At toks w.token tok.Name) (same_Some _ v is) named)
named_or_fixed toks spelled (Parameter name from to) v is named = inl (subst (λ (w : LocalVariable). At toks w.token tok.Name) (same_Some _ v is) named)
named_or_fixed toks spelled (ImplicitSelf colon from to) v is named = inr (sym (ap is_fixed (same_Some _ v is)))
named_or_fixed toks spelled (LoopVariable name from to) v is named = inl (subst (λ (w : LocalVariable). At toks w.token tok.Name) (same_Some _ v is) named)
named_or_fixed toks spelled _ v is named = absurd cc

variable_name : (toks : List Tok) (t : ℕ) (u : Occurrence) → is_variable t u ≡ true → Named toks u → At toks t tok.Name
variable_name toks t (Reads name) is named = subst (λ n. At toks n tok.Name) (sym (eqb-true t name is)) named
variable_name toks t (Assigns name) is named = subst (λ n. At toks n tok.Name) (sym (eqb-true t name is)) named
variable_name toks t _ is named = absurd cc

field_name : (toks : List Tok) (t : ℕ) (u : Occurrence) → is_field t u ≡ true → Named toks u → At toks t tok.Name
field_name toks t (Field name) is named = subst (λ n. At toks n tok.Name) (sym (eqb-true t name is)) named
field_name toks t _ is named = absurd cc

label_name : (toks : List Tok) (u : Occurrence) → is_label u ≡ true → Named toks u → At toks (place u) tok.Name
label_name toks (Label name from to at_end) is named = named
label_name toks _ is named = absurd cc

goto_name : (toks : List Tok) (u : Occurrence) (n : ℕ) → is_goto u ≡ true → behind u ≡ n + 1 → Named toks u → At toks n tok.Name
goto_name toks (Goto token name) n is last named = let same : name ≡ n = omega (arith, last) in subst (λ k. At toks k tok.Name) same named
goto_name toks _ n is last named = absurd cc

module _ (a e c : ℕ) (os : List Occurrence) (lies : AreOrdered a e c os) (spelled : Spelling) (naming label_naming : Naming) (toks : List Tok) (named : (u : Occurrence) → Among u os → Named toks u) (t : ℕ) (other : At toks t tok.Name → ⊥) where
  no_variable : list_any (is_variable t) os ≡ false
  no_variable = any_none (is_variable t) os (λ u m is. other (variable_name toks t u is (named u m)))

  no_field : list_any (is_field t) os ≡ false
  no_field = any_none (is_field t) os (λ u m is. other (field_name toks t u is (named u m)))

  no_label : position_from (λ l. nat_eq l.token t) 0 (labels_of spelled os) ≡ None
  no_label = first_none (λ l. nat_eq l.token t) 0 (labels_of spelled os) (λ n l there. ne_eqb l.token t (λ same.
      let from = label_from a e c os lies spelled l (among_at (labels_of spelled os) n l there) in
      other (subst (λ n. At toks n tok.Name) (from.2.token ∙ same) (label_name toks from.0 from.2.is (named from.0 from.1)))))

  no_goto : goto_role (labels_of spelled os) (gotos_of spelled os) t ≡ None
  no_goto = goto_role_none (labels_of spelled os) (gotos_of spelled os) t (λ g m same.
      let from = goto_from a e c os lies spelled g m in
      other (subst (λ n. At toks n tok.Name) same (goto_name toks from.0 g.label from.2.is from.2.behind (named from.0 from.1))))

  -- a local variable that it declares is fixed
  declared_fixed : (d : Option ℕ) → Finds (λ v. nat_eq v.token t) (locals_of spelled os) d → name_in spelled os naming label_naming (declaration d role.Plain) None ≡ None
  declared_fixed None finds = refl
  declared_fixed (Some n) finds =
      let v = finds.0 in
      let from = given_by (declared_by spelled) os v (among_at (locals_of spelled os) n v finds.1) in
      let fixed : is_fixed v ≡ true = ⊎_elim (λ there. absurd (other (subst (λ n. At toks n tok.Name) (eqb-true v.token t finds.2) there))) (λ is. is) (named_or_fixed toks spelled from.0 v from.2 (named from.0 from.1)) in
      λ i. if ((λ k. option_map_or is_fixed (finds.1 k) true) ∙ fixed) i then None else Some (naming n)

  pub none_other : new_name_at spelled os naming label_naming t ≡ None
  none_other =
      (λ i. name_in spelled os naming label_naming (declaration (declared_at (locals_of spelled os) t) (cond (no_variable i) (reference (meaning (locals_of spelled os) t (spelled t))) (cond (no_field i) role.Field role.Plain))) (label_role (no_label i) (no_goto i)))
      ∙ declared_fixed (declared_at (locals_of spelled os) t) (found (λ v. nat_eq v.token t) (locals_of spelled os))

-- where no name stands, there is no new one
pub none_elsewhere : (toks : List Tok) (chunk : Chunk) (spelled : Spelling) (naming label_naming : Naming) (token : ℕ) → IsChunk toks chunk → (At toks token tok.Name → ⊥) → new_name_at spelled (said_in chunk) naming label_naming token ≡ None
none_elsewhere toks chunk spelled naming label_naming token derived other =
    let os = said_in chunk in
    let named = (block_says toks (meanings spelled os) (meanings spelled os) (λ s. refl) (λ i t at is. refl) derived).0.named in
    none_other 0 (length toks) (length toks) os (block_lies derived) spelled naming label_naming toks named token other

-- and the word is the old one
pub others_kept : (toks : List Tok) (chunk : Chunk) (spelled : Spelling) (naming label_naming : Naming) (token : ℕ) → IsChunk toks chunk → (At toks token tok.Name → ⊥) → renamed spelled (said_in chunk) naming label_naming token ≡ spelled token
others_kept toks chunk spelled naming label_naming token derived other =
    none_new spelled (said_in chunk) naming label_naming token (none_elsewhere toks chunk spelled naming label_naming token derived other)

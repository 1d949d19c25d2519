-- A chunk under least names resolves to what it resolved to.
use Rattle.std.proofs.Common.{◌≡◌, ℕ, true, false, cond, Option, Some, None, List, length, refl, sym, ap, subst, ◌∙◌, codes, arith}
use Rattle.std.specs.List.{list_any}
use Rattle.std.proofs.lemmas.Option.{same_Some}
use Rattle.std.proofs.lemmas.Bool.{eq-eqb, false≢true}
use Rattle.luf_lex.specs.declared.token.Tok.{Tok}
use Rattle.luf_lex.specs.declared.token.Tok.TheVariants as tok
use Rattle.luf_tree.specs.Grammar.{At}
use Rattle.luf_tree.specs.SyntaxMap.{ShapeMap}
use Rattle.luf_tree.specs.TokenSyntax as tokens
use Rattle.luf_scope.specs.declared.occurrence.Occurrence.{Occurrence}
use Rattle.luf_scope.specs.declared.occurrence.Occurrence.TheVariants.{Local, LocalFunction, Parameter, ImplicitSelf, LoopVariable, Reads, Assigns, Field, Varargs, Function, Loop, Label, Goto, Break}
use Rattle.luf_scope.specs.declared.binder.Role.TheVariants as role
use Rattle.luf_scope.specs.Local.{Spelling, LocalVariable, kind_of, declared_by, locals_of, meaning}
use Rattle.luf_scope.specs.Jump.{jump_role_of}
use Rattle.luf_scope.specs.Role.{is_variable, is_field, declaration, reference, role_of}
use Rattle.luf_scope.specs.Order.{AreOrdered}
use Rattle.luf_scope.proofs.Places.{block_lies}
use Rattle.luf_resolved.specs.Resolved.{Meant, name_meaning, label_number, kinds_of, meanings}
use Rattle.luf_resolved.proofs.Paired.{Paired, PairedOption, neither, both, filtered, same_map}
use Rattle.luf_interf.specs.Interference.{IsReference, meant}
use Rattle.luf_interf.specs.NewNames.{Naming, new_word}
use Rattle.luf_interf.specs.RenamingLaws.{said_in, LeastNamesResolveAlike}
use Rattle.luf_interf.specs.inner.Among.{Among}
use Rattle.luf_interf.proofs.Among.{any_none, any_of, given, index_of, beside_itself}
use Rattle.luf_interf.proofs.Tokens.{Has, attribute_behind, variable_named, declared_there, none_declared, one}
use Rattle.luf_interf.proofs.NewLocals.{told, reference_role}
use Rattle.luf_interf.proofs.Roles.{plain_there, role_alike, environment_alike}
use Rattle.luf_interf.proofs.Labels.{no_jump_at, least_names_keep_jumps}
use Rattle.luf_interf.proofs.Says.{is_word, Named, AgreeOption, Agree}
use Rattle.luf_interf.proofs.NewWords.{none_new, none_other}
use Rattle.luf_interf.proofs.Program.{block_says}

-- ---- what keeps its word, and names

module _ (a e c : ℕ) (os : List Occurrence) (lies : AreOrdered a e c os) (spelled : Spelling) (naming label_naming : Naming) where
  abbrev new_spelled : Spelling
  new_spelled = told a e c os lies spelled naming label_naming

  -- a plain token that is no label
  plain_kept : (t : ℕ) → role_of spelled os t ≡ role.Plain → jump_role_of spelled os t ≡ None → new_spelled t ≡ spelled t
  plain_kept t plain no_jump = λ i. new_word spelled os naming label_naming (plain i) (no_jump i) (spelled t)

  literal_kept : (toks : List Tok) → ((u : Occurrence) → Among u os → Named toks u) → (t : ℕ) (k : Tok) → At toks t k → is_word k ≡ false → new_spelled t ≡ spelled t
  literal_kept toks named t k at none =
      none_new spelled os naming label_naming t (none_other a e c os lies spelled naming label_naming toks named t (λ name. false≢true (sym none ∙ ap is_word (same_Some k tok.Name (sym at ∙ name)))))

  pub attribute_kept : (name b from to : ℕ) → Among (Local name (Some b) from to) os → new_spelled b ≡ spelled b
  attribute_kept name b from to m =
      let later = attribute_behind a e c os lies (Local name (Some b) from to) m in
      let has : Has b (Local name (Some b) from to) = (omega (arith, later), omega arith) in
      plain_kept b (plain_there a e c os lies spelled b (Local name (Some b) from to) m has (λ _ same. omega (arith, later, same)) refl refl) (no_jump_at a e c os lies spelled b (Local name (Some b) from to) m has refl refl)

  field_kept : (name : ℕ) → Among (Field name) os → new_spelled name ≡ spelled name
  field_kept name m =
      let has : Has name (Field name) = (omega arith, omega arith) in
      let undeclared = none_declared a e c os lies spelled name (Field name) m has (λ is _. false≢true is) in
      let no_variable : list_any (is_variable name) os ≡ false = any_none (is_variable name) os (λ u n is.
      let same : u ≡ Field name = one a e c os lies name u (Field name) n m (variable_named name u is).has has in
      false≢true (sym (ap (is_variable name) same) ∙ is)) in
      let field : list_any (is_field name) os ≡ true = any_of (is_field name) os (Field name) m (eq-eqb name name refl) in
      λ i. new_word spelled os naming label_naming (declaration (undeclared i) (cond (no_variable i) (reference (meaning (locals_of spelled os) name (spelled name))) (cond (field i) role.Field role.Plain))) (jump_role_of spelled os name) (spelled name)

  declared_role : (u : Occurrence) (v : LocalVariable) → Among u os → declared_by spelled u ≡ Some v → (n : ℕ) × (role_of spelled os v.token ≡ role.Declares n)
  declared_role u v m is =
      let found = index_of (locals_of spelled os) v (given (declared_by spelled) os u v m is) in
      (found.0, λ i. declaration (declared_there a e c os lies spelled found.0 v found.1 i) (cond (list_any (is_variable v.token) os) (reference (meaning (locals_of spelled os) v.token (spelled v.token))) (cond (list_any (is_field v.token) os) role.Field role.Plain)))

  -- a name that is declared, or referred to, means one thing whatever it is spelled, and a free one keeps its spelling
  declared_meaning : (t n : ℕ) (environment : Option ℕ) (word other : List ℕ) → role_of spelled os t ≡ role.Declares n → name_meaning (role_of spelled os t) environment word ≡ name_meaning (role_of spelled os t) environment other
  declared_meaning t n environment word other is = (λ i. name_meaning (is i) environment word) ∙ sym (λ i. name_meaning (is i) environment other)

  reference_meaning : (t : ℕ) (environment : Option ℕ) → IsReference spelled os t → name_meaning (role_of spelled os t) environment (new_spelled t) ≡ name_meaning (role_of spelled os t) environment (spelled t)
  reference_meaning t environment is = by (meant spelled os t) (reference_role a e c os lies spelled naming label_naming t is)
    where
      by : (o : Option ℕ) → role_of spelled os t ≡ reference o → name_meaning (role_of spelled os t) environment (new_spelled t) ≡ name_meaning (role_of spelled os t) environment (spelled t)
      by None free =
          let same : new_spelled t ≡ spelled t = λ k. new_word spelled os naming label_naming (free k) (jump_role_of spelled os t) (spelled t) in
          ap (name_meaning (role_of spelled os t) environment) same
      by (Some n) refers = (λ i. name_meaning (refers i) environment (new_spelled t)) ∙ sym (λ i. name_meaning (refers i) environment (spelled t))

  -- ---- the kinds of local variables

  kind_kept : (u : Occurrence) → Among u os → PairedOption (λ v w. w.kind ≡ v.kind) (declared_by spelled u) (declared_by new_spelled u)
  kind_kept (Local name None from to) m = both refl
  kind_kept (Local name (Some b) from to) m = both (ap (λ z. kind_of (λ _. z) (Some b)) (attribute_kept name b from to m))
  kind_kept (LocalFunction name from to) m = both refl
  kind_kept (Parameter name from to) m = both refl
  kind_kept (ImplicitSelf colon from to) m = both refl
  kind_kept (LoopVariable name from to) m = both refl
  kind_kept _ m = neither

  pub kinds_paired : Paired (λ v w. w.kind ≡ v.kind) (locals_of spelled os) (locals_of new_spelled os)
  kinds_paired =
      filtered (declared_by spelled) (declared_by new_spelled) (λ u v r. subst (λ z. PairedOption (λ v w. w.kind ≡ v.kind) (declared_by spelled u) (declared_by new_spelled z)) r.0 (kind_kept u r.1))
      (beside_itself (λ u v. (u ≡ v) × Among u os) os (λ u m. (refl, m)))

  kinds_kept : kinds_of new_spelled os ≡ kinds_of spelled os
  kinds_kept = same_map (λ v. v.kind) (λ v. v.kind) (λ v w r. r) kinds_paired

  -- ---- the words of all that is said

  module _ (roles : (t : ℕ) → role_of new_spelled os t ≡ role_of spelled os t) (environments : (t : ℕ) → meaning (locals_of new_spelled os) t (codes "_ENV") ≡ meaning (locals_of spelled os) t (codes "_ENV"))
      (jumps : (t : ℕ) → jump_role_of new_spelled os t ≡ jump_role_of spelled os t) where
    abbrev before_it : ShapeMap tokens.Tokens Meant
    before_it = meanings spelled os

    abbrev after_it : ShapeMap tokens.Tokens Meant
    after_it = meanings new_spelled os

    meaning_from : (t : ℕ) → name_meaning (role_of spelled os t) (meaning (locals_of spelled os) t (codes "_ENV")) (new_spelled t) ≡ name_meaning (role_of spelled os t) (meaning (locals_of spelled os) t (codes "_ENV")) (spelled t) → after_it.name t ≡ before_it.name t
    meaning_from t same = (λ i. name_meaning (roles t i) (environments t i) (new_spelled t)) ∙ same

    declared_name : (u : Occurrence) (v : LocalVariable) → Among u os → declared_by spelled u ≡ Some v → after_it.name v.token ≡ before_it.name v.token
    declared_name u v m is = let r = declared_role u v m is in meaning_from v.token (declared_meaning v.token r.0 (meaning (locals_of spelled os) v.token (codes "_ENV")) (new_spelled v.token) (spelled v.token) r.1)

    reference_name : (t : ℕ) (u : Occurrence) → Among u os → is_variable t u ≡ true → after_it.name t ≡ before_it.name t
    reference_name t u m is = meaning_from t (reference_meaning t (meaning (locals_of spelled os) t (codes "_ENV")) (any_of (is_variable t) os u m is))

    label_kept : (t : ℕ) → after_it.label t ≡ before_it.label t
    label_kept t = ap label_number (jumps t)

    attribute_agrees : (name from to : ℕ) (attribute : Option ℕ) → Among (Local name attribute from to) os → AgreeOption after_it before_it attribute
    attribute_agrees name from to None m = tt
    attribute_agrees name from to (Some b) m = attribute_kept name b from to m

    agrees : (u : Occurrence) → Among u os → Agree after_it before_it u
    agrees (Local name attribute from to) m = (declared_name (Local name attribute from to) _ m refl, attribute_agrees name from to attribute m)
    agrees (LocalFunction name from to) m = declared_name (LocalFunction name from to) _ m refl
    agrees (Parameter name from to) m = declared_name (Parameter name from to) _ m refl
    agrees (ImplicitSelf colon from to) m = tt
    agrees (LoopVariable name from to) m = declared_name (LoopVariable name from to) _ m refl
    agrees (Reads name) m = reference_name name (Reads name) m (eq-eqb name name refl)
    agrees (Assigns name) m = reference_name name (Assigns name) m (eq-eqb name name refl)
    agrees (Field name) m = field_kept name m
    agrees (Varargs token) m = tt
    agrees (Function from to vararg) m = tt
    agrees (Loop from to) m = tt
    agrees (Label name from to at_end) m = label_kept name
    agrees (Goto token name) m = label_kept name
    agrees (Break token) m = tt

pub least_names_resolve_alike : LeastNamesResolveAlike
least_names_resolve_alike toks chunk spelled naming label_naming derived least have =
    let n = length toks in
    let os = said_in chunk in
    let lies = block_lies derived in
    let now = told 0 n n os lies spelled naming label_naming in
    let named = (block_says toks (meanings spelled os) (meanings spelled os) (λ s. refl) (λ i t at is. refl) derived).0.named in
    let program = (block_says toks (meanings now os) (meanings spelled os) (λ s. refl) (literal_kept 0 n n os lies spelled naming label_naming toks named) derived).0.same
    (agrees 0 n n os lies spelled naming label_naming (role_alike 0 n n os lies spelled naming label_naming least) (environment_alike 0 n n os lies spelled naming label_naming least)
    (λ t. least_names_keep_jumps toks chunk spelled naming label_naming t derived least have)) in
    let kinds = kinds_kept 0 n n os lies spelled naming label_naming in
    λ i. record { kinds = kinds i; program = program i }

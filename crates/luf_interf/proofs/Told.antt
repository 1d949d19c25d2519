-- What is told of new names, token by token, is the least names.
use Rattle.std.proofs.Common.{◌≡◌, ℕ, zero, suc, ◌+◌, ◌<◌, ◌≤◌, ◌⊎◌, inl, inr, true, cond, nat_eq, Option, Some, None, List, [], ◌∷◌, ◌++◌, All, slice_get, map, length, refl, sym, ap, subst, ◌∙◌, arith, if◌then◌else◌}
use Rattle.std.specs.Prelude.{slice_index_or}
use Rattle.std.specs.Option.{option_map, option_map_or}
use Rattle.std.proofs.lemmas.Bool.{cases_lt, eq-eqb, ne_eqb}
use Rattle.std.proofs.lemmas.Option.{slice_get-map, slice_get_within}
use Rattle.luf_name.proofs.Rising.{one_name}
use Rattle.luf_name.specs.Barred.{IsBarred}
use Rattle.luf_name.specs.Order.{IsName, IsNth}
use Rattle.luf_lex.specs.declared.token.Tok.{Tok}
use Rattle.luf_lex.specs.declared.token.Tok.TheVariants.{Name}
use Rattle.luf_tree.specs.declared.tree.Chunk.{Chunk}
use Rattle.luf_tree.specs.Grammar.{IsChunk}
use Rattle.luf_scope.specs.Local.{Spelling, LocalVariable, binder_of, locals_of}
use Rattle.luf_scope.specs.Jump.{jump_role_of}
use Rattle.luf_scope.specs.Links.{NameTable, AreLinks}
use Rattle.luf_scope.specs.Marks.{mark_at}
use Rattle.luf_scope.specs.Role.{role_of}
use Rattle.luf_scope.specs.declared.binder.Binder.{Binder}
use Rattle.luf_scope.specs.declared.binder.Role.{Role}
use Rattle.luf_scope.specs.declared.binder.Role.TheVariants as role
use Rattle.luf_scope.specs.declared.jump.JumpRole.{JumpRole}
use Rattle.luf_scope.specs.declared.jump.JumpRole.TheVariants as jump
use Rattle.luf_scope.specs.declared.occurrence.Occurrence.{Occurrence}
use Rattle.luf_scope.proofs.Marked.{mark_absent}
use Rattle.luf_goto.specs.Jumps.{AreJumps}
use Rattle.luf_interf.specs.NewNames.{Naming, is_fixed, AreLeast, AreNames, new_name_at, name_in, name_of_local, name_of_label}
use Rattle.luf_interf.specs.RenamingLaws.{said_in}
use Rattle.luf_interf.specs.inner.LabelNames.{name_of_number, naming_by, AreLabelNames}
use Rattle.luf_interf.specs.inner.Owners.{AreLocalNames}
use Rattle.luf_interf.specs.inner.Told.{local_naming, local_told, label_told, told_in, told_at, if_name, name_told, AreToldTo}
use Rattle.luf_interf.specs.inner.Uses.{nowhere}
use Rattle.luf_interf.proofs.Named.{number_named}
use Rattle.luf_interf.proofs.NewWords.{good_names, none_elsewhere}

-- ---- what is told is the new name

module _ (spelled : Spelling) (os : List Occurrence) (locals labels : List ℕ) where
  naming : Naming
  naming = local_naming locals

  label_naming : Naming
  label_naming = naming_by labels

  local_is : (binders : List Binder) → binders ≡ map binder_of (locals_of spelled os) → (n : ℕ) → local_told binders locals n ≡ name_of_local spelled os (local_naming locals) (naming_by labels) n
  local_is binders is n =
      ap (λ bs. if option_map_or (λ (b : Binder). b.fixed) (slice_get bs n) true then None else Some (local_naming locals n)) is
      ∙ ap (λ o. if option_map_or (λ (b : Binder). b.fixed) o true then None else Some (local_naming locals n)) (slice_get-map binder_of (locals_of spelled os) n)
      ∙ by (slice_get (locals_of spelled os) n)
    where
      by : (o : Option LocalVariable) → (if option_map_or (λ (b : Binder). b.fixed) (option_map binder_of o) true then None else Some (local_naming locals n)) ≡ (if option_map_or is_fixed o true then None else Some (local_naming locals n))
      by None = refl
      by (Some v) = refl

  label_is : (to : Option JumpRole) → label_told labels to ≡ name_of_label spelled os (local_naming locals) (naming_by labels) to
  label_is None = refl
  label_is (Some (jump.Label n)) = refl
  label_is (Some (jump.Goto n)) = refl

  told_is : (binders : List Binder) → binders ≡ map binder_of (locals_of spelled os) → (r : Role) (to : Option JumpRole) → told_in binders locals labels (Some r) to ≡ name_in spelled os (local_naming locals) (naming_by labels) r to
  told_is binders is (role.Declares n) to = local_is binders is n
  told_is binders is (role.Refers n) to = local_is binders is n
  told_is binders is role.Plain to = label_is to
  told_is binders is role.Global to = refl
  told_is binders is role.Field to = refl

  pub told_new : (tokens : ℕ) (links : NameTable) (jumps : List (ℕ × JumpRole)) → AreLinks spelled os tokens links → AreJumps spelled os jumps → (token : ℕ) → token < tokens
      → told_at links jumps locals labels token ≡ new_name_at spelled os (local_naming locals) (naming_by labels) token
  told_new tokens links jumps l j token inside =
      ap (λ r. told_in links.binders locals labels r (mark_at jumps token)) (l.roles token inside)
      ∙ ap (told_in links.binders locals labels (Some (role_of spelled os token))) (j token)
      ∙ told_is links.binders l.binders (role_of spelled os token) (jump_role_of spelled os token)

-- ---- names of numbers

pub numbered_is : (n : ℕ) (name : List ℕ) → IsNth name n → name ≡ name_of_number n
numbered_is n name is = one_name n name (name_of_number n) is (number_named n)

-- ---- what is told where names stand is all there is

module _ (toks : List Tok) (chunk : Chunk) (derived : IsChunk toks chunk) (spelled : Spelling) (links : NameTable) (jumps : List (ℕ × JumpRole)) (locals labels : List ℕ)
    (are_links : AreLinks spelled (said_in chunk) (length toks) links) (are_jumps : AreJumps spelled (said_in chunk) jumps) where
  abbrev pub told : ℕ → Option (List ℕ)
  told = name_told toks links jumps locals labels

  abbrev pub new_name : ℕ → Option (List ℕ)
  new_name = new_name_at spelled (said_in chunk) (local_naming locals) (naming_by labels)

  none_there : (token : ℕ) → (slice_get toks token ≡ Some Name → ⊥) → new_name token ≡ None
  none_there token other = none_elsewhere toks chunk spelled (local_naming locals) (naming_by labels) token derived other

  told_by : (token : ℕ) → token < length toks → (o : Option Tok) → slice_get toks token ≡ o → if_name o (told_at links jumps locals labels token) ≡ new_name token
  told_by token inside (Some Name) is = told_new spelled (said_in chunk) locals labels (length toks) links jumps are_links are_jumps token inside
  told_by token inside None is = sym (none_there token (λ at. let same : None ≡ Some Name = sym is ∙ at in absurd cc))
  told_by token inside (Some t) is = other t is
    where
      other : (t : Tok) → slice_get toks token ≡ Some t → if_name (Some t) (told_at links jumps locals labels token) ≡ new_name token
      other Name is = told_new spelled (said_in chunk) locals labels (length toks) links jumps are_links are_jumps token inside
      other _ is = sym (none_there token (λ at. let same = sym is ∙ at in absurd cc))

  pub told_is_new : (token : ℕ) → token < length toks → told token ≡ new_name token
  told_is_new token inside = told_by token inside (slice_get toks token) refl

  module _ (are_locals : AreLocalNames spelled (said_in chunk) locals) (are_labels : AreLabelNames spelled (said_in chunk) labels) where
    are_least : AreLeast spelled (said_in chunk) (local_naming locals) (naming_by labels)
    are_least = record { locals = are_locals (local_naming locals) (λ n. number_named (slice_index_or locals n nowhere)); labels = are_labels.least }

    pub told_good : (token : ℕ) (name : List ℕ) → token < length toks → told token ≡ Some name → IsName name × (IsBarred name → ⊥)
    told_good token name inside is = good_names spelled (said_in chunk) (local_naming locals) (naming_by labels) are_least token name (sym (told_is_new token inside) ∙ is)

    pub are_names : (names : List (ℕ × List ℕ)) → AreToldTo told (length toks) names → AreNames spelled (said_in chunk) names
    are_names names t = record { naming = local_naming locals; label_naming = naming_by labels; least = are_least; at = λ token. by token (cases_lt token (length toks)) }
      where
        by : (token : ℕ) → (token < length toks) ⊎ (length toks ≤ token) → mark_at names token ≡ new_name token
        by token (inl inside) = t.at token inside ∙ told_is_new token inside
        by token (inr beyond) =
            mark_absent names token (λ j d there same. let before = t.before j d there in omega (arith, before, same, beyond))
            ∙ sym (none_there token (λ at. let within = slice_get_within toks token Name at in omega (arith, within, beyond)))

-- what was told over equal lists
pub told_here : (toks : List Tok) (links : NameTable) (jumps : List (ℕ × JumpRole)) (n : ℕ) {locals told_locals labels told_labels : List ℕ} {result : Option (List ℕ)} → locals ≡ told_locals → labels ≡ told_labels
    → result ≡ name_told toks links jumps told_locals told_labels n → name_told toks links jumps locals labels n ≡ result
told_here toks links jumps n {locals} {told_locals} {labels} {told_labels} first second is =
    ap (λ xs. name_told toks links jumps xs labels n) first ∙ ap (λ xs. name_told toks links jumps told_locals xs n) second ∙ sym is

-- ---- one token more

other_mark : (names : List (ℕ × List ℕ)) (n t : ℕ) (x : List ℕ) → (n ≡ t → ⊥) → mark_at (names ++ (n, x) ∷ []) t ≡ mark_at names t
other_mark [] n t x other = ap (λ v. cond v (Some x) None) (ne_eqb n t other)
other_mark (m ∷ names) n t x other = ap (cond (nat_eq m.0 t) (Some m.1)) (other_mark names n t x other)

new_mark : (names : List (ℕ × List ℕ)) (n : ℕ) (x : List ℕ) → All (λ m. m.0 < n) names → mark_at (names ++ (n, x) ∷ []) n ≡ Some x
new_mark [] n x before = ap (λ v. cond v (Some x) None) (eq-eqb n n refl)
new_mark (m ∷ names) n x before =
    let here : m.0 < n = before 0 m (omega arith) in
    ap (λ v. cond v (Some m.1) (mark_at (names ++ (n, x) ∷ []) n)) (ne_eqb m.0 n (λ same. omega (arith, here, same)))
    ∙ new_mark names n x (λ j d inside. before (suc j) d (omega (arith, inside)))

still_before : (names : List (ℕ × List ℕ)) (n : ℕ) → All (λ m. m.0 < n) names → All (λ m. m.0 < n + 1) names
still_before names n before j d inside = let here = before j d inside in omega (arith, here)

one_before : (names : List (ℕ × List ℕ)) (n : ℕ) (x : List ℕ) → All (λ m. m.0 < n) names → All (λ m. m.0 < n + 1) (names ++ (n, x) ∷ [])
one_before [] n x before zero d inside = omega arith
one_before [] n x before (suc j) d inside = absurd (omega (arith, inside))
one_before (m ∷ names) n x before zero d inside = let here = before 0 m (omega arith) in omega (arith, here)
one_before (m ∷ names) n x before (suc j) d inside = one_before names n x (λ i e there. before (suc i) e (omega (arith, there))) j d (omega (arith, inside))

pub none_told : (told : ℕ → Option (List ℕ)) → AreToldTo told 0 []
none_told told = record { at = λ token inside. absurd (omega (arith, inside)); before = λ j d inside. absurd (omega (arith, inside)) }

pub told_none : (told : ℕ → Option (List ℕ)) (n : ℕ) (names : List (ℕ × List ℕ)) → AreToldTo told n names → told n ≡ None → AreToldTo told (n + 1) names
told_none told n names t none = record { at = λ token inside. by token inside (cases_lt token n); before = still_before names n t.before }
  where
    by : (token : ℕ) → token < n + 1 → (token < n) ⊎ (n ≤ token) → mark_at names token ≡ told token
    by token inside (inl earlier) = t.at token earlier
    by token inside (inr later) =
        let same : n ≡ token = omega (arith, inside, later) in
        mark_absent names token (λ j d there is. let before = t.before j d there in omega (arith, before, is, same)) ∙ sym (ap told (sym same) ∙ none)

pub told_more : (told : ℕ → Option (List ℕ)) (n : ℕ) (names : List (ℕ × List ℕ)) (name : List ℕ) → AreToldTo told n names → told n ≡ Some name → AreToldTo told (n + 1) (names ++ (n, name) ∷ [])
told_more told n names name t some = record { at = λ token inside. by token inside (cases_lt token n); before = one_before names n name t.before }
  where
    by : (token : ℕ) → token < n + 1 → (token < n) ⊎ (n ≤ token) → mark_at (names ++ (n, name) ∷ []) token ≡ told token
    by token inside (inl earlier) = other_mark names n token name (λ same. omega (arith, earlier, same)) ∙ t.at token earlier
    by token inside (inr later) =
        let same : n ≡ token = omega (arith, inside, later) in
        subst (λ k. mark_at (names ++ (n, name) ∷ []) k ≡ told k) same (new_mark names n name t.before ∙ sym some)

-- The role of each token, read off the roles of the names of labels.
use Rattle.std.proofs.Common.{◌≡◌, ◌≢◌, ℕ, ◌+◌, ◌<◌, ◌≤◌, false, cond, nat_eq, List, [], ◌∷◌, ◌++◌, Option, Some, None, All, AllPairs, length, get_or, suc, add-zero, zero-add, refl, sym, ap, ◌∙◌, inl, inr, arith}
use Rattle.std.proofs.lemmas.Bool.{cases_Bool, cond-true, cond-false, eqb-true, ne_eqb}
use Rattle.std.proofs.lemmas.List.{get_or-map}
use Rattle.std.proofs.lemmas.List.Elements.{All-nil, All-cons, All-head, All-tail, All-append, All-weaker}
use Rattle.std.specs.List.{filter_map, position_from}
use Rattle.std.specs.Option.{option_map, option_map_or, option_to_list}
use Rattle.luf_scope.specs.Local.{Spelling, functions_of}
use Rattle.luf_scope.specs.Jump.{LabelAt, GotoAt, label_by, goto_by, labels_of, gotos_of, target, jump_to, goto_role, label_role}
use Rattle.luf_scope.specs.Marks.{mark_at}
use Rattle.luf_scope.specs.Order.{place, behind, is_loop}
use Rattle.luf_scope.specs.declared.jump.JumpRole.{JumpRole}
use Rattle.luf_scope.specs.declared.jump.JumpRole.TheVariants as jump
use Rattle.luf_scope.specs.declared.occurrence.Occurrence.{Occurrence}
use Rattle.luf_scope.specs.declared.occurrence.Occurrence.TheVariants.{Label, Goto}
use Rattle.luf_scope.proofs.Lying.{pairs_head, pairs_tail}
use Rattle.luf_scope.proofs.Marked.{mark_absent}
use Rattle.luf_scope.proofs.Ordered.{all_given}
use Rattle.luf_goto.specs.Jumps.{AreJumps}
use Rattle.luf_goto.specs.inner.Marking.{IsMarkable, going_to, mark_of, label_after, goto_after, marks_from}
use Rattle.luf_goto.specs.inner.Sites.{IsInOrder}
use Rattle.luf_goto.proofs.Chosen.{Choice}
use Rattle.luf_goto.proofs.Lifted.{no_goto, targets_in}
use Rattle.luf_goto.proofs.Marks.{going_at}

abbrev Mark : Type 0
Mark = ℕ × JumpRole

pub markable : (o : Occurrence) → (is_loop o ≡ false → place o < behind o) → IsMarkable o
markable (Goto token name) stands = omega (arith, stands refl)
markable _ stands = tt

mark_from_place : (ts : List (Option ℕ)) (n a : ℕ) (o : Occurrence) (m : Mark) → IsMarkable o → mark_of ts n a o ≡ Some m → place o ≤ m.0
mark_from_place ts n a (Label name from to at_end) m stands is = let e : m.0 ≡ name = sym (ap (λ x. option_map_or (λ (y : Mark). y.0) x 0) is) in omega arith
mark_from_place ts n a (Goto token name) m stands is = let e = going_at name (get_or ts a None) m is in omega arith
mark_from_place ts n a _ m stands is = absurd cc

all_of_one : (P : Mark → Type 0) (o : Option Mark) → ((m : Mark) → o ≡ Some m → P m) → All P (option_to_list o)
all_of_one P None each = All-nil P
all_of_one P (Some m) each = All-cons P m [] (each m refl) (All-nil P)

marks_above : (ts : List (Option ℕ)) (n a b : ℕ) (os : List Occurrence) → All (λ v. b ≤ place v) os → All IsMarkable os → All (λ m. b ≤ m.0) (marks_from ts n a os)
marks_above ts n a b [] above stand = All-nil (λ m. b ≤ m.0)
marks_above ts n a b (o ∷ os) above stand =
    All-append (λ m. b ≤ m.0) (option_to_list (mark_of ts n a o)) (marks_from ts (label_after n o) (goto_after a o) os)
    (all_of_one (λ m. b ≤ m.0) (mark_of ts n a o) (λ m is. let p = mark_from_place ts n a o m (All-head IsMarkable o os stand) is in let q = All-head (λ v. b ≤ place v) o os above in omega arith))
    (marks_above ts (label_after n o) (goto_after a o) b os (All-tail (λ v. b ≤ place v) o os above) (All-tail IsMarkable o os stand))

position_none : (token n : ℕ) (labels : List LabelAt) → All (λ l. l.token ≢ token) labels → position_from (λ l. nat_eq l.token token) n labels ≡ None
position_none token n [] apart = refl
position_none token n (l ∷ labels) apart =
    cond-false (nat_eq l.token token) _ _ (ne_eqb l.token token (All-head (λ x. x.token ≢ token) l labels apart)) ∙ position_none token (n + 1) labels (All-tail (λ x. x.token ≢ token) l labels apart)

-- a goto, before what follows it
at_goto : (name token : ℕ) (c : Choice) (rest : List Mark) (P : Option ℕ) (Q : Option JumpRole) → mark_at rest token ≡ label_role P Q → (name ≡ token → (P ≡ None) × (mark_at rest token ≡ None))
    → mark_at (option_to_list (going_to name (option_map (λ (t : ℕ × LabelAt). t.0) c)) ++ rest) token ≡ label_role P (cond (nat_eq name token) (jump_to c) Q)
at_goto name token None rest P Q later apart = elim (cases_Bool (nat_eq name token)) [
  | inl is ↦ let e = apart (eqb-true name token is) in e.1 ∙ sym (ap (λ p. label_role p (cond (nat_eq name token) None Q)) e.0 ∙ cond-true (nat_eq name token) None Q is)
  | inr no_way ↦ later ∙ sym (ap (label_role P) (cond-false (nat_eq name token) None Q no_way))
]
at_goto name token (Some t) rest P Q later apart = elim (cases_Bool (nat_eq name token)) [
  | inl is ↦ let e = apart (eqb-true name token is) in
      cond-true (nat_eq name token) (Some (jump.Goto t.0)) (mark_at rest token) is ∙ sym (ap (λ p. label_role p (cond (nat_eq name token) (Some (jump.Goto t.0)) Q)) e.0 ∙ cond-true (nat_eq name token) (Some (jump.Goto t.0)) Q is)
  | inr no_way ↦ cond-false (nat_eq name token) (Some (jump.Goto t.0)) (mark_at rest token) no_way ∙ later ∙ sym (ap (label_role P) (cond-false (nat_eq name token) (Some (jump.Goto t.0)) Q no_way))
]

at_label : (name token n : ℕ) (rest : List Mark) (P : Option ℕ) (Q : Option JumpRole) → mark_at rest token ≡ label_role P Q → mark_at ((name, jump.Label n) ∷ rest) token ≡ label_role (cond (nat_eq name token) (Some n) P) Q
at_label name token n rest P Q later = elim (cases_Bool (nat_eq name token)) [
  | inl is ↦ cond-true (nat_eq name token) (Some (jump.Label n)) (mark_at rest token) is ∙ sym (ap (λ p. label_role p Q) (cond-true (nat_eq name token) (Some n) P is))
  | inr no_way ↦ cond-false (nat_eq name token) (Some (jump.Label n)) (mark_at rest token) no_way ∙ later ∙ sym (ap (λ p. label_role p Q) (cond-false (nat_eq name token) (Some n) P no_way))
]

label_token : (spelled : Spelling) (all : List Occurrence) (o : Occurrence) (l : LabelAt) → label_by spelled (functions_of all) o ≡ Some l → l.token ≡ place o
label_token spelled all (Label name from to at_end) l is = sym (ap (λ x. option_map_or (λ (y : LabelAt). y.token) x 0) is)
label_token spelled all _ l is = absurd cc

module _ (spelled : Spelling) (all : List Occurrence) (L : List LabelAt) (ts : List (Option ℕ)) (token : ℕ) where
  later_labels : (b : ℕ) (os : List Occurrence) → token < b → All (λ v. b ≤ place v) os → All (λ l. l.token ≢ token) (filter_map (label_by spelled (functions_of all)) os)
  later_labels b os less above = all_given (λ v. b ≤ place v) (λ l. l.token ≢ token) (label_by spelled (functions_of all)) (λ o l up is e. let p = label_token spelled all o l is in omega arith) os above

  later_marks : (n a b : ℕ) (os : List Occurrence) → token < b → All (λ v. b ≤ place v) os → All IsMarkable os → mark_at (marks_from ts n a os) token ≡ None
  later_marks n a b os less above stand = mark_absent (marks_from ts n a os) token (All-weaker (λ m. b ≤ m.0) (λ m. m.0 ≢ token) (λ m up e. omega arith) (marks_from ts n a os) (marks_above ts n a b os above stand))

  pub role_is :
      (n a : ℕ) (os : List Occurrence) → AllPairs (λ u v. behind u ≤ place v) os → All IsMarkable os
      → ((i : ℕ) → i < length (filter_map (goto_by spelled (functions_of all)) os) → get_or ts (a + i) None ≡ option_map (λ (t : ℕ × LabelAt). t.0) (target L (get_or (filter_map (goto_by spelled (functions_of all)) os) i no_goto)))
      → mark_at (marks_from ts n a os) token ≡ label_role (position_from (λ l. nat_eq l.token token) n (filter_map (label_by spelled (functions_of all)) os)) (goto_role L (filter_map (goto_by spelled (functions_of all)) os) token)
  role_is n a [] pairs stand going = refl
  role_is n a (Label name from to at_end ∷ os) pairs stand going =
      at_label name token n (marks_from ts (n + 1) a os) _ _ (role_is (n + 1) a os (pairs_tail (λ u v. behind u ≤ place v) _ os pairs) (All-tail IsMarkable _ os stand) going)
  role_is n a (Goto start name ∷ os) pairs stand going =
      let above : All (λ v. name + 1 ≤ place v) os = pairs_head (λ u v. behind u ≤ place v) (Goto start name) os pairs in
      let stands : All IsMarkable os = All-tail IsMarkable (Goto start name) os stand in
      let g : GotoAt = get_or (filter_map (goto_by spelled (functions_of all)) (Goto start name ∷ os)) 0 no_goto in
      let first : get_or ts a None ≡ option_map (λ (t : ℕ × LabelAt). t.0) (target L g) = ap (λ k. get_or ts k None) (sym (add-zero a)) ∙ going 0 (omega arith) in
      ap (λ o. mark_at (option_to_list (going_to name o) ++ marks_from ts n (a + 1) os) token) first
      ∙ at_goto name token (target L g) (marks_from ts n (a + 1) os) _ _
      (role_is n (a + 1) os (pairs_tail (λ u v. behind u ≤ place v) (Goto start name) os pairs) stands (λ i h. ap (λ k. get_or ts k None) (let e : a + 1 + i ≡ a + suc i = omega arith in e) ∙ going (suc i) (omega arith)))
      (λ e. (position_none token n _ (later_labels (name + 1) os (omega arith) above), later_marks n (a + 1) (name + 1) os (omega arith) above stands))
  role_is n a (_ ∷ os) pairs stand going = role_is n a os (pairs_tail (λ u v. behind u ≤ place v) _ os pairs) (All-tail IsMarkable _ os stand) going

pub roles_are : (spelled : Spelling) (os : List Occurrence) → IsInOrder os → AreJumps spelled os (marks_from (targets_in (labels_of spelled os) (gotos_of spelled os)) 0 0 os)
roles_are spelled os lies = λ token.
    role_is spelled os (labels_of spelled os) (targets_in (labels_of spelled os) (gotos_of spelled os)) token 0 0 os
    (λ i j d below inside. (lies.order.pairs i j d below inside).later)
    (λ i d h. markable (get_or os i d) (lies.order.within i d h).own.some)
    (λ i h. ap (λ k. get_or (targets_in (labels_of spelled os) (gotos_of spelled os)) k None) (zero-add i) ∙ get_or-map (λ g. option_map (λ (t : ℕ × LabelAt). t.0) (target (labels_of spelled os) g)) (gotos_of spelled os) i no_goto None h)

-- The labels and gotos after a renaming; under least names each goto goes to the label that it went to.
use Rattle.std.proofs.Common.{◌≡◌, ℕ, ◌+◌, ◌<◌, ◌≤◌, ◌⊎◌, inl, inr, Bool, true, false, ◌&&◌, cond, Option, Some, None, List, [], ◌∷◌, All, is_some, slice_get, nat_le, nat_lt, nat_eq, length, refl, sym, ap, subst, ◌∙◌, ⊎_elim, bytes_eq, zero-add, arith}
use Rattle.std.specs.List.{position_from}
use Rattle.std.specs.Option.{option_eq}
use Rattle.std.proofs.lemmas.Option.{same_Some}
use Rattle.std.proofs.lemmas.Bool.{and_parts, and_from, both_ways, false_from_ne_true, eq-eqb, eqb-true, ne_eqb, cases_order, leb-true, ltb-true, le-leb, lt-ltb, cond-true, cond-false, true≢false}
use Rattle.luf_scope.specs.declared.occurrence.Occurrence.{Occurrence}
use Rattle.luf_scope.specs.declared.occurrence.Occurrence.TheVariants.{Label, Goto}
use Rattle.luf_scope.specs.Local.{Spelling, FunctionAt, functions_of}
use Rattle.luf_scope.specs.Jump.{LabelAt, GotoAt, label_by, goto_by, labels_of, gotos_of, is_seen, target, jump_to, goto_role, label_role, jump_role_of}
use Rattle.luf_scope.specs.Role.{is_variable, is_field}
use Rattle.luf_scope.specs.Order.{place, behind, declares, is_loop, is_label, block_from, block_to, Follows, AreOrdered}
use Rattle.luf_scope.proofs.Ordered.{pairs_given}
use Rattle.luf_scope.proofs.Places.{block_lies}
use Rattle.luf_scope.proofs.Blocks.{block_lies as blocks_lie}
use Rattle.luf_interf.specs.RenamingLaws.{said_in, LeastNamesKeepJumps}
use Rattle.luf_scope.specs.Nesting.{AreNestedBlocks}
use Rattle.luf_resolved.proofs.Paired.{Paired, PairedOption, nothing, more, neither, both, filtered, same_position}
use Rattle.luf_interf.specs.Interference.{IsLabel, LabelsInterfere, HoldsBlock}
use Rattle.luf_interf.specs.NewNames.{Naming, AreLeast, new_word}
use Rattle.luf_interf.specs.inner.Among.{Among, here, there}
use Rattle.luf_interf.proofs.Among.{all_among, among_at, given_by, beside_itself, pairs_at, paired_at, paired_back}
use Rattle.luf_interf.proofs.Last.{first_is, first_none}
use Rattle.luf_interf.proofs.Innermost.{innermost_seen, innermost_alone}
use Rattle.luf_interf.proofs.Tokens.{Has, one, placed, own_block}
use Rattle.luf_interf.proofs.NewLocals.{told}
use Rattle.luf_interf.proofs.Alike.{same_name, by_name}
use Rattle.luf_interf.proofs.Roles.{plain_there}

abbrev pub is_goto : Occurrence → Bool
is_goto (Goto token name) = true
is_goto _ = false

same_option : (o p : Option ℕ) → option_eq nat_eq o p ≡ true → o ≡ p
same_option None None is = refl
same_option None (Some y) is = absurd cc
same_option (Some x) None is = absurd cc
same_option (Some x) (Some y) is = ap Some (eqb-true x y is)

own_option : (o : Option ℕ) → option_eq nat_eq o o ≡ true
own_option None = refl
own_option (Some x) = eq-eqb x x refl

-- ---- what a label and a goto are read off

pub record IsLabelOf (u : Occurrence) (l : LabelAt) : Type 0 where
  pub is : is_label u ≡ true
  pub silent : declares u ≡ false
  pub no_loop : is_loop u ≡ false
  pub token : place u ≡ l.token
  pub behind : behind u ≡ l.token + 1
  pub from : block_from u ≡ l.from
  pub to : block_to u ≡ l.to
  pub variable : (t : ℕ) → is_variable t u ≡ false
  pub field : (t : ℕ) → is_field t u ≡ false

pub record IsGotoOf (u : Occurrence) (g : GotoAt) : Type 0 where
  pub is : is_goto u ≡ true
  pub no_label : is_label u ≡ false
  pub silent : declares u ≡ false
  pub no_loop : is_loop u ≡ false
  pub token : place u ≡ g.token
  pub behind : behind u ≡ g.label + 1
  pub variable : (t : ℕ) → is_variable t u ≡ false
  pub field : (t : ℕ) → is_field t u ≡ false

label_of : (spelled : Spelling) (fs : List FunctionAt) (u : Occurrence) (l : LabelAt) → label_by spelled fs u ≡ Some l → IsLabelOf u l
label_of spelled fs (Label name from to at_end) l is = subst (IsLabelOf (Label name from to at_end)) (same_Some _ _ is) (record { is = refl; silent = refl; no_loop = refl; token = refl; behind = refl; from = refl; to = refl; variable = λ t. refl; field = λ t. refl })
label_of spelled fs _ l is = absurd cc

goto_of : (spelled : Spelling) (fs : List FunctionAt) (u : Occurrence) (g : GotoAt) → goto_by spelled fs u ≡ Some g → IsGotoOf u g
goto_of spelled fs (Goto token name) g is = subst (IsGotoOf (Goto token name)) (same_Some _ _ is) (record { is = refl; no_label = refl; silent = refl; no_loop = refl; token = refl; behind = refl; variable = λ t. refl; field = λ t. refl })
goto_of spelled fs _ g is = absurd cc

-- ---- of one label and one goto under two spellings

pub record LabelRespelled (spelled told : Spelling) (l m : LabelAt) : Type 0 where
  pub token : m.token ≡ l.token
  pub name : m.name ≡ told l.token
  pub function : m.function ≡ l.function
  pub from : m.from ≡ l.from
  pub to : m.to ≡ l.to
  pub at_end : m.at_end ≡ l.at_end

pub record GotoRespelled (spelled told : Spelling) (g h : GotoAt) : Type 0 where
  pub token : h.token ≡ g.token
  pub label : h.label ≡ g.label
  pub name : h.name ≡ told g.label
  pub function : h.function ≡ g.function

label_respelled : (spelled newly : Spelling) (fs : List FunctionAt) (u : Occurrence) → PairedOption (LabelRespelled spelled newly) (label_by spelled fs u) (label_by newly fs u)
label_respelled spelled newly fs (Label name from to at_end) = both (record { token = refl; name = refl; function = refl; from = refl; to = refl; at_end = refl })
label_respelled spelled newly fs _ = neither

goto_respelled : (spelled newly : Spelling) (fs : List FunctionAt) (u : Occurrence) → PairedOption (GotoRespelled spelled newly) (goto_by spelled fs u) (goto_by newly fs u)
goto_respelled spelled newly fs (Goto token name) = both (record { token = refl; label = refl; name = refl; function = refl })
goto_respelled spelled newly fs _ = neither

pub labels_respelled : (spelled newly : Spelling) (os : List Occurrence) → Paired (LabelRespelled spelled newly) (labels_of spelled os) (labels_of newly os)
labels_respelled spelled newly os =
    filtered (label_by spelled (functions_of os)) (label_by newly (functions_of os)) (λ u v is. subst (λ z. PairedOption (LabelRespelled spelled newly) (label_by spelled (functions_of os) u) (label_by newly (functions_of os) z)) is (label_respelled spelled newly (functions_of os) u))
    (beside_itself (λ u v. u ≡ v) os (λ u m. refl))

pub gotos_respelled : (spelled newly : Spelling) (os : List Occurrence) → Paired (GotoRespelled spelled newly) (gotos_of spelled os) (gotos_of newly os)
gotos_respelled spelled newly os =
    filtered (goto_by spelled (functions_of os)) (goto_by newly (functions_of os)) (λ u v is. subst (λ z. PairedOption (GotoRespelled spelled newly) (goto_by spelled (functions_of os) u) (goto_by newly (functions_of os) z)) is (goto_respelled spelled newly (functions_of os) u))
    (beside_itself (λ u v. u ≡ v) os (λ u m. refl))

-- the first goto of that label's name
goto_role_at : (labels : List LabelAt) (gotos : List GotoAt) (g : GotoAt) → Among g gotos → ((h : GotoAt) → Among h gotos → h.label ≡ g.label → jump_to (target labels h) ≡ jump_to (target labels g)) → goto_role labels gotos g.label ≡ jump_to (target labels g)
goto_role_at labels [] g m same = elim m [ ]
goto_role_at labels (h ∷ gotos) h' here same = cond-true (nat_eq h.label h.label) (jump_to (target labels h)) (goto_role labels gotos h.label) (eq-eqb h.label h.label refl)
goto_role_at labels (h ∷ gotos) g (there m) same = by (nat_eq h.label g.label) refl (goto_role_at labels gotos g m (λ k n e. same k (there n) e))
  where
    by : (b : Bool) → nat_eq h.label g.label ≡ b → goto_role labels gotos g.label ≡ jump_to (target labels g) → cond b (jump_to (target labels h)) (goto_role labels gotos g.label) ≡ jump_to (target labels g)
    by true is rest = same h here (eqb-true h.label g.label is)
    by false is rest = rest

pub goto_role_none : (labels : List LabelAt) (gotos : List GotoAt) (t : ℕ) → ((g : GotoAt) → Among g gotos → g.label ≡ t → ⊥) → goto_role labels gotos t ≡ None
goto_role_none labels [] t none = refl
goto_role_none labels (g ∷ gotos) t none =
    cond-false (nat_eq g.label t) (jump_to (target labels g)) (goto_role labels gotos t) (ne_eqb g.label t (λ e. none g here e)) ∙ goto_role_none labels gotos t (λ h m e. none h (there m) e)

module _ (a e c : ℕ) (os : List Occurrence) (lies : AreOrdered a e c os) (spelled : Spelling) where
  pub label_from : (l : LabelAt) → Among l (labels_of spelled os) → (u : Occurrence) × Among u os × IsLabelOf u l
  label_from l m = let f = given_by (label_by spelled (functions_of os)) os l m in (f.0, f.1, label_of spelled (functions_of os) f.0 l f.2)

  pub goto_from : (g : GotoAt) → Among g (gotos_of spelled os) → (u : Occurrence) × Among u os × IsGotoOf u g
  goto_from g m = let f = given_by (goto_by spelled (functions_of os)) os g m in (f.0, f.1, goto_of spelled (functions_of os) f.0 g f.2)

  has_label : (l : LabelAt) (u : Occurrence) → IsLabelOf u l → Has l.token u
  has_label l u is = let token = is.token in let last = is.behind in (omega (arith, token), omega (arith, last))

  has_goto : (g : GotoAt) (u : Occurrence) → Among u os → IsGotoOf u g → Has g.label u
  has_goto g u m is = let token = is.token in let last = is.behind in let some = placed a e c os lies u m is.no_loop in (omega (arith, token, last, some), omega (arith, last))

  -- at the token of what is no label no label stands
  no_label_at : (t : ℕ) (u : Occurrence) → Among u os → Has t u → is_label u ≡ false → position_from (λ l. nat_eq l.token t) 0 (labels_of spelled os) ≡ None
  no_label_at t u m has none = first_none (λ l. nat_eq l.token t) 0 (labels_of spelled os) (λ n l found. ne_eqb l.token t (λ same.
      let f = label_from l (among_at (labels_of spelled os) n l found) in
      let there : Has t f.0 = subst (λ k. Has k f.0) same (has_label l f.0 f.2) in
      let is : f.0 ≡ u = one a e c os lies t f.0 u f.1 m there has in
      both_ways (is_label u) none (ap is_label (sym is) ∙ f.2.is)))

  no_goto_at : (labels : List LabelAt) (t : ℕ) (u : Occurrence) → Among u os → Has t u → is_goto u ≡ false → goto_role labels (gotos_of spelled os) t ≡ None
  no_goto_at labels t u m has none = goto_role_none labels (gotos_of spelled os) t (λ g among same.
      let f = goto_from g among in
      let there : Has t f.0 = subst (λ k. Has k f.0) same (has_goto g f.0 f.1 f.2) in
      let is : f.0 ≡ u = one a e c os lies t f.0 u f.1 m there has in
      both_ways (is_goto u) none (ap is_goto (sym is) ∙ f.2.is))

  pub no_jump_at : (t : ℕ) (u : Occurrence) → Among u os → Has t u → is_label u ≡ false → is_goto u ≡ false → jump_role_of spelled os t ≡ None
  no_jump_at t u m has no_label no_goto = λ i. label_role (no_label_at t u m has no_label i) (no_goto_at (labels_of spelled os) t u m has no_goto i)

  -- labels are numbered in the order of their tokens
  pub labels_rise : (n m : ℕ) (l k : LabelAt) → n < m → IsLabel spelled os n l → IsLabel spelled os m k → l.token < k.token
  labels_rise n m l k below at other = pairs_at (λ x y. x.token < y.token) (labels_of spelled os) n m l k
      (pairs_given Follows (λ x y. x.token < y.token) (label_by spelled (functions_of os))
      (λ u v x y follows one two. let later = follows.later in let first = (label_of spelled (functions_of os) u x one).behind in let second = (label_of spelled (functions_of os) v y two).token in omega (arith, later, first, second)) os lies.pairs) below at other

  label_there : (n : ℕ) (l : LabelAt) → IsLabel spelled os n l → position_from (λ k. nat_eq k.token l.token) 0 (labels_of spelled os) ≡ Some n
  label_there n l at =
      first_is (λ k. nat_eq k.token l.token) 0 (labels_of spelled os) n l at (eq-eqb l.token l.token refl)
      (λ m k below found. let order = labels_rise m n k l below found at in ne_eqb k.token l.token (λ same. omega (arith, order, same)))
      ∙ ap Some (zero-add n)

  one_goto : (g h : GotoAt) → Among g (gotos_of spelled os) → Among h (gotos_of spelled os) → h.label ≡ g.label → h ≡ g
  one_goto g h m n same =
      let f = given_by (goto_by spelled (functions_of os)) os g m in
      let k = given_by (goto_by spelled (functions_of os)) os h n in
      let first = goto_of spelled (functions_of os) f.0 g f.2 in
      let second = goto_of spelled (functions_of os) k.0 h k.2 in
      let is : k.0 ≡ f.0 = one a e c os lies g.label k.0 f.0 k.1 f.1 (subst (λ t. Has t k.0) same (has_goto h k.0 k.1 second)) (has_goto g f.0 f.1 first) in
      same_Some h g (sym k.2 ∙ ap (goto_by spelled (functions_of os)) is ∙ f.2)

  module _ (nested : All (λ u. All (AreNestedBlocks u) os) os) where
    -- of two labels whose blocks hold one place, the block of one holds the other's
    pub nest : (k l : LabelAt) (p : ℕ) → Among k (labels_of spelled os) → Among l (labels_of spelled os) → (k.from ≤ p) × (p < k.to) → (l.from ≤ p) × (p < l.to) → HoldsBlock k l ⊎ HoldsBlock l k
    nest k l p m n outward inward =
        let f = label_from k m in
        let h = label_from l n in
        let kf = f.2.from in let kt = f.2.to in let lf = h.2.from in let lt = h.2.to in
        let outer = all_among (AreNestedBlocks h.0) os f.0 (all_among (λ u. All (AreNestedBlocks u) os) os h.0 nested h.1) f.1 in
        let inner_one = all_among (AreNestedBlocks f.0) os h.0 (all_among (λ u. All (AreNestedBlocks u) os) os f.0 nested f.1) h.1 in
        ⊎_elim (λ same. ⊎_elim (λ (e : k.to ≡ l.to). inl (omega (arith, same), omega (arith, e)))
        (⊎_elim (λ below. inr (omega (arith, same), omega (arith, below))) (λ above. inl (omega (arith, same), omega (arith, above)))) (cases_order k.to l.to))
        (⊎_elim
        (λ below. ⊎_elim (λ (within : block_to h.0 ≤ block_to f.0). inl (omega (arith, below), omega (arith, within, kt, lt))) (λ (behind : block_to f.0 ≤ block_from h.0). absurd (omega (arith, behind, kt, lf, outward, inward)))
        (outer.apart h.2.is f.2.is (omega (arith, below, kf, lf))))
        (λ above. ⊎_elim (λ (within : block_to f.0 ≤ block_to h.0). inr (omega (arith, above), omega (arith, within, kt, lt))) (λ (behind : block_to h.0 ≤ block_from f.0). absurd (omega (arith, behind, kf, lt, outward, inward)))
        (inner_one.apart f.2.is h.2.is (omega (arith, above, kf, lf)))))
        (cases_order k.from l.from)

  module _ (naming label_naming : Naming) where
    -- a label and a goto get the new name of the label
    told_label : (n : ℕ) (l : LabelAt) → IsLabel spelled os n l → told a e c os lies spelled naming label_naming l.token ≡ label_naming n
    told_label n l at =
        let f = label_from l (among_at (labels_of spelled os) n l at) in
        let plain = plain_there a e c os lies spelled l.token f.0 f.1 (has_label l f.0 f.2) (λ declaring _. both_ways (declares f.0) f.2.silent declaring) (f.2.variable l.token) (f.2.field l.token) in
        λ i. new_word spelled os naming label_naming (plain i) (label_role (label_there n l at i) (goto_role (labels_of spelled os) (gotos_of spelled os) l.token)) (spelled l.token)

    told_goto : (g : GotoAt) → Among g (gotos_of spelled os) → (x : ℕ × LabelAt) → target (labels_of spelled os) g ≡ Some x → told a e c os lies spelled naming label_naming g.label ≡ label_naming x.0
    told_goto g m x is =
        let f = goto_from g m in
        let has = has_goto g f.0 f.1 f.2 in
        let plain = plain_there a e c os lies spelled g.label f.0 f.1 has (λ declaring _. both_ways (declares f.0) f.2.silent declaring) (f.2.variable g.label) (f.2.field g.label) in
        let at : goto_role (labels_of spelled os) (gotos_of spelled os) g.label ≡ jump_to (Some x) =
        goto_role_at (labels_of spelled os) (gotos_of spelled os) g m (λ h n same. ap (λ k. jump_to (target (labels_of spelled os) k)) (one_goto g h m n same)) ∙ ap jump_to is in
        λ i. new_word spelled os naming label_naming (plain i) (label_role (no_label_at g.label f.0 f.1 has f.2.no_label i) (at i)) (spelled g.label)

    module _ (nested : All (λ u. All (AreNestedBlocks u) os) os) (least : AreLeast spelled os naming label_naming) where
      held : Option ℕ → ℕ → LabelAt → Bool
      held function p l = option_eq nat_eq l.function function && nat_le l.from p && nat_lt p l.to

      interfere : (k l : LabelAt) (function : Option ℕ) (p : ℕ) → Among k (labels_of spelled os) → Among l (labels_of spelled os) → held function p k ≡ true → held function p l ≡ true → LabelsInterfere k l
      unfolding held
      interfere k l function p m n first second =
          let a1 = and_parts (option_eq nat_eq k.function function && nat_le k.from p) (nat_lt p k.to) first in
          let a2 = and_parts (option_eq nat_eq k.function function) (nat_le k.from p) a1.0 in
          let b1 = and_parts (option_eq nat_eq l.function function && nat_le l.from p) (nat_lt p l.to) second in
          let b2 = and_parts (option_eq nat_eq l.function function) (nat_le l.from p) b1.0 in
          record {
            function = same_option k.function function a2.0 ∙ sym (same_option l.function function b2.0);
            blocks = nest nested k l p m n (leb-true k.from p a2.1, ltb-true p k.to a1.1) (leb-true l.from p b2.1, ltb-true p l.to b1.1);
          }

      -- and so have other names
      apart : (m n : ℕ) (k l : LabelAt) (function : Option ℕ) (p : ℕ) → IsLabel spelled os m k → IsLabel spelled os n l → (m ≡ n → ⊥) → held function p k ≡ true → held function p l ≡ true → label_naming m ≡ label_naming n → ⊥
      apart m n k l function p other at differs first second same =
          let mk = among_at (labels_of spelled os) m k other in
          let ml = among_at (labels_of spelled os) n l at in
          ⊎_elim differs (⊎_elim
          (λ below. (least.labels n l at).free.no_earlier m k below other (interfere k l function p mk ml first second) same)
          (λ above. (least.labels m k other).free.no_earlier n l above at (interfere l k function p ml mk second first) (sym same)))
          (cases_order m n)

      abbrev new_spelled : Spelling
      new_spelled = told a e c os lies spelled naming label_naming

      held_alike : (l k : LabelAt) (g h : GotoAt) → LabelRespelled spelled new_spelled l k → GotoRespelled spelled new_spelled g h → held h.function h.token k ≡ held g.function g.token l
      unfolding held
      held_alike l k g h r q = λ i. option_eq nat_eq (r.function i) (q.function i) && nat_le (r.from i) (q.token i) && nat_lt (q.token i) (r.to i)

      -- a goto goes to the label that it went to
      pub target_at : (g h : GotoAt) → GotoRespelled spelled new_spelled g h → Among g (gotos_of spelled os) → (x : ℕ × LabelAt) → target (labels_of spelled os) g ≡ Some x → (k : LabelAt) × (target (labels_of new_spelled os) h ≡ Some (x.0, k)) × LabelRespelled spelled new_spelled x.1 k
      unfolding held
      target_at g h q m x is =
          let found = innermost_seen (is_seen g.function g.token g.name) (labels_of spelled os) x.0 x.1 is in
          let new = paired_at (labels_respelled spelled new_spelled os) x.0 x.1 found.0 in
          let parts = and_parts (held g.function g.token x.1) (bytes_eq x.1.name g.name) found.1 in
          let goto_name : h.name ≡ label_naming x.0 = q.name ∙ told_goto g m x is in
          let label_name : new.0.name ≡ label_naming x.0 = new.2.name ∙ told_label x.0 x.1 found.0 in
          let alone = innermost_alone (is_seen h.function h.token h.name) 0 (labels_of new_spelled os) x.0 new.0 new.1
          (and_from (held h.function h.token new.0) (bytes_eq new.0.name h.name) (held_alike x.1 new.0 g h new.2 q ∙ parts.0) (by_name new.0.name h.name (label_name ∙ sym goto_name)))
          (λ n k at differs. false_from_ne_true (is_seen h.function h.token h.name k) (λ seen.
          let old = paired_back (labels_respelled spelled new_spelled os) n k at in
          let its = and_parts (held h.function h.token k) (bytes_eq k.name h.name) seen in
          apart n x.0 old.0 x.1 g.function g.token old.1 found.0 differs (sym (held_alike old.0 k g h old.2 q) ∙ its.0) parts.0
          (sym (told_label n old.0 old.1) ∙ sym old.2.name ∙ same_name k.name h.name its.1 ∙ goto_name))) in
          (new.0, alone ∙ ap (λ n. Some (n, new.0)) (zero-add x.0), new.2)

      -- at a label no earlier one of its new name is seen
      pub none_twice : (n m : ℕ) (l k new_l new_k : LabelAt) → IsLabel spelled os n l → IsLabel spelled os m k → LabelRespelled spelled new_spelled l new_l → LabelRespelled spelled new_spelled k new_k
          → (nat_lt new_k.token new_l.token && is_seen new_l.function new_l.token new_l.name new_k) ≡ true → ⊥
      unfolding held
      none_twice n m l k new_l new_k at other r q is =
          let parts = and_parts (nat_lt new_k.token new_l.token) (is_seen new_l.function new_l.token new_l.name new_k) is in
          let its = and_parts (held new_l.function new_l.token new_k) (bytes_eq new_k.name new_l.name) parts.1 in
          let earlier : new_k.token < new_l.token = ltb-true new_k.token new_l.token parts.0 in
          let kt = q.token in let lt = r.token in
          let f = label_from l (among_at (labels_of spelled os) n l at) in
          let block = own_block a e c os lies f.0 f.1 f.2.is in
          let begun = block.begun in let ends = block.ends in
          let from = f.2.from in let to = f.2.to in let token = f.2.token in
          let mine : held l.function l.token l ≡ true =
          and_from (option_eq nat_eq l.function l.function && nat_le l.from l.token) (nat_lt l.token l.to)
          (and_from (option_eq nat_eq l.function l.function) (nat_le l.from l.token) (own_option l.function) (le-leb l.from l.token (omega (arith, begun, from, token))))
          (lt-ltb l.token l.to (omega (arith, ends, to, token))) in
          let outer : held new_l.function new_l.token new_k ≡ held l.function l.token k = λ i. option_eq nat_eq (q.function i) (r.function i) && nat_le (q.from i) (r.token i) && nat_lt (r.token i) (q.to i) in
          apart m n k l l.function l.token other at
          (λ e. let one_label : k ≡ l = same_Some k l (sym other ∙ ap (slice_get (labels_of spelled os)) e ∙ at) in let same = ap (λ (x : LabelAt). x.token) one_label in omega (arith, earlier, kt, lt, same))
          (sym outer ∙ its.0) mine (sym (told_label m k other) ∙ sym q.name ∙ same_name new_k.name new_l.name its.1 ∙ r.name ∙ told_label n l at)

      gotos_alike : (t : ℕ) {gs hs : List GotoAt} → Paired (GotoRespelled spelled new_spelled) gs hs → ((g h : GotoAt) → GotoRespelled spelled new_spelled g h → Among g gs → jump_to (target (labels_of new_spelled os) h) ≡ jump_to (target (labels_of spelled os) g))
          → goto_role (labels_of new_spelled os) hs t ≡ goto_role (labels_of spelled os) gs t
      gotos_alike t nothing each = refl
      gotos_alike t (more {x} {y} r rest) each = λ i. cond (nat_eq (r.label i) t) (each x y r here i) (gotos_alike t rest (λ g h q m. each g h q (there m)) i)

      pub jump_role_alike : ((g : GotoAt) → Among g (gotos_of spelled os) → target (labels_of spelled os) g ≡ None → ⊥) → (t : ℕ) → jump_role_of new_spelled os t ≡ jump_role_of spelled os t
      jump_role_alike has_target t =
          let position : position_from (λ l. nat_eq l.token t) 0 (labels_of new_spelled os) ≡ position_from (λ l. nat_eq l.token t) 0 (labels_of spelled os) =
          same_position (λ l. nat_eq l.token t) (λ l. nat_eq l.token t) (λ l k r. λ i. nat_eq (r.token i) t) (labels_respelled spelled new_spelled os) 0 in
          λ i. label_role (position i) (gotos_alike t (gotos_respelled spelled new_spelled os) (λ g h q m. by g h q m (target (labels_of spelled os) g) refl) i)
        where
          by : (g h : GotoAt) → GotoRespelled spelled new_spelled g h → Among g (gotos_of spelled os) → (o : Option (ℕ × LabelAt)) → target (labels_of spelled os) g ≡ o → jump_to (target (labels_of new_spelled os) h) ≡ jump_to (target (labels_of spelled os) g)
          by g h q m None is = absurd (has_target g m is)
          by g h q m (Some x) is = ap jump_to (target_at g h q m x is).1 ∙ sym (ap jump_to is)

no_none : {X : Type 0} (o : Option X) → is_some o ≡ true → o ≡ None → ⊥
no_none o is none = true≢false (sym is ∙ ap is_some none)

pub least_names_keep_jumps : LeastNamesKeepJumps
least_names_keep_jumps toks chunk spelled naming label_naming token derived least have =
    jump_role_alike 0 (length toks) (length toks) (said_in chunk) (block_lies derived) spelled naming label_naming (blocks_lie derived).pairs least
    (λ g m none. no_none (target (labels_of spelled (said_in chunk)) g) (all_among (λ k. is_some (target (labels_of spelled (said_in chunk)) k) ≡ true) (gotos_of spelled (said_in chunk)) g have m) none) token

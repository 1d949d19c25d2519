-- The faults of labels, gotos and breaks, as the code finds them, are those of the definitions.
use Rattle.std.proofs.Common.{◌≡◌, ℕ, ◌+◌, ◌-◌, ◌*◌, ◌^◌, ◌<◌, ◌≤◌, ◌⊎◌, Bool, true, false, not, cond, ◌&&◌, ◌||◌, nat_eq, nat_le, nat_lt, List, [], ◌∷◌, Option, Some, None, is_none, All, AllPairs, length, get_or, map, zero-add, refl, sym, ap, ◌∙◌, subst, inl, inr, ⊎_elim, arith}
use Rattle.std.proofs.lemmas.Bool.{cases_Bool, cases_order, or_cases, or_parts, and_parts, and_from, and_left, and_right, cond-true, cond-false, le-leb, leb-true, leb-false, lt-leb, lt-ltb, ltb-true, ltb-false, le-ltb}
use Rattle.std.proofs.lemmas.List.{length-map, get_or-map, get_or_default}
use Rattle.std.specs.List.{filter_map, cons_option, list_any}
use Rattle.std.specs.Option.{option_map, option_map_or, option_eq}
use Rattle.luf_scope.specs.Local.{Spelling, LocalVariable, is_active, declared_by, locals_of, functions_of, function_of}
use Rattle.luf_scope.specs.Jump.{LabelAt, GotoAt, is_seen, target, labels_of, gotos_of}
use Rattle.luf_scope.specs.Fault.{enters, loops_round, break_outside, label_twice, without_label, into_scope, jump_faults, first_fault}
use Rattle.luf_scope.specs.Order.{place, to_of, Within}
use Rattle.luf_scope.specs.declared.binder.BinderKind.TheVariants as kind
use Rattle.luf_scope.specs.declared.occurrence.Occurrence.{Occurrence}
use Rattle.luf_scope.specs.declared.occurrence.Occurrence.TheVariants.{Local, LocalFunction, Parameter, ImplicitSelf, LoopVariable, Loop, Break}
use Rattle.luf_scope.proofs.Ordered.{LocalsNest, locals_nest, declared_is, all_given, pairs_given}
use Rattle.luf_goto.specs.declared.holders.Extent.{Extent}
use Rattle.luf_goto.specs.declared.holders.Spot.{Spot}
use Rattle.luf_goto.specs.declared.sites.LabelRow.{LabelRow}
use Rattle.luf_goto.specs.declared.sites.GotoRow.{GotoRow}
use Rattle.luf_goto.specs.inner.Holders.{holds, spot_at}
use Rattle.luf_goto.specs.inner.Faults.{first_bad, first_token}
use Rattle.luf_goto.specs.inner.Firsts.{first_where, is_held}
use Rattle.luf_goto.specs.inner.Innermost.{key_of, IsInnermost, AreInnermost}
use Rattle.luf_goto.specs.inner.Leaps.{first_failing, has_none, is_apart, enters_scope}
use Rattle.luf_goto.specs.inner.Rows.{seen_extent, name_spot, scope_extent, scope_spot}
use Rattle.luf_goto.specs.inner.Sites.{IsInOrder, home_of, loop_extent, break_spot}
use Rattle.luf_goto.proofs.Agree.{any_through, any_agree, any_none, any_some, given_agree}
use Rattle.luf_goto.proofs.Classes.{names_of, row_of, goto_row_of, seen_before, same_function}
use Rattle.luf_goto.proofs.Lifted.{Stands, more, no_label, label_there, labels_rise, gotos_rise}
use Rattle.luf_goto.proofs.Chosen.{Choice, IsChosen, innermost_chosen}
use Rattle.luf_goto.proofs.Places.{places_rise}
use Rattle.luf_goto.proofs.Told.{first_bad_is}
use Rattle.luf_goto.proofs.Lists.{map_through}

-- the first spot, of what gives spots
first_given : {X : Type 0} (t : Spot → Bool) (f : X → Spot) (xs : List X) → first_where t (map f xs) ≡ first_token (filter_map (λ x. cond (t (f x)) (Some (f x).place) None) xs)
first_given t f [] = refl
first_given t f (x ∷ xs) = elim (cases_Bool (t (f x))) [
  | inl is ↦ cond-true (t (f x)) _ _ is ∙ sym (ap (λ o. first_token (cons_option o (filter_map (λ x. cond (t (f x)) (Some (f x).place) None) xs))) (cond-true (t (f x)) (Some (f x).place) None is))
  | inr no_way ↦ cond-false (t (f x)) _ _ no_way ∙ first_given t f xs ∙ sym (ap (λ o. first_token (cons_option o (filter_map (λ x. cond (t (f x)) (Some (f x).place) None) xs))) (cond-false (t (f x)) (Some (f x).place) None no_way))
]

-- ---- labels told twice

module _ (L : List LabelAt) (G : List GotoAt) (stand : All Stands L) where
  earlier_seen : LabelAt → Bool
  earlier_seen l = list_any (λ u. nat_lt u.token l.token && is_seen l.function l.token l.name u) L

  one_twice : (i : ℕ) (d : LabelAt) → i < length L → is_held (map seen_extent (map (row_of (names_of L G)) L)) true (name_spot (row_of (names_of L G) (get_or L i d))) ≡ list_any (λ u. nat_lt u.token (get_or L i d).token && is_seen (get_or L i d).function (get_or L i d).token (get_or L i d).name u) L
  one_twice i d inside =
      any_through (holds (name_spot (row_of (names_of L G) (get_or L i d)))) seen_extent (map (row_of (names_of L G)) L)
      ∙ any_through (λ r. holds (name_spot (row_of (names_of L G) (get_or L i d))) (seen_extent r)) (row_of (names_of L G)) L
      ∙ any_agree (λ u. holds (name_spot (row_of (names_of L G) (get_or L i d))) (seen_extent (row_of (names_of L G) u))) (λ u. nat_lt u.token (get_or L i d).token && is_seen (get_or L i d).function (get_or L i d).token (get_or L i d).name u) L
      (λ j e h. seen_before (names_of L G) (get_or L j e) (get_or L i d) (label_there L G j e h) (label_there L G i d inside) (stand j e h).begun (stand j e h).few)

  pub twice_is : first_where (is_held (map seen_extent (map (row_of (names_of L G)) L)) true) (map name_spot (map (row_of (names_of L G)) L)) ≡ first_token (filter_map (λ l. cond (list_any (λ u. nat_lt u.token l.token && is_seen l.function l.token l.name u) L) (Some l.token) None) L)
  twice_is =
      ap (first_where (is_held (map seen_extent (map (row_of (names_of L G)) L)) true)) (map_through (row_of (names_of L G)) name_spot (λ l. name_spot (row_of (names_of L G) l)) (λ l. refl) L)
      ∙ first_given (is_held (map seen_extent (map (row_of (names_of L G)) L)) true) (λ l. name_spot (row_of (names_of L G) l)) L
      ∙ ap first_token (given_agree (λ l. cond (is_held (map seen_extent (map (row_of (names_of L G)) L)) true (name_spot (row_of (names_of L G) l))) (Some l.token) None) (λ l. cond (list_any (λ u. nat_lt u.token l.token && is_seen l.function l.token l.name u) L) (Some l.token) None) L
      (λ i d h. ap (λ b. cond b (Some (get_or L i d).token) None) (one_twice i d h)))

-- ---- breaks

turned : (f p q : Bool) → (f && (p && q)) ≡ ((p && q) && f)
turned true true true = refl
turned true true false = refl
turned true false q = refl
turned false true true = refl
turned false true false = refl
turned false false q = refl

module _ (spelled : Spelling) (all : List Occurrence) where
  loop_holds : (token : ℕ) (os : List Occurrence) → list_any (holds (record { class = home_of all token; place = token })) (filter_map (loop_extent all) os) ≡ list_any (loops_round spelled all token) os
  loop_holds token [] = refl
  loop_holds token (Loop from to ∷ os) =
      ap (λ b. b || list_any (holds (record { class = home_of all token; place = token })) (filter_map (loop_extent all) os))
      (ap (λ f. f && (nat_le from token && nat_lt token to)) (same_function (function_of (functions_of all) from) (function_of (functions_of all) token))
      ∙ turned (option_eq nat_eq (function_of (functions_of all) from) (function_of (functions_of all) token)) (nat_le from token) (nat_lt token to))
      ∙ ap (λ r. loops_round spelled all token (Loop from to) || r) (loop_holds token os)
  loop_holds token (_ ∷ os) = loop_holds token os

  pub outside_is : (os : List Occurrence) → first_where (is_held (filter_map (loop_extent all) all) false) (filter_map (break_spot all) os) ≡ first_token (filter_map (break_outside spelled all) os)
  outside_is [] = refl
  outside_is (Break token ∷ os) =
      let s : Spot = record { class = home_of all token; place = token } in
      let is : is_held (filter_map (loop_extent all) all) false s ≡ not (list_any (loops_round spelled all token) all) = ap not (loop_holds token all) in
      ap (λ b. cond b (Some token) (first_where (is_held (filter_map (loop_extent all) all) false) (filter_map (break_spot all) os))) is
      ∙ ap (λ o. cond (not (list_any (loops_round spelled all token) all)) (Some token) o) (outside_is os)
      ∙ first_of_cond (not (list_any (loops_round spelled all token) all)) token (filter_map (break_outside spelled all) os)
    where
      first_of_cond : (b : Bool) (token : ℕ) (rest : List ℕ) → cond b (Some token) (first_token rest) ≡ first_token (cons_option (cond b (Some token) None) rest)
      first_of_cond true token rest = refl
      first_of_cond false token rest = refl
  outside_is (_ ∷ os) = outside_is os

-- ---- gotos

failing_given : (test : ℕ → Option ℕ → Bool) (row : GotoAt → GotoRow) (T : GotoAt → Option ℕ) → ((g : GotoAt) → (row g).token ≡ g.token) → (gotos : List GotoAt) → first_failing test (map row gotos) (map T gotos) ≡ first_token (filter_map (λ g. cond (test g.token (T g)) (Some g.token) None) gotos)
failing_given test row T same [] = refl
failing_given test row T same (g ∷ gotos) =
    ap (λ n. cond (test n (T g)) (Some n) (first_failing test (map row gotos) (map T gotos))) (same g)
    ∙ ap (λ o. cond (test g.token (T g)) (Some g.token) o) (failing_given test row T same gotos)
    ∙ first_of_cond (test g.token (T g)) g.token (filter_map (λ g. cond (test g.token (T g)) (Some g.token) None) gotos)
  where
    first_of_cond : (b : Bool) (token : ℕ) (rest : List ℕ) → cond b (Some token) (first_token rest) ≡ first_token (cons_option (cond b (Some token) None) rest)
    first_of_cond true token rest = refl
    first_of_cond false token rest = refl

none_kept : (c : Option (ℕ × LabelAt)) → is_none (option_map (λ (t : ℕ × LabelAt). t.0) c) ≡ is_none c
none_kept None = refl
none_kept (Some t) = refl

pub missing_is : (L : List LabelAt) (G : List GotoAt) (names : List (ℕ × List ℕ)) → first_failing has_none (map (goto_row_of names) G) (map (λ g. option_map (λ (t : ℕ × LabelAt). t.0) (target L g)) G) ≡ first_token (filter_map (λ g. cond (is_none (target L g)) (Some g.token) None) G)
missing_is L G names =
    failing_given has_none (goto_row_of names) (λ g. option_map (λ (t : ℕ × LabelAt). t.0) (target L g)) (λ g. refl) G
    ∙ ap first_token (given_agree (λ g. cond (has_none g.token (option_map (λ (t : ℕ × LabelAt). t.0) (target L g))) (Some g.token) None) (λ g. cond (is_none (target L g)) (Some g.token) None) G
    (λ i d h. ap (λ b. cond b (Some (get_or G i d).token) None) (none_kept (target L (get_or G i d)))))

-- ---- local variables that are active at a label and not at a goto

scope_of : LocalVariable → Extent
scope_of v = record { class = 0; from = v.from; to = v.to; rank = 4294967295 - v.to }

scopes_are : (spelled : Spelling) (os : List Occurrence) → filter_map scope_extent os ≡ map scope_of (filter_map (declared_by spelled) os)
unfolding scope_of
scopes_are spelled [] = refl
scopes_are spelled (Local name attribute from to ∷ os) = more _ _ _ (scopes_are spelled os)
scopes_are spelled (LocalFunction name from to ∷ os) = more _ _ _ (scopes_are spelled os)
scopes_are spelled (Parameter name from to ∷ os) = more _ _ _ (scopes_are spelled os)
scopes_are spelled (ImplicitSelf colon from to ∷ os) = more _ _ _ (scopes_are spelled os)
scopes_are spelled (LoopVariable name from to ∷ os) = more _ _ _ (scopes_are spelled os)
scopes_are spelled (_ ∷ os) = scopes_are spelled os

active_parts : (place : ℕ) (v : LocalVariable) → is_active place v ≡ true → (v.from ≤ place) × (place < v.to)
active_parts place v h = let p = and_parts (nat_le v.from place) (nat_lt place v.to) h in (leb-true v.from place p.0, ltb-true place v.to p.1)

active_from : (place : ℕ) (v : LocalVariable) → v.from ≤ place → place < v.to → is_active place v ≡ true
active_from place v low high = and_from (nat_le v.from place) (nat_lt place v.to) (le-leb v.from place low) (lt-ltb place v.to high)

-- of two that are active at a place, the one that begins last, or of the same beginning ends first, is in the other
inside_of : (u v : LocalVariable) (at : ℕ) → (LocalsNest u v ⊎ LocalsNest v u) ⊎ (u ≡ v) → u.to < 2 ^ 32 → v.to < 2 ^ 32 → u.from ≤ at → at < u.to → v.from ≤ at → at < v.to
    → u.from * 4294967296 + (4294967295 - u.to) ≤ v.from * 4294967296 + (4294967295 - v.to) → (u.from ≤ v.from) × (v.to ≤ u.to)
inside_of u v at nest few_u few_v low_u high_u low_v high_v key = elim (cases_order u.from v.from) [
  | inl same ↦ (omega arith, omega arith)
  | inr (inl less) ↦ (omega arith, ends less nest)
  | inr (inr more) ↦ absurd (omega arith)
]
  where
    ends : u.from < v.from → (LocalsNest u v ⊎ LocalsNest v u) ⊎ (u ≡ v) → v.to ≤ u.to
    ends less (inl (inl n)) = ⊎_elim (λ (k : v.to ≤ u.to). k) (λ (k : u.to ≤ v.from). absurd (omega arith)) (n.inside (omega arith))
    ends less (inl (inr n)) = let k = n.before less in absurd (omega arith)
    ends less (inr e) = omega (arith, ap (λ (x : LocalVariable). x.to) e)

module _ (V : List LocalVariable) (nest : AllPairs LocalsNest V) (few : All (λ v. v.to < 2 ^ 32) V) (at place : ℕ) where
  entered : LocalVariable → Bool
  entered v = is_active at v && not (is_active place v)

  two_of : (i j : ℕ) (d : LocalVariable) → i < length V → j < length V → (LocalsNest (get_or V i d) (get_or V j d) ⊎ LocalsNest (get_or V j d) (get_or V i d)) ⊎ (get_or V i d ≡ get_or V j d)
  two_of i j d a b = elim (cases_order i j) [
    | inl e ↦ inr (ap (λ n. get_or V n d) e)
    | inr (inl less) ↦ inl (inl (nest i j d less b))
    | inr (inr more) ↦ inl (inr (nest j i d more a))
  ]

  apart_is : (scope : Option Extent) → IsInnermost (map scope_of V) (record { class = 0; place = at }) scope → is_apart scope place ≡ list_any (λ v. is_active at v && not (is_active place v)) V
  unfolding scope_of
  apart_is None none = sym (any_none (λ v. is_active at v && not (is_active place v)) V
      (λ i d h. and_left (is_active at (get_or V i d)) (not (is_active place (get_or V i d)))
      (sym (ap (holds (record { class = 0; place = at })) (get_or-map scope_of V i d _ h)) ∙ none i (omega (arith, length-map V scope_of)))))
  apart_is (Some e) ((j, below, is), holding, most) =
      let inside : j < length V = omega (arith, length-map V scope_of) in
      let w : LocalVariable = get_or V j no_local in
      let same : e ≡ scope_of w = sym is ∙ get_or-map scope_of V j no_local e inside in
      let here : is_active at w ≡ true = sym (ap (holds (record { class = 0; place = at })) same) ∙ holding in
      let from : e.from ≡ w.from = ap (λ (x : Extent). x.from) same in
      let to : e.to ≡ w.to = ap (λ (x : Extent). x.to) same in
      elim (cases_Bool (is_apart (Some e) place)) [
        | inl apart ↦ apart ∙ sym (any_some (λ v. is_active at v && not (is_active place v)) V j no_local inside
            (and_from (is_active at w) (not (is_active place w)) here (ap not (out w (⊎_elim (λ (h : nat_lt place e.from ≡ true). inl (omega (arith, ltb-true place e.from h, from))) (λ (h : nat_le e.to place ≡ true). inr (omega (arith, leb-true e.to place h, to))) (or_cases (nat_lt place e.from) (nat_le e.to place) apart))))))
        | inr held ↦ held ∙ sym (any_none (λ v. is_active at v && not (is_active place v)) V
            (λ i d h. elim (cases_Bool (is_active at (get_or V i d))) [
              | inr no_way ↦ and_left (is_active at (get_or V i d)) (not (is_active place (get_or V i d))) no_way
              | inl active ↦ and_right (is_active at (get_or V i d)) (not (is_active place (get_or V i d)))
                  (ap not (in_both i d h j inside (get_or_default V j no_local d inside) here active from to
                  (or_parts (nat_lt place e.from) (nat_le e.to place) held)
                  (subst (λ x. key_of (scope_of (get_or V i d)) ≤ key_of x) same (subst (λ x. key_of x ≤ key_of e) (get_or-map scope_of V i d _ h)
                  (most i (omega (arith, length-map V scope_of)) (ap (holds (record { class = 0; place = at })) (get_or-map scope_of V i d _ h) ∙ active))))))
            ]))
      ]
    where
      no_local : LocalVariable
      no_local = record { token = 0; name = []; kind = kind.Local; from = 0; to = 0 }

      out : (w : LocalVariable) → (place < w.from) ⊎ (w.to ≤ place) → is_active place w ≡ false
      out w (inl h) = and_left (nat_le w.from place) (nat_lt place w.to) (lt-leb w.from place h)
      out w (inr h) = and_right (nat_le w.from place) (nat_lt place w.to) (le-ltb place w.to h)

      in_both : (i : ℕ) (d : LocalVariable) → i < length V → (j : ℕ) → j < length V → get_or V j no_local ≡ get_or V j d → is_active at (get_or V j no_local) ≡ true → is_active at (get_or V i d) ≡ true → e.from ≡ (get_or V j no_local).from → e.to ≡ (get_or V j no_local).to
          → (nat_lt place e.from ≡ false) × (nat_le e.to place ≡ false) → key_of (scope_of (get_or V i d)) ≤ key_of (scope_of (get_or V j no_local)) → is_active place (get_or V i d) ≡ true
      in_both i d h j k same here active from to outside key =
          let a = active_parts at (get_or V i d) active in
          let b = active_parts at (get_or V j d) (subst (λ x. is_active at x ≡ true) same here) in
          let r = inside_of (get_or V i d) (get_or V j d) at (two_of i j d h k) (few i d h) (few j d k) a.0 a.1 b.0 b.1 (subst (λ x. key_of (scope_of (get_or V i d)) ≤ key_of (scope_of x)) same key) in
          let f : e.from ≡ (get_or V j d).from = from ∙ ap (λ (x : LocalVariable). x.from) same in
          let t : e.to ≡ (get_or V j d).to = to ∙ ap (λ (x : LocalVariable). x.to) same in
          let low = ltb-false place e.from outside.0 in
          let high = leb-false e.to place outside.1 in
          active_from place (get_or V i d) (omega (arith, r.0, f, low)) (omega (arith, r.1, t, high))

guarded : (b : Bool) (A B : LocalVariable → Bool) (V : List LocalVariable) → (b && list_any (λ v. A v && B v) V) ≡ list_any (λ v. b && A v && B v) V
guarded true A B V = refl
guarded false A B V = sym (any_none (λ v. false && A v && B v) V (λ i d h. refl))

locals_few : (spelled : Spelling) (os : List Occurrence) → IsInOrder os → All (λ v. v.to < 2 ^ 32) (locals_of spelled os)
locals_few spelled os lies = all_given (Within 0 lies.tokens lies.tokens) (λ v. v.to < 2 ^ 32) (declared_by spelled)
    (λ o v w is. let d = declared_is spelled o v is in let t = lies.few in ⊎_elim (λ (h : to_of o ≡ lies.tokens). omega (arith, d.to, h, t)) (λ (h : to_of o ≤ lies.tokens). omega (arith, d.to, h, t)) (w.opens d.is).ends)
    os lies.order.within

module _ (spelled : Spelling) (os : List Occurrence) (lies : IsInOrder os) (L : List LabelAt) (names : List (ℕ × List ℕ)) (scopes : List (Option Extent))
    (inner : AreInnermost (filter_map scope_extent os) (map scope_spot (map (row_of names) L)) scopes) where
  scope_here : (u : ℕ) (l : LabelAt) → u < length L → l ≡ get_or L u no_label → IsInnermost (map scope_of (locals_of spelled os)) (record { class = 0; place = l.token }) (get_or scopes u None)
  scope_here u l inside at =
      let spot : spot_at (map scope_spot (map (row_of names) L)) u ≡ record { class = 0; place = l.token } =
      ap (λ xs. spot_at xs u) (map_through (row_of names) scope_spot (λ (x : LabelAt). scope_spot (row_of names x)) (λ x. refl) L)
      ∙ get_or-map (λ (x : LabelAt). scope_spot (row_of names x)) L u no_label _ inside ∙ ap (λ (x : LabelAt). scope_spot (row_of names x)) (sym at) in
      subst (λ s. IsInnermost (map scope_of (locals_of spelled os)) s (get_or scopes u None)) spot
      (subst (λ es. IsInnermost es (spot_at (map scope_spot (map (row_of names) L)) u) (get_or scopes u None)) (scopes_are spelled os)
      (inner.each u (omega (arith, length-map (map (row_of names) L) scope_spot, length-map L (row_of names)))))

  one_entering : (g : GotoAt) (seen : LabelAt → Bool) (c : Choice) → IsChosen seen 0 L c → enters_scope (map (row_of names) L) scopes g.token (option_map (λ (t : ℕ × LabelAt). t.0) c) ≡ option_map_or (λ (t : ℕ × LabelAt). list_any (enters spelled os g t.1) (locals_of spelled os)) c false
  one_entering g seen None none = refl
  one_entering g seen (Some (n, l)) (u, is, inside, at, here, most) =
      ap (λ m. enters_scope (map (row_of names) L) scopes g.token (Some m)) (is ∙ zero-add u)
      ∙ ap (λ b. not b && is_apart (get_or scopes u None) g.token) (ap (λ (r : LabelRow). r.at_end) (get_or-map (row_of names) L u no_label _ inside) ∙ ap (λ (x : LabelAt). x.at_end) (sym (at no_label)))
      ∙ ap (λ b. not l.at_end && b) (apart_is (locals_of spelled os) (locals_nest 0 lies.tokens lies.tokens os spelled lies.order) (locals_few spelled os lies) l.token g.token (get_or scopes u None) (scope_here u l inside (at no_label)))
      ∙ guarded (not l.at_end) (is_active l.token) (λ v. not (is_active g.token v)) (locals_of spelled os)

  pub entering_is : (G : List GotoAt) → first_failing (enters_scope (map (row_of names) L) scopes) (map (goto_row_of names) G) (map (λ g. option_map (λ (t : ℕ × LabelAt). t.0) (target L g)) G) ≡ first_token (filter_map (λ g. cond (option_map_or (λ (t : ℕ × LabelAt). list_any (enters spelled os g t.1) (locals_of spelled os)) (target L g) false) (Some g.token) None) G)
  entering_is G =
      failing_given (enters_scope (map (row_of names) L) scopes) (goto_row_of names) (λ g. option_map (λ (t : ℕ × LabelAt). t.0) (target L g)) (λ g. refl) G
      ∙ ap first_token (given_agree (λ g. cond (enters_scope (map (row_of names) L) scopes g.token (option_map (λ (t : ℕ × LabelAt). t.0) (target L g))) (Some g.token) None) (λ g. cond (option_map_or (λ (t : ℕ × LabelAt). list_any (enters spelled os g t.1) (locals_of spelled os)) (target L g) false) (Some g.token) None) G
      (λ i d h. ap (λ b. cond b (Some (get_or G i d).token) None)
      (one_entering (get_or G i d) (is_seen (get_or G i d).function (get_or G i d).token (get_or G i d).name) (target L (get_or G i d)) (innermost_chosen (is_seen (get_or G i d).function (get_or G i d).token (get_or G i d).name) 0 L))))

-- ---- all of them

when_token : (b : Bool) (t a : ℕ) → cond b (Some t) None ≡ Some a → a ≡ t
when_token true t a is = sym (ap (λ o. option_map_or (λ (n : ℕ). n) o 0) is)
when_token false t a is = absurd cc

tokens_rise : {X : Type 0} (test : X → Bool) (token : X → ℕ) (xs : List X) → AllPairs (λ u v. token u ≤ token v) xs → AllPairs (λ a b. a ≤ b) (filter_map (λ x. cond (test x) (Some (token x)) None) xs)
tokens_rise test token xs rise = pairs_given (λ u v. token u ≤ token v) (λ a b. a ≤ b) (λ x. cond (test x) (Some (token x)) None)
    (λ x y a b up one two. let p = when_token (test x) (token x) a one in let q = when_token (test y) (token y) b two in omega (arith, up, p, q)) xs rise

outside_token : (spelled : Spelling) (all : List Occurrence) (o : Occurrence) (a : ℕ) → break_outside spelled all o ≡ Some a → a ≡ place o
outside_token spelled all (Break token) a is = when_token (not (list_any (loops_round spelled all token) all)) token a is
outside_token spelled all _ a is = absurd cc

pub told_first :
    (spelled : Spelling) (os : List Occurrence) → IsInOrder os
    → first_bad (first_token (filter_map (label_twice spelled os) (labels_of spelled os))) (first_token (filter_map (without_label spelled os) (gotos_of spelled os))) (first_token (filter_map (into_scope spelled os) (gotos_of spelled os))) (first_token (filter_map (break_outside spelled os) os))
    ≡ first_fault (jump_faults spelled os)
told_first spelled os lies = sym (first_bad_is (filter_map (label_twice spelled os) (labels_of spelled os)) (filter_map (without_label spelled os) (gotos_of spelled os)) (filter_map (into_scope spelled os) (gotos_of spelled os)) (filter_map (break_outside spelled os) os)
    (tokens_rise (λ l. list_any (λ u. nat_lt u.token l.token && is_seen l.function l.token l.name u) (labels_of spelled os)) (λ (l : LabelAt). l.token) (labels_of spelled os) (labels_rise spelled os lies))
    (tokens_rise (λ g. is_none (target (labels_of spelled os) g)) (λ (g : GotoAt). g.token) (gotos_of spelled os) (gotos_rise spelled os lies))
    (tokens_rise (λ g. option_map_or (λ (t : ℕ × LabelAt). list_any (enters spelled os g t.1) (locals_of spelled os)) (target (labels_of spelled os) g) false) (λ (g : GotoAt). g.token) (gotos_of spelled os) (gotos_rise spelled os lies))
    (pairs_given (λ u v. place u ≤ place v) (λ a b. a ≤ b) (break_outside spelled os)
    (λ x y a b up one two. let p = outside_token spelled os x a one in let q = outside_token spelled os y b two in omega (arith, up, p, q)) os (places_rise os lies)))

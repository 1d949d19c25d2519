-- The labels and gotos of a chunk, as the code has them, are those of the definitions.
use Rattle.std.proofs.Common.{◌≡◌, ℕ, ◌+◌, ◌<◌, ◌≤◌, ◌⊎◌, true, false, List, [], ◌∷◌, Option, Some, None, All, AllPairs, length, get_or, map, refl, sym, ap, ◌∙◌, subst, inl, inr, arith}
use Rattle.std.proofs.lemmas.Bool.{false≢true}
use Rattle.std.proofs.lemmas.List.{length-map, length-append, get_or-map, get_or_default, same_lists}
use Rattle.std.proofs.lemmas.List.Elements.{Contains-append_left, Contains-append_right, All-map}
use Rattle.std.specs.List.{Contains, filter_map}
use Rattle.std.specs.Option.{option_map, option_map_or}
use Rattle.luf_scope.specs.Local.{Spelling, functions_of}
use Rattle.luf_scope.specs.Jump.{LabelAt, GotoAt, label_by, goto_by, labels_of, gotos_of, is_seen, target}
use Rattle.luf_scope.specs.Order.{place, behind, is_loop, is_label, block_from, Within}
use Rattle.luf_scope.specs.declared.occurrence.Occurrence.{Occurrence}
use Rattle.luf_scope.specs.declared.occurrence.Occurrence.TheVariants.{Label, Goto}
use Rattle.luf_scope.proofs.Ordered.{all_given, pairs_given}
use Rattle.luf_goto.specs.declared.sites.LabelRow.{LabelRow}
use Rattle.luf_goto.specs.declared.sites.GotoRow.{GotoRow}
use Rattle.luf_goto.specs.inner.Names.{label_name, goto_name, numbered_label, numbered_goto}
use Rattle.luf_goto.specs.inner.Rows.{goto_spot, row_at, goto_at, sees, IsTarget, AreTargets}
use Rattle.luf_goto.specs.inner.Sites.{IsInOrder, label_row, goto_row}
use Rattle.luf_goto.proofs.Agree.{mapped_there}
use Rattle.luf_goto.proofs.Chosen.{Choice, IsChosen, innermost_chosen}
use Rattle.luf_goto.proofs.Classes.{label_key, goto_key, names_of, row_of, goto_row_of, placed, seen_is}
use Rattle.luf_goto.proofs.Places.{places_rise}

abbrev Name : Type 0
Name = ℕ × List ℕ

abbrev pub no_label : LabelAt
no_label = record { token = 0; name = []; function = None; from = 0; to = 0; at_end = false }

abbrev pub no_goto : GotoAt
no_goto = record { token = 0; label = 0; name = []; function = None }

-- ---- rows are maps of what is defined

pub more : {A : Type 0} (x : A) (xs ys : List A) → xs ≡ ys → x ∷ xs ≡ x ∷ ys
more x xs ys same = ap (λ zs. x ∷ zs) same

module _ (spelled : Spelling) (all : List Occurrence) where
  pub label_rows : (N : List Name) (os : List Occurrence) → map (numbered_label spelled N) (filter_map (label_row all) os) ≡ map (row_of N) (filter_map (label_by spelled (functions_of all)) os)
  label_rows N [] = refl
  label_rows N (Label name from to at_end ∷ os) = more _ _ _ (label_rows N os)
  label_rows N (_ ∷ os) = label_rows N os

  pub goto_rows : (N : List Name) (os : List Occurrence) → map (numbered_goto spelled N) (filter_map (goto_row all) os) ≡ map (goto_row_of N) (filter_map (goto_by spelled (functions_of all)) os)
  goto_rows N [] = refl
  goto_rows N (Goto token name ∷ os) = more _ _ _ (goto_rows N os)
  goto_rows N (_ ∷ os) = goto_rows N os

  pub label_names : (os : List Occurrence) → map (label_name spelled) (filter_map (label_row all) os) ≡ map label_key (filter_map (label_by spelled (functions_of all)) os)
  label_names [] = refl
  label_names (Label name from to at_end ∷ os) = more _ _ _ (label_names os)
  label_names (_ ∷ os) = label_names os

  pub goto_names : (os : List Occurrence) → map (goto_name spelled) (filter_map (goto_row all) os) ≡ map goto_key (filter_map (goto_by spelled (functions_of all)) os)
  goto_names [] = refl
  goto_names (Goto token name ∷ os) = more _ _ _ (goto_names os)
  goto_names (_ ∷ os) = goto_names os

-- ---- what is known of the labels and gotos

label_parts : (spelled : Spelling) (all : List Occurrence) (o : Occurrence) (l : LabelAt) → label_by spelled (functions_of all) o ≡ Some l → (l.token ≡ place o) × (l.from ≡ block_from o) × (is_label o ≡ true) × (is_loop o ≡ false) × (behind o ≡ l.token + 1)
label_parts spelled all (Label name from to at_end) l is =
    let token : l.token ≡ name = sym (ap (λ x. option_map_or (λ (y : LabelAt). y.token) x 0) is) in
    (token, sym (ap (λ x. option_map_or (λ (y : LabelAt). y.from) x 0) is), refl, refl, ap (λ n. n + 1) (sym token))
label_parts spelled all _ l is = absurd cc

goto_parts : (spelled : Spelling) (all : List Occurrence) (o : Occurrence) (g : GotoAt) → goto_by spelled (functions_of all) o ≡ Some g → g.token ≡ place o
goto_parts spelled all (Goto token name) g is = sym (ap (λ x. option_map_or (λ (y : GotoAt). y.token) x 0) is)
goto_parts spelled all _ g is = absurd cc

-- a label stands in its block, at a token that has a number
pub record Stands (l : LabelAt) : Type 0 where
  pub begun : l.from ≤ l.token
  pub few : l.token + 1 ≤ 4294967295

module _ (spelled : Spelling) (os : List Occurrence) (lies : IsInOrder os) where
  pub labels_stand : All Stands (labels_of spelled os)
  labels_stand = all_given (Within 0 lies.tokens lies.tokens) Stands (label_by spelled (functions_of os))
      (λ o l w is.
      let p = label_parts spelled os o l is in let b = (w.own.block p.2).begun in let h = w.high in let t = lies.few in
      record { begun = omega (arith, b, p.0, p.1); few = omega (arith, h, p.4, t) })
      os lies.order.within

  pub labels_rise : AllPairs (λ u v. u.token ≤ v.token) (labels_of spelled os)
  labels_rise = pairs_given (λ u v. place u ≤ place v) (λ u v. u.token ≤ v.token) (label_by spelled (functions_of os))
      (λ x y u v up a b. let p = label_parts spelled os x u a in let q = label_parts spelled os y v b in omega (arith, up, p.0, q.0)) os (places_rise os lies)

  pub gotos_rise : AllPairs (λ u v. u.token ≤ v.token) (gotos_of spelled os)
  gotos_rise = pairs_given (λ u v. place u ≤ place v) (λ u v. u.token ≤ v.token) (goto_by spelled (functions_of os))
      (λ x y u v up a b. let p = goto_parts spelled os x u a in let q = goto_parts spelled os y v b in omega (arith, up, p, q)) os (places_rise os lies)

-- ---- lists of labels and of gotos

module _ (L : List LabelAt) (G : List GotoAt) where
  N : List Name
  N = names_of L G

  pub label_there : (i : ℕ) (d : LabelAt) → i < length L → Contains (names_of L G) (label_key (get_or L i d))
  label_there i d inside = Contains-append_left (map label_key L) (map goto_key G) _ (mapped_there label_key L i d inside)

  pub goto_there : (i : ℕ) (d : GotoAt) → i < length G → Contains (names_of L G) (goto_key (get_or G i d))
  goto_there i d inside = Contains-append_right (map label_key L) (map goto_key G) _ (mapped_there goto_key G i d inside)

  names_long : length (names_of L G) ≡ length L + length G
  names_long = length-append (map label_key L) (map goto_key G) ∙ ap (λ n. n + length (map goto_key G)) (length-map L label_key) ∙ ap (λ n. length L + n) (length-map G goto_key)

  pub label_classes : All (λ r. r.class < length L + length G) (map (row_of (names_of L G)) L)
  label_classes = All-map (λ (r : LabelRow). r.class < length L + length G) (row_of (names_of L G)) L
      (λ i d h. let p = placed (names_of L G) (label_key (get_or L i d)) (label_there i d h) in omega (arith, p.1, p.3, names_long))

  pub goto_classes : All (λ r. r.class < length L + length G) (map (goto_row_of (names_of L G)) G)
  goto_classes = All-map (λ (r : GotoRow). r.class < length L + length G) (goto_row_of (names_of L G)) G
      (λ i d h. let p = placed (names_of L G) (goto_key (get_or G i d)) (goto_there i d h) in omega (arith, p.1, p.3, names_long))

  pub label_row_at : (i : ℕ) (d : LabelAt) → i < length L → row_at (map (row_of (names_of L G)) L) i ≡ row_of (names_of L G) (get_or L i d)
  label_row_at i d inside = get_or-map (row_of (names_of L G)) L i d _ inside

  pub goto_row_at : (i : ℕ) (d : GotoAt) → i < length G → goto_at (map (goto_row_of (names_of L G)) G) i ≡ goto_row_of (names_of L G) (get_or G i d)
  goto_row_at i d inside = get_or-map (goto_row_of (names_of L G)) G i d _ inside

  -- the target that was found is the target
  module _ (k : ℕ) (d : GotoAt) (inside : k < length G) where
    sees_same : (i : ℕ) (e : LabelAt) → i < length L → sees (goto_spot (goto_row_of (names_of L G) (get_or G k d))) (row_at (map (row_of (names_of L G)) L) i) ≡ is_seen (get_or G k d).function (get_or G k d).token (get_or G k d).name (get_or L i e)
    sees_same i e h =
        ap (sees (goto_spot (goto_row_of (names_of L G) (get_or G k d)))) (label_row_at i e h)
        ∙ seen_is (names_of L G) (get_or L i e) (get_or G k d) (label_there i e h) (goto_there k d inside)

    from_same : (i : ℕ) (e : LabelAt) → i < length L → (row_at (map (row_of (names_of L G)) L) i).from ≡ (get_or L i e).from
    from_same i e h = ap (λ (r : LabelRow). r.from) (label_row_at i e h)

    rows_long : length (map (row_of (names_of L G)) L) ≡ length L
    rows_long = length-map L (row_of (names_of L G))

    one_target : (o : Option ℕ) (c : Choice) → IsTarget (map (row_of (names_of L G)) L) (goto_spot (goto_row_of (names_of L G) (get_or G k d))) o → IsChosen (is_seen (get_or G k d).function (get_or G k d).token (get_or G k d).name) 0 L c → o ≡ option_map (λ (t : ℕ × LabelAt). t.0) c
    one_target None None none there = refl
    one_target None (Some (n, l)) none (u, is, below, at, here, most) =
        absurd (false≢true (sym (none u (omega (arith, rows_long))) ∙ sees_same u no_label below ∙ ap (is_seen (get_or G k d).function (get_or G k d).token (get_or G k d).name) (sym (at no_label)) ∙ here))
    one_target (Some n) None (below, here, most) none =
        let h : n < length L = omega (arith, rows_long) in
        absurd (false≢true (sym (none n no_label h) ∙ sym (sees_same n no_label h) ∙ here))
    one_target (Some n) (Some (m, l)) (below, here, most) (u, is, inner, at, there, best) =
        let h : n < length L = omega (arith, rows_long) in
        let seen_u = sees_same u no_label inner ∙ ap (is_seen (get_or G k d).function (get_or G k d).token (get_or G k d).name) (sym (at no_label)) ∙ there in
        let seen_n = sym (sees_same n no_label h) ∙ here in
        let from_n = from_same n no_label h in
        let from_u = from_same u no_label inner ∙ ap (λ (x : LabelAt). x.from) (sym (at no_label)) in
        ap Some (same (most u (omega (arith, rows_long)) seen_u) (best n no_label h seen_n) from_n from_u ∙ sym is)
      where
        same : ((row_at (map (row_of (names_of L G)) L) u).from < (row_at (map (row_of (names_of L G)) L) n).from) ⊎ (((row_at (map (row_of (names_of L G)) L) u).from ≡ (row_at (map (row_of (names_of L G)) L) n).from) × (n ≤ u))
            → ((get_or L n no_label).from < l.from) ⊎ (((get_or L n no_label).from ≡ l.from) × (u ≤ n))
            → (row_at (map (row_of (names_of L G)) L) n).from ≡ (get_or L n no_label).from → (row_at (map (row_of (names_of L G)) L) u).from ≡ l.from → n ≡ 0 + u
        same (inl a) (inl b) e f = absurd (omega arith)
        same (inl a) (inr b) e f = absurd (omega (arith, b.0))
        same (inr a) (inl b) e f = absurd (omega (arith, a.0))
        same (inr a) (inr b) e f = omega (arith, a.1, b.1)

  abbrev pub targets_in : List (Option ℕ)
  targets_in = map (λ g. option_map (λ (t : ℕ × LabelAt). t.0) (target L g)) G

  pub targets_same : (found : List (Option ℕ)) → AreTargets (map (row_of (names_of L G)) L) (map (goto_row_of (names_of L G)) G) found → found ≡ targets_in
  targets_same found are =
      let rows : length (map (goto_row_of (names_of L G)) G) ≡ length G = length-map G (goto_row_of (names_of L G)) in
      same_lists found targets_in (are.same ∙ rows ∙ sym (length-map G (λ g. option_map (λ (t : ℕ × LabelAt). t.0) (target L g))))
      (λ k d h.
      let inside : k < length G = omega (arith, are.same, rows) in
      get_or_default found k d None h
      ∙ one_target k no_goto inside (get_or found k None) (target L (get_or G k no_goto))
      (subst (λ r. IsTarget (map (row_of (names_of L G)) L) (goto_spot r) (get_or found k None)) (goto_row_at k no_goto inside) (are.each k (omega (arith, rows))))
      (innermost_chosen (is_seen (get_or G k no_goto).function (get_or G k no_goto).token (get_or G k no_goto).name) 0 L)
      ∙ sym (get_or-map (λ g. option_map (λ (t : ℕ × LabelAt). t.0) (target L g)) G k no_goto d inside))

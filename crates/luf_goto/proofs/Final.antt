-- The whole answer, from what each step of the code gives.
use Rattle.std.proofs.Common.{◌≡◌, ℕ, ◌+◌, ◌<◌, ◌≤◌, true, false, List, [], ◌∷◌, ◌++◌, Option, Some, None, IfSome, All, length, get_or, map, suc, sym, ap, ◌∙◌, subst, arith}
use Rattle.std.proofs.lemmas.List.{length-map, get_or_default}
use Rattle.std.specs.List.{filter_map, cons_option}
use Rattle.std.specs.List.Sorted.{IsNonDecreasingBy}
use Rattle.std.specs.Option.{option_map_or}
use Rattle.luf_scope.specs.Local.{Spelling, is_held, functions_of, function_by, function_of}
use Rattle.luf_scope.specs.Jump.{LabelAt, GotoAt, labels_of, gotos_of}
use Rattle.luf_scope.specs.Fault.{first_fault, jump_faults, label_twice, without_label, into_scope}
use Rattle.luf_scope.specs.Order.{place}
use Rattle.luf_scope.specs.declared.fault.ScopeBad.{ScopeBad}
use Rattle.luf_scope.specs.declared.occurrence.Occurrence.{Occurrence}
use Rattle.luf_scope.specs.declared.occurrence.Occurrence.TheVariants.{Loop, Break}
use Rattle.luf_scope.proofs.Ordered.{all_given, pairs_given}
use Rattle.luf_goto.specs.declared.holders.Extent.{Extent}
use Rattle.luf_goto.specs.declared.holders.Spot.{Spot}
use Rattle.luf_goto.specs.declared.sites.LabelRow.{LabelRow}
use Rattle.luf_goto.specs.declared.sites.GotoRow.{GotoRow}
use Rattle.luf_goto.specs.inner.Holders.{one_higher}
use Rattle.luf_goto.specs.inner.Faults.{first_bad, first_token}
use Rattle.luf_goto.specs.inner.Firsts as firsts
use Rattle.luf_goto.specs.inner.Firsts.{first_where}
use Rattle.luf_goto.specs.inner.Innermost.{AreInnermost}
use Rattle.luf_goto.specs.inner.Leaps.{first_failing, has_none, enters_scope}
use Rattle.luf_goto.specs.inner.Names.{goto_name, names_in, numbered_label, numbered_goto}
use Rattle.luf_goto.specs.inner.Rows.{seen_extent, name_spot, scope_extent, scope_spot, goto_at, goto_spot, IsTarget, AreTargets}
use Rattle.luf_goto.specs.inner.Sites.{IsInOrder, home_of, label_row, goto_row, loop_extent, break_spot}
use Rattle.luf_goto.specs.inner.Targets.{targets_in}
use Rattle.luf_goto.proofs.Classes.{label_key, names_of, row_of, goto_row_of}
use Rattle.luf_goto.proofs.Inner.{IsLastPassing, last_passing_is}
use Rattle.luf_goto.proofs.Lifted.{no_label, no_goto, label_rows, goto_rows, label_names, goto_names, labels_stand, labels_rise, gotos_rise, label_classes, goto_classes, targets_same}
use Rattle.luf_goto.proofs.Lists.{rising_pairs, rising_map}
use Rattle.luf_goto.proofs.Places.{places_rise}
use Rattle.luf_goto.proofs.Wrong.{twice_is, outside_is, missing_is, entering_is, told_first}

abbrev Name : Type 0
Name = ℕ × List ℕ

-- the labels and gotos of the code are those of the chunk
pub record Given (spelled : Spelling) (os : List Occurrence) (labels : List LabelRow) (gotos : List GotoRow) : Type 0 where
  pub labels_are : labels ≡ map (row_of (names_of (labels_of spelled os) (gotos_of spelled os))) (labels_of spelled os)
  pub gotos_are : gotos ≡ map (goto_row_of (names_of (labels_of spelled os) (gotos_of spelled os))) (gotos_of spelled os)

pub given :
    (spelled : Spelling) (os : List Occurrence) (sl nl : List LabelRow) (sg ng : List GotoRow)
    → sl ≡ filter_map (label_row os) os → sg ≡ filter_map (goto_row os) os → nl ≡ map (numbered_label spelled (names_in spelled sl sg)) sl → ng ≡ map (numbered_goto spelled (names_in spelled sl sg)) sg
    → Given spelled os nl ng
given spelled os sl nl sg ng ls gs ln gn =
    let N : List Name = names_of (labels_of spelled os) (gotos_of spelled os) in
    let names : names_in spelled sl sg ≡ N =
    ap (λ x. names_in spelled x sg) ls ∙ ap (names_in spelled (filter_map (label_row os) os)) gs
    ∙ ap (λ x. x ++ map (goto_name spelled) (filter_map (goto_row os) os)) (label_names spelled os os) ∙ ap (λ x. map label_key (labels_of spelled os) ++ x) (goto_names spelled os os) in
    record {
      labels_are = ln ∙ ap (λ n. map (numbered_label spelled n) sl) names ∙ ap (map (numbered_label spelled N)) ls ∙ label_rows spelled os N os;
      gotos_are = gn ∙ ap (λ n. map (numbered_goto spelled n) sg) names ∙ ap (map (numbered_goto spelled N)) gs ∙ goto_rows spelled os N os;
    }

module _ (spelled : Spelling) (os : List Occurrence) (lies : IsInOrder os) (labels : List LabelRow) (gotos : List GotoRow) (are : Given spelled os labels gotos) where
  pub labels_up : IsNonDecreasingBy (λ l. l.name) labels
  labels_up = subst (λ (ls : List LabelRow). IsNonDecreasingBy (λ l. l.name) ls) (sym are.labels_are)
      (rising_map (λ l. l.name) (row_of (names_of (labels_of spelled os) (gotos_of spelled os))) no_label (labels_of spelled os) (labels_rise spelled os lies))

  pub gotos_up : IsNonDecreasingBy (λ g. g.token) gotos
  gotos_up = subst (λ (gs : List GotoRow). IsNonDecreasingBy (λ g. g.token) gs) (sym are.gotos_are)
      (rising_map (λ g. g.token) (goto_row_of (names_of (labels_of spelled os) (gotos_of spelled os))) no_goto (gotos_of spelled os) (gotos_rise spelled os lies))

  long : length (labels_of spelled os) + length (gotos_of spelled os) ≡ length labels + length gotos
  long = omega (arith, ap length are.labels_are, ap length are.gotos_are, length-map (labels_of spelled os) (row_of (names_of (labels_of spelled os) (gotos_of spelled os))), length-map (gotos_of spelled os) (goto_row_of (names_of (labels_of spelled os) (gotos_of spelled os))))

  pub labels_classed : All (λ l. l.class < length labels + length gotos) labels
  labels_classed = subst (λ n. All (λ (l : LabelRow). l.class < n) labels) long (subst (λ (ls : List LabelRow). All (λ l. l.class < length (labels_of spelled os) + length (gotos_of spelled os)) ls) (sym are.labels_are) (label_classes (labels_of spelled os) (gotos_of spelled os)))

  pub gotos_classed : All (λ g. g.class < length labels + length gotos) gotos
  gotos_classed = subst (λ n. All (λ (g : GotoRow). g.class < n) gotos) long (subst (λ (gs : List GotoRow). All (λ g. g.class < length (labels_of spelled os) + length (gotos_of spelled os)) gs) (sym are.gotos_are) (goto_classes (labels_of spelled os) (gotos_of spelled os)))

  pub targets_found : (found : List (Option ℕ)) → AreTargets labels gotos found → found ≡ targets_in spelled os
  targets_found found ok = targets_same (labels_of spelled os) (gotos_of spelled os) found
      (subst (λ ls. AreTargets ls (map (goto_row_of (names_of (labels_of spelled os) (gotos_of spelled os))) (gotos_of spelled os)) found) are.labels_are (subst (λ gs. AreTargets labels gs found) are.gotos_are ok))

  pub bad_found :
      (loops : List Extent) (breaks : List Spot) (found : List (Option ℕ)) (scopes : List (Option Extent)) (twice missing entering outside : Option ℕ) (bad : Option ScopeBad)
      → loops ≡ filter_map (loop_extent os) os → breaks ≡ filter_map (break_spot os) os → AreTargets labels gotos found → AreInnermost (filter_map scope_extent os) (map scope_spot labels) scopes
      → twice ≡ first_where (firsts.is_held (map seen_extent labels) true) (map name_spot labels) → missing ≡ first_failing has_none gotos found
      → entering ≡ first_failing (enters_scope labels scopes) gotos found → outside ≡ first_where (firsts.is_held loops false) breaks
      → bad ≡ first_bad twice missing entering outside → bad ≡ first_fault (jump_faults spelled os)
  bad_found loops breaks found scopes twice missing entering outside bad loop break ok inner is_twice is_missing is_entering is_outside is_bad =
      let L : List LabelAt = labels_of spelled os in
      let G : List GotoAt = gotos_of spelled os in
      let N : List Name = names_of L G in
      let targets : found ≡ targets_in spelled os = targets_found found ok in
      let rows : labels ≡ map (row_of N) L = are.labels_are in
      let go : gotos ≡ map (goto_row_of N) G = are.gotos_are in
      let inner' : AreInnermost (filter_map scope_extent os) (map scope_spot (map (row_of N) L)) scopes = subst (λ ls. AreInnermost (filter_map scope_extent os) (map scope_spot ls) scopes) rows inner in
      let t : Option ℕ = first_token (filter_map (label_twice spelled os) L) in
      let m : Option ℕ = first_token (filter_map (without_label spelled os) G) in
      let e : Option ℕ = first_token (filter_map (into_scope spelled os) G) in
      is_bad
      ∙ ap (λ x. first_bad x missing entering outside) (is_twice ∙ ap (λ ls. first_where (firsts.is_held (map seen_extent ls) true) (map name_spot ls)) rows ∙ twice_is L G (labels_stand spelled os lies))
      ∙ ap (λ x. first_bad t x entering outside) (is_missing ∙ ap (λ gs. first_failing has_none gs found) go ∙ ap (first_failing has_none (map (goto_row_of N) G)) targets ∙ missing_is L G N)
      ∙ ap (λ x. first_bad t m x outside) (is_entering ∙ ap (λ ls. first_failing (enters_scope ls scopes) gotos found) rows ∙ ap (λ gs. first_failing (enters_scope (map (row_of N) L) scopes) gs found) go
      ∙ ap (first_failing (enters_scope (map (row_of N) L) scopes) (map (goto_row_of N) G)) targets ∙ entering_is spelled os lies L N scopes inner' G)
      ∙ ap (λ x. first_bad t m e x) (is_outside ∙ ap (λ ls. first_where (firsts.is_held ls false) breaks) loop ∙ ap (first_where (firsts.is_held (filter_map (loop_extent os) os) false)) break ∙ outside_is spelled os os)
      ∙ told_first spelled os lies

-- ---- loops and breaks

loop_parts : (os : List Occurrence) (o : Occurrence) (e : Extent) → loop_extent os o ≡ Some e → (e.from ≡ place o) × (e.class ≡ home_of os (place o))
loop_parts os (Loop from to) e is = (sym (ap (λ x. option_map_or (λ (y : Extent). y.from) x 0) is), sym (ap (λ x. option_map_or (λ (y : Extent). y.class) x 0) is))
loop_parts os _ e is = absurd cc

break_parts : (os : List Occurrence) (o : Occurrence) (s : Spot) → break_spot os o ≡ Some s → (s.place ≡ place o) × (s.class ≡ home_of os (place o))
break_parts os (Break token) s is = (sym (ap (λ x. option_map_or (λ (y : Spot). y.place) x 0) is), sym (ap (λ x. option_map_or (λ (y : Spot). y.class) x 0) is))
break_parts os _ s is = absurd cc

fewer : {X Y : Type 0} (h : X → Option Y) (xs : List X) → length (filter_map h xs) ≤ length xs
fewer h [] = omega arith
fewer {Y = Y} h (x ∷ xs) = one (h x) (fewer h xs)
  where
    one : (o : Option Y) → length (filter_map h xs) ≤ length xs → length (cons_option o (filter_map h xs)) ≤ suc (length xs)
    one None le = omega arith
    one (Some y) le = omega arith

home_low : (os : List Occurrence) (p : ℕ) → home_of os p < length os + 1
home_low os p = low (function_of (functions_of os) p) (last_passing_is (is_held p) 0 (functions_of os))
  where
    low : (o : Option ℕ) → IsLastPassing (is_held p) 0 (functions_of os) o → one_higher o < length os + 1
    low None none = omega arith
    low (Some m) (u, is, inside, passes, rest) = omega (arith, fewer function_by os)

module _ (os : List Occurrence) (lies : IsInOrder os) where
  pub loops_sorted : IsNonDecreasingBy (λ e. e.from) (filter_map (loop_extent os) os)
  loops_sorted = rising_pairs (λ e. e.from) (filter_map (loop_extent os) os)
      (pairs_given (λ u v. place u ≤ place v) (λ a b. a.from ≤ b.from) (loop_extent os) (λ x y u v up a b. let p = loop_parts os x u a in let q = loop_parts os y v b in omega (arith, up, p.0, q.0)) os (places_rise os lies))

  pub breaks_rise : IsNonDecreasingBy (λ s. s.place) (filter_map (break_spot os) os)
  breaks_rise = rising_pairs (λ s. s.place) (filter_map (break_spot os) os)
      (pairs_given (λ u v. place u ≤ place v) (λ a b. a.place ≤ b.place) (break_spot os) (λ x y u v up a b. let p = break_parts os x u a in let q = break_parts os y v b in omega (arith, up, p.0, q.0)) os (places_rise os lies))

pub loops_low : (os : List Occurrence) → All (λ e. e.class < length os + 1) (filter_map (loop_extent os) os)
loops_low os = all_given (λ _. Unit {0}) (λ e. e.class < length os + 1) (loop_extent os) (λ o e _ is. let p = loop_parts os o e is in omega (arith, p.1, home_low os (place o))) os (λ k d h. tt)

pub breaks_low : (os : List Occurrence) → All (λ s. s.class < length os + 1) (filter_map (break_spot os) os)
breaks_low os = all_given (λ _. Unit {0}) (λ s. s.class < length os + 1) (break_spot os) (λ o e _ is. let p = break_parts os o e is in omega (arith, p.1, home_low os (place o))) os (λ k d h. tt)

target_low : (labels : List LabelRow) (s : Spot) (o : Option ℕ) → IsTarget labels s o → IfSome o (λ n. n < length labels)
target_low labels s None none = tt
target_low labels s (Some n) (inside, here, most) = inside

pub numbers_low : (labels : List LabelRow) (gotos : List GotoRow) (found : List (Option ℕ)) → AreTargets labels gotos found → All (λ t. IfSome t (λ n. n < length labels)) found
numbers_low labels gotos found ok k d h =
    subst (λ o. IfSome o (λ n. n < length labels)) (get_or_default found k None d h) (target_low labels (goto_spot (goto_at gotos k)) (get_or found k None) (ok.each k (omega (arith, ok.same))))

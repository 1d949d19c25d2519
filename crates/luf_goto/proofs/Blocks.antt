-- The extents of labels and of local variables, and the target that the innermost block gives.
use Rattle.std.proofs.Common.{◌≡◌, ℕ, ◌+◌, ◌-◌, ◌*◌, ◌^◌, ◌<◌, ◌≤◌, ◌⊎◌, List, [], ◌∷◌, Option, Some, None, All, length, get_or, map, zero, suc, add-zero, refl, sym, ap, ◌∙◌, subst, inl, inr, arith}
use Rattle.std.proofs.lemmas.Bool.{cases_order}
use Rattle.std.proofs.lemmas.List.{get_or-map, length-map}
use Rattle.std.specs.List.{filter_map}
use Rattle.std.specs.Option.{option_map_or}
use Rattle.luf_scope.proofs.Ordered.{all_given}
use Rattle.luf_goto.specs.inner.Holders.{holds, nowhere, extent_at, spot_at}
use Rattle.luf_goto.specs.declared.holders.Extent.{Extent}
use Rattle.luf_goto.specs.declared.holders.Spot.{Spot}
use Rattle.luf_scope.specs.declared.occurrence.Occurrence.{Occurrence}
use Rattle.luf_scope.specs.declared.occurrence.Occurrence.TheVariants.{Local, LocalFunction, Parameter, ImplicitSelf, LoopVariable}
use Rattle.luf_goto.specs.declared.sites.LabelRow.{LabelRow}
use Rattle.luf_goto.specs.declared.sites.GotoRow.{GotoRow}
use Rattle.luf_goto.specs.inner.Innermost.{key_of, IsInnermost, AreInnermost}
use Rattle.luf_goto.specs.inner.Rows.{block_extent, block_extents, goto_spot, target_of, scope_extent, row_at, goto_at, sees, IsTarget, AreTargets}

pub length_blocks : (n : ℕ) (labels : List LabelRow) → length (block_extents n labels) ≡ length labels
length_blocks n [] = refl
length_blocks n (l ∷ labels) = ap suc (length_blocks (n + 1) labels)

pub block_at : (n : ℕ) (labels : List LabelRow) (i : ℕ) (d : Extent) → i < length labels → get_or (block_extents n labels) i d ≡ block_extent (n + i) (row_at labels i)
block_at n [] i d inside = absurd (omega arith)
block_at n (l ∷ labels) zero d inside = ap (λ m. block_extent m l) (sym (add-zero n))
block_at n (l ∷ labels) (suc i) d inside = block_at (n + 1) labels i d (omega arith) ∙ ap (λ m. block_extent m (row_at labels i)) (let e : n + 1 + i ≡ n + suc i = omega arith in e)

pub block_ranks : (labels : List LabelRow) → All (λ e. e.rank < 2 ^ 32) (block_extents 0 labels)
block_ranks labels k d inside = subst (λ (e : Extent). e.rank < 2 ^ 32) (sym (block_at 0 labels k d (omega (arith, length_blocks 0 labels)))) (omega arith)

pub block_classes : (classes : ℕ) (labels : List LabelRow) → All (λ l. l.class < classes) labels → All (λ e. e.class < classes) (block_extents 0 labels)
block_classes classes labels all k d inside =
    let within : k < length labels = omega (arith, length_blocks 0 labels) in
    subst (λ (e : Extent). e.class < classes) (sym (block_at 0 labels k d within)) (all k _ within)

-- ---- the local variables

scope_parts : (o : Occurrence) (e : Extent) → scope_extent o ≡ Some e → (e.class < 1) × (e.rank < 2 ^ 32)
scope_parts o e is = let p = parts o e is in (omega arith, omega arith)
  where
    fields : (from to : ℕ) (e : Extent) → Some (record { class = 0; from = from; to = to; rank = 4294967295 - to }) ≡ Some e → (e.class ≡ 0) × (e.rank ≡ 4294967295 - to)
    fields from to e is = (sym (ap (λ x. option_map_or (λ y. y.class) x 0) is), sym (ap (λ x. option_map_or (λ y. y.rank) x 0) is))

    parts : (o : Occurrence) (e : Extent) → scope_extent o ≡ Some e → (e.class ≡ 0) × ((t : ℕ) × (e.rank ≡ 4294967295 - t))
    parts (Local name attribute from to) e is = let f = fields from to e is in (f.0, (to, f.1))
    parts (LocalFunction name from to) e is = let f = fields from to e is in (f.0, (to, f.1))
    parts (Parameter name from to) e is = let f = fields from to e is in (f.0, (to, f.1))
    parts (ImplicitSelf colon from to) e is = let f = fields from to e is in (f.0, (to, f.1))
    parts (LoopVariable name from to) e is = let f = fields from to e is in (f.0, (to, f.1))
    parts _ e is = absurd cc

pub scope_ranks : (os : List Occurrence) → All (λ e. e.rank < 2 ^ 32) (filter_map scope_extent os)
scope_ranks os = all_given (λ _. Unit {0}) (λ e. e.rank < 2 ^ 32) scope_extent (λ o e _ is. (scope_parts o e is).1) os (λ k d h. tt)

pub scope_classes : (os : List Occurrence) → All (λ e. e.class < 1) (filter_map scope_extent os)
scope_classes os = all_given (λ _. Unit {0}) (λ e. e.class < 1) scope_extent (λ o e _ is. (scope_parts o e is).0) os (λ k d h. tt)

-- ---- the target

module _ (labels : List LabelRow) (few : length labels < 2 ^ 32) (s : Spot) where
  seen_as : (i : ℕ) → i < length labels → holds s (extent_at (block_extents 0 labels) i) ≡ sees s (row_at labels i)
  seen_as i inside = ap (holds s) (block_at 0 labels i nowhere inside)

  later_or_first : (i j a b : ℕ) → i < 2 ^ 32 → j < 2 ^ 32 → a * 4294967296 + (4294967295 - (0 + i)) ≤ b * 4294967296 + (4294967295 - (0 + j)) → (a < b) ⊎ ((a ≡ b) × (j ≤ i))
  later_or_first i j a b low high up = elim (cases_order a b) [
    | inl e ↦ inr (e, omega arith)
    | inr (inl less) ↦ inl less
    | inr (inr more) ↦ absurd (omega arith)
  ]

  pub target_is : (o : Option Extent) → IsInnermost (block_extents 0 labels) s o → IsTarget labels s (target_of o)
  target_is None none = λ i h. sym (seen_as i h) ∙ none i (omega (arith, length_blocks 0 labels))
  target_is (Some e) ((j, below, at), holding, most) =
      let inside : j < length labels = omega (arith, length_blocks 0 labels) in
      let is : e ≡ block_extent (0 + j) (row_at labels j) = sym at ∙ block_at 0 labels j e inside in
      let number : 4294967295 - e.rank ≡ j = ap (λ x. 4294967295 - x.rank) is ∙ (let q : 4294967295 - (4294967295 - (0 + j)) ≡ j = omega arith in q) in
      subst (λ n. IsTarget labels s (Some n)) (sym number) (
        inside,
        sym (ap (holds s) is) ∙ holding,
        (λ i h seen. later_or_first i j (row_at labels i).from (row_at labels j).from (omega arith) (omega arith)
            (subst (λ x. key_of x ≤ key_of (block_extent (0 + j) (row_at labels j))) (block_at 0 labels i nowhere h)
            (subst (λ x. key_of (extent_at (block_extents 0 labels) i) ≤ key_of x) is (most i (omega (arith, length_blocks 0 labels)) (seen_as i h ∙ seen))))),
      )

pub targets_are :
    (labels : List LabelRow) (gotos : List GotoRow) (blocks : List Extent) (spots : List Spot) (found : List (Option Extent)) (numbers : List (Option ℕ))
    → length labels < 2 ^ 32 → blocks ≡ block_extents 0 labels → spots ≡ map goto_spot gotos → AreInnermost blocks spots found → numbers ≡ map target_of found
    → AreTargets labels gotos numbers
targets_are labels gotos blocks spots found numbers few block spot inner number = record {
  same = same;
  each = λ k h.
      let within : k < length spots = omega (arith, ap length spot, length-map gotos goto_spot) in
      let at : spot_at spots k ≡ goto_spot (goto_at gotos k) = ap (λ xs. spot_at xs k) spot ∙ get_or-map goto_spot gotos k _ _ h in
      let one : IsInnermost (block_extents 0 labels) (goto_spot (goto_at gotos k)) (get_or found k None) =
      subst (λ x. IsInnermost (block_extents 0 labels) x (get_or found k None)) at (subst (λ es. IsInnermost es (spot_at spots k) (get_or found k None)) block (inner.each k within)) in
      subst (IsTarget labels (goto_spot (goto_at gotos k))) (sym (ap (λ xs. get_or xs k None) number ∙ get_or-map target_of found k None None (omega (arith, inner.same))))
      (target_is labels few (goto_spot (goto_at gotos k)) (get_or found k None) one);
}
  where
    same : length numbers ≡ length gotos
    same = ap length number ∙ length-map found target_of ∙ inner.same ∙ ap length spot ∙ length-map gotos goto_spot

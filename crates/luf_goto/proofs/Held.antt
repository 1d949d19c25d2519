-- Whether some extent holds a spot, read off the last one.
use Rattle.std.proofs.Common.{◌≡◌, ℕ, ◌+◌, ◌<◌, Bool, true, false, not, cond, ltb, List, [], ◌∷◌, ◌||◌, Option, Some, None, length, get_or, map, drop, refl, sym, ap, ◌∙◌, arith}
use Rattle.std.proofs.lemmas.Bool.{lt-ltb, cond-true, cond-false}
use Rattle.std.proofs.lemmas.List.{get_or-map, at_drop_more}
use Rattle.std.specs.List.{list_any}
use Rattle.std.specs.Option.{option_or, is_some}
use Rattle.luf_scope.specs.Local.{last_passing}
use Rattle.luf_goto.specs.declared.holders.Extent.{Extent}
use Rattle.luf_goto.specs.declared.holders.Spot.{Spot}
use Rattle.luf_goto.specs.inner.Holders.{holds, last_holding, one_higher, spot_at}
use Rattle.luf_goto.specs.inner.Firsts.{first_where, is_held, is_wanted}

some_passes : {A : Type 0} (test : A → Bool) (n : ℕ) (xs : List A) → is_some (last_passing test n xs) ≡ list_any test xs
some_passes test n [] = refl
some_passes test n (x ∷ xs) = either (last_passing test (n + 1) xs) (list_any test xs) (test x) n (some_passes test (n + 1) xs)
  where
    either : (o : Option ℕ) (rest first : Bool) (n : ℕ) → is_some o ≡ rest → is_some (option_or o (cond first (Some n) None)) ≡ (first || rest)
    either None rest true n is = refl
    either None rest false n is = is
    either (Some m) rest true n is = refl
    either (Some m) rest false n is = is

above_none : (o : Option ℕ) → ltb 0 (one_higher o) ≡ is_some o
above_none None = refl
above_none (Some n) = lt-ltb 0 (n + 1) (omega arith)

-- whether a number is above none says whether some extent holds the spot
pub held_by_number : (extents : List Extent) (s : Spot) (n : ℕ) → n ≡ one_higher (last_holding extents s) → ltb 0 n ≡ list_any (holds s) extents
held_by_number extents s n is = ap (ltb 0) is ∙ above_none (last_holding extents s) ∙ some_passes (holds s) 0 extents

wanted_is : (n : ℕ) (held : Bool) (extents : List Extent) (s : Spot) → n ≡ one_higher (last_holding extents s) → is_wanted n held ≡ is_held extents held s
wanted_is n true extents s is = held_by_number extents s n is
wanted_is n false extents s is = ap not (held_by_number extents s n is)

module _ (extents : List Extent) (held : Bool) (spots : List Spot) (numbers : List ℕ) (i n : ℕ) (found : numbers ≡ map (λ s. one_higher (last_holding extents s)) spots) (inside : i < length spots) (at : n ≡ get_or numbers i n) where
  test_here : is_wanted n held ≡ is_held extents held (spot_at spots i)
  test_here = wanted_is n held extents (spot_at spots i) (at ∙ ap (λ ns. get_or ns i n) found ∙ get_or-map (λ s. one_higher (last_holding extents s)) spots i (record { class = 0; place = 0 }) n inside)

  from_here : first_where (is_held extents held) (drop i spots) ≡ cond (is_held extents held (spot_at spots i)) (Some (spot_at spots i).place) (first_where (is_held extents held) (drop (i + 1) spots))
  from_here = at_drop_more (first_where (is_held extents held)) spots i (record { class = 0; place = 0 }) inside

  pub first_here : is_wanted n held ≡ true → first_where (is_held extents held) (drop i spots) ≡ Some (spot_at spots i).place
  first_here is = from_here ∙ cond-true _ _ _ (sym test_here ∙ is)

  pub not_here : is_wanted n held ≡ false → first_where (is_held extents held) (drop i spots) ≡ first_where (is_held extents held) (drop (i + 1) spots)
  not_here is = from_here ∙ cond-false _ _ _ (sym test_here ∙ is)

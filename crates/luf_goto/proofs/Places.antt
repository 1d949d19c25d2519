-- What the order of a chunk's occurrences tells of its functions and its jumps.
use Rattle.std.proofs.Common.{◌≡◌, ℕ, ◌+◌, ◌<◌, ◌≤◌, false, cond, List, [], ◌∷◌, Option, Some, None, All, AllPairs, length, get_or, take, ◌++◌, map, refl, sym, ap, ◌∙◌, arith}
use Rattle.std.proofs.lemmas.List.{get_or-map, take_all}
use Rattle.std.specs.List.{filter_map, cons_option}
use Rattle.std.specs.List.Sorted.{IsNonDecreasingBy}
use Rattle.std.specs.Option.{option_map_or, option_or, option_to_list}
use Rattle.luf_scope.specs.Local.{last_passing, function_by, is_held}
use Rattle.luf_scope.specs.Order.{place, is_loop}
use Rattle.luf_scope.proofs.Ordered.{all_given, pairs_given}
use Rattle.luf_scope.specs.declared.occurrence.Occurrence.{Occurrence}
use Rattle.luf_scope.specs.declared.occurrence.Occurrence.TheVariants.{Function, Loop, Label, Goto, Break}
use Rattle.luf_goto.specs.declared.holders.Extent.{Extent}
use Rattle.luf_goto.specs.inner.Holders.{holds, last_holding, one_higher}
use Rattle.luf_goto.specs.inner.Sites.{IsInOrder, home_of, stop_at, jump_of, function_extent, label_in, goto_in, loop_in, break_in}
use Rattle.luf_goto.proofs.Lists.{given_more, rising_pairs, rising_map, map_through}

module _ (os : List Occurrence) (lies : IsInOrder os) where
  pub places_rise : AllPairs (λ u v. place u ≤ place v) os
  places_rise i j d below inside = omega (arith, (lies.order.pairs i j d below inside).later, (lies.order.within i d (omega arith)).own.long)

  -- but for a loop, what comes later stands at a later place
  pub places_grow : AllPairs (λ u v. is_loop u ≡ false → place u < place v) os
  places_grow i j d below inside one = omega (arith, (lies.order.pairs i j d below inside).later, (lies.order.within i d (omega arith)).own.some one)

-- ---- the functions

function_parts : (o : Occurrence) (e : Extent) → function_extent o ≡ Some e → (e.from ≡ place o) × (e.class ≡ 0)
function_parts (Function from to vararg) e is = (sym (ap (λ x. option_map_or (λ y. y.from) x 0) is), sym (ap (λ x. option_map_or (λ y. y.class) x 0) is))
function_parts _ e is = absurd cc

pub functions_sorted : (os : List Occurrence) → IsInOrder os → IsNonDecreasingBy (λ e. e.from) (filter_map function_extent os)
functions_sorted os lies =
    rising_pairs (λ e. e.from) (filter_map function_extent os)
    (pairs_given (λ u v. place u ≤ place v) (λ a b. a.from ≤ b.from) function_extent
    (λ x y u v up a b. let p = function_parts x u a in let q = function_parts y v b in omega arith) os (places_rise os lies))

pub functions_in_one : (os : List Occurrence) → All (λ e. e.class < 1) (filter_map function_extent os)
functions_in_one os = all_given (λ _. Unit {0}) (λ e. e.class < 1) function_extent (λ x e _ is. let p = function_parts x e is in omega arith) os (λ k d h. tt)

option_same : {A : Type 0} {x y : A} → Some x ≡ Some y → y ≡ x
option_same {A} {x} {y} is = ap (λ r. option_map_or (λ z. z) r x) (sym is)

jump_is : (o x : Occurrence) → jump_of o ≡ Some x → x ≡ o
jump_is (Label name from to at_end) x is = option_same is
jump_is (Goto token name) x is = option_same is
jump_is (Loop from to) x is = option_same is
jump_is (Break token) x is = option_same is
jump_is _ x is = absurd cc

pub jumps_rise : (os : List Occurrence) → IsInOrder os → IsNonDecreasingBy (λ s. s.place) (map stop_at (filter_map jump_of os))
jumps_rise os lies = rising_map (λ s. s.place) stop_at (Break 0) (filter_map jump_of os)
    (pairs_given (λ u v. place u ≤ place v) (λ u v. place u ≤ place v) jump_of
    (λ x y u v up a b. let p = ap place (jump_is x u a) in let q = ap place (jump_is y v b) in omega arith) os (places_rise os lies))

-- what is said of jumps alone
pub jumps_kept : {Y : Type 0} (h : Occurrence → Option Y) → ((o : Occurrence) → jump_of o ≡ None → h o ≡ None) → (os : List Occurrence) → filter_map h (filter_map jump_of os) ≡ filter_map h os
jumps_kept h none [] = refl
jumps_kept {Y} h none (o ∷ os) = by (jump_of o) refl (jumps_kept h none os)
  where
    by : (r : Option Occurrence) → jump_of o ≡ r → filter_map h (filter_map jump_of os) ≡ filter_map h os → filter_map h (cons_option r (filter_map jump_of os)) ≡ cons_option (h o) (filter_map h os)
    by None is rest = rest ∙ ap (λ y. cons_option y (filter_map h os)) (sym (none o is))
    by (Some x) is rest = ap (λ y. cons_option (h y) (filter_map h (filter_map jump_of os))) (jump_is o x is) ∙ ap (cons_option (h o)) rest

-- after all of them
pub all_rows : {Y : Type 0} (h : Occurrence → Option Y) → ((o : Occurrence) → jump_of o ≡ None → h o ≡ None) → (os items jumps : List Occurrence) (i : ℕ) (rows : List Y) → rows ≡ filter_map h (take i items) → length items ≤ i → items ≡ jumps → jumps ≡ filter_map jump_of os → rows ≡ filter_map h os
all_rows h none os items jumps i rows are end is all = are ∙ ap (filter_map h) (take_all i items end ∙ is ∙ all) ∙ jumps_kept h none os

pub no_label : (home : ℕ) (o : Occurrence) → jump_of o ≡ None → label_in home o ≡ None
no_label home (Label name from to at_end) is = absurd cc
no_label home _ is = refl

pub no_goto : (home : ℕ) (o : Occurrence) → jump_of o ≡ None → goto_in home o ≡ None
no_goto home (Goto token name) is = absurd cc
no_goto home _ is = refl

pub no_loop : (home : ℕ) (o : Occurrence) → jump_of o ≡ None → loop_in home o ≡ None
no_loop home (Loop from to) is = absurd cc
no_loop home _ is = refl

pub no_break : (home : ℕ) (o : Occurrence) → jump_of o ≡ None → break_in home o ≡ None
no_break home (Break token) is = absurd cc
no_break home _ is = refl

-- the last function that holds a place
same_function : (p n : ℕ) (os : List Occurrence) → last_passing (holds (record { class = 0; place = p })) n (filter_map function_extent os) ≡ last_passing (is_held p) n (filter_map function_by os)
same_function p n [] = refl
same_function p n (Function from to vararg ∷ os) = ap (λ o. option_or o (cond (is_held p (record { from = from; to = to; vararg = vararg })) (Some n) None)) (same_function p (n + 1) os)
same_function p n (_ ∷ os) = same_function p n os

pub homes_found : (os jumps : List Occurrence) → map (λ s. one_higher (last_holding (filter_map function_extent os) s)) (map stop_at jumps) ≡ map (λ o. home_of os (place o)) jumps
homes_found os jumps = map_through stop_at (λ s. one_higher (last_holding (filter_map function_extent os) s)) (λ o. home_of os (place o)) (λ o. ap one_higher (same_function (place o) 0 os)) jumps

-- a loop that adds what each occurrence says, with the function of its place: one step
pub row_more :
    {Y : Type 0} (h : ℕ → Occurrence → Option Y) (all os : List Occurrence) (homes : List ℕ) (i home : ℕ) (o : Occurrence) (old new : List Y)
    → homes ≡ map (λ o. home_of all (place o)) os → i < length os → o ≡ get_or os i o → home ≡ get_or homes i home
    → new ≡ old ++ option_to_list (h home o) → old ≡ filter_map (λ o. h (home_of all (place o)) o) (take i os)
    → new ≡ filter_map (λ o. h (home_of all (place o)) o) (take (i + 1) os)
row_more h all os homes i home o old new are inside is at added before =
    let one : home ≡ home_of all (place o) =
    at ∙ ap (λ hs. get_or hs i home) are ∙ get_or-map (λ x. home_of all (place x)) os i o home inside ∙ ap (λ x. home_of all (place x)) (sym is) in
    added
    ∙ ap (λ x. x ++ option_to_list (h home o)) before
    ∙ ap (λ x. filter_map (λ y. h (home_of all (place y)) y) (take i os) ++ option_to_list (h x o)) one
    ∙ sym (given_more (λ x. h (home_of all (place x)) x) os i o inside is)

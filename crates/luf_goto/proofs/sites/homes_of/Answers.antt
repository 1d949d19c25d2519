use Rattle.std.proofs.Common.{◌≡◌, ◌<◌, ◌∙◌, List, All, map, sym, ap, subst, arith}
use Rattle.std.specs.List.{filter_map}
use Rattle.std.specs.List.Sorted.{IsNonDecreasingBy}
use Rattle.std.proofs.lemmas.Result.{IfOk-weaker}
use Rattle.std.proofs.lemmas.List.Elements.{All-map}
use Rattle.luf_goto.specs.declared.holders.Extent.{Extent}
use Rattle.luf_goto.specs.declared.holders.Spot.{Spot}
use Rattle.luf_goto.specs.inner.Holders.{last_holding, one_higher}
use Rattle.luf_goto.specs.inner.Sites.{stop_at, function_extent}
use Rattle.luf_goto.proofs.Places.{functions_sorted, functions_in_one, jumps_rise, homes_found}
use Rattle.luf_goto.proofs.sites.homes_of.Goals as goal

pub last_holders-requires-clause-sorted : goal.last_holders-requires-clause-sorted
last_holders-requires-clause-sorted c =
    subst (λ (xs : List Extent). IsNonDecreasingBy (λ e. e.from) xs) (sym (c.as_slice.ensures.value ∙ c.in_ok-functions.ensures)) (functions_sorted c.args.os.now c.requires.order)

pub last_holders-requires-clause-rising : goal.last_holders-requires-clause-rising
last_holders-requires-clause-rising c =
    subst (λ (xs : List Spot). IsNonDecreasingBy (λ s. s.place) xs) (sym (c.as_slice-2.ensures.value ∙ c.in_ok-stops.ensures ∙ ap (map stop_at) c.requires.jumps)) (jumps_rise c.args.os.now c.requires.order)

pub last_holders-requires-clause-extents_in : goal.last_holders-requires-clause-extents_in
last_holders-requires-clause-extents_in c =
    subst (λ (xs : List Extent). All (λ e. e.class < 1) xs) (sym (c.as_slice.ensures.value ∙ c.in_ok-functions.ensures)) (functions_in_one c.args.os.now)

pub last_holders-requires-clause-spots_in : goal.last_holders-requires-clause-spots_in
last_holders-requires-clause-spots_in c =
    subst (λ (xs : List Spot). All (λ s. s.class < 1) xs) (sym (c.as_slice-2.ensures.value ∙ c.in_ok-stops.ensures))
    (All-map (λ (s : Spot). s.class < 1) stop_at c.args.jumps.now (λ k d h. omega arith))

pub returns : goal.returns
returns c =
    IfOk-weaker c.last_holders.result _ _
    (λ found (is : found.items ≡ map (λ s. one_higher (last_holding c.as_slice.result.now s)) c.as_slice-2.result.now).
    is ∙ ap (λ (es : List Extent). map (λ s. one_higher (last_holding es s)) c.as_slice-2.result.now) (c.as_slice.ensures.value ∙ c.in_ok-functions.ensures)
    ∙ ap (map (λ s. one_higher (last_holding (filter_map function_extent c.args.os.now) s))) (c.as_slice-2.ensures.value ∙ c.in_ok-stops.ensures)
    ∙ homes_found c.args.os.now c.args.jumps.now)
    c.last_holders.ensures.found

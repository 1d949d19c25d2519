use Rattle.std.proofs.Common.{◌≡◌, ◌∙◌, ◌^◌, ◌<◌, List, All, map, sym, ap, subst}
use Rattle.std.specs.List.Sorted.{IsNonDecreasingBy}
use Rattle.std.proofs.lemmas.List.Elements.{All-map}
use Rattle.std.proofs.lemmas.Result.{IfOk-weaker}
use Rattle.luf_goto.specs.declared.holders.Extent.{Extent}
use Rattle.luf_goto.specs.declared.holders.Spot.{Spot}
use Rattle.luf_goto.specs.inner.Rows.{goto_spot, target_of}
use Rattle.luf_goto.proofs.Blocks.{block_ranks, block_classes, targets_are}
use Rattle.luf_goto.proofs.Lists.{rising_mapped}
use Rattle.luf_goto.proofs.targets.targets_of.Goals as goal

pub innermost-requires-clause-rising : goal.innermost-requires-clause-rising
innermost-requires-clause-rising c =
    subst (λ (ss : List Spot). IsNonDecreasingBy (λ s. s.place) ss) (sym (c.as_slice.ensures.value ∙ c.in_ok-spots.ensures))
    (rising_mapped (λ g. g.token) (λ s. s.place) goto_spot (record { token = 0; name = 0; class = 0 }) (λ x y up. up) c.args.gotos.now c.requires.rising)

pub innermost-requires-clause-ranks : goal.innermost-requires-clause-ranks
innermost-requires-clause-ranks c =
    subst (λ (es : List Extent). All (λ e. e.rank < 2 ^ 32) es) (sym (c.as_mut_slice.ensures.value ∙ c.in_ok-blocks.ensures)) (block_ranks c.args.labels.now)

pub innermost-requires-clause-extents_in : goal.innermost-requires-clause-extents_in
innermost-requires-clause-extents_in c =
    subst (λ (es : List Extent). All (λ e. e.class < c.args.classes) es) (sym (c.as_mut_slice.ensures.value ∙ c.in_ok-blocks.ensures)) (block_classes c.args.classes c.args.labels.now c.requires.labels_in)

pub innermost-requires-clause-spots_in : goal.innermost-requires-clause-spots_in
innermost-requires-clause-spots_in c =
    subst (λ (ss : List Spot). All (λ s. s.class < c.args.classes) ss) (sym (c.as_slice.ensures.value ∙ c.in_ok-spots.ensures))
    (All-map (λ (s : Spot). s.class < c.args.classes) goto_spot c.args.gotos.now c.requires.gotos_in)

pub returns : goal.returns
returns c =
    IfOk-weaker c.numbers_of.result _ _
    (λ numbers (is : numbers.items ≡ map target_of c.as_slice-2.result.now).
    targets_are c.args.labels.now c.args.gotos.now c.as_mut_slice.result.now c.as_slice.result.now c.in_ok-found.found.items numbers.items c.requires.few
    (c.as_mut_slice.ensures.value ∙ c.in_ok-blocks.ensures) (c.as_slice.ensures.value ∙ c.in_ok-spots.ensures) c.in_ok-found.ensures (is ∙ ap (map target_of) c.as_slice-2.ensures.value))
    c.numbers_of.ensures

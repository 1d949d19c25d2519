use Rattle.std.proofs.Common.{◌∙◌, ◌^◌, ◌<◌, List, All, false, sym, subst, arith}
use Rattle.std.specs.List.Sorted.{IsNonDecreasingBy}
use Rattle.std.proofs.lemmas.List.Elements.{All-map}
use Rattle.luf_goto.specs.declared.holders.Extent.{Extent}
use Rattle.luf_goto.specs.declared.holders.Spot.{Spot}
use Rattle.luf_goto.specs.inner.Rows.{scope_spot}
use Rattle.luf_goto.proofs.Blocks.{scope_ranks, scope_classes}
use Rattle.luf_goto.proofs.Lists.{rising_mapped}
use Rattle.luf_goto.proofs.scopes.scopes_of.Goals as goal

pub innermost-requires-clause-rising : goal.innermost-requires-clause-rising
innermost-requires-clause-rising c =
    subst (λ (ss : List Spot). IsNonDecreasingBy (λ s. s.place) ss) (sym (c.as_slice.ensures.value ∙ c.in_ok-spots.ensures))
    (rising_mapped (λ l. l.name) (λ s. s.place) scope_spot (record { name = 0; class = 0; from = 0; to = 0; at_end = false }) (λ x y up. up) c.args.labels.now c.requires)

pub innermost-requires-clause-ranks : goal.innermost-requires-clause-ranks
innermost-requires-clause-ranks c =
    subst (λ (es : List Extent). All (λ e. e.rank < 2 ^ 32) es) (sym (c.as_mut_slice.ensures.value ∙ c.in_ok-scopes.ensures)) (scope_ranks c.args.os.now)

pub innermost-requires-clause-extents_in : goal.innermost-requires-clause-extents_in
innermost-requires-clause-extents_in c =
    subst (λ (es : List Extent). All (λ e. e.class < 1) es) (sym (c.as_mut_slice.ensures.value ∙ c.in_ok-scopes.ensures)) (scope_classes c.args.os.now)

pub innermost-requires-clause-spots_in : goal.innermost-requires-clause-spots_in
innermost-requires-clause-spots_in c =
    subst (λ (ss : List Spot). All (λ s. s.class < 1) ss) (sym (c.as_slice.ensures.value ∙ c.in_ok-spots.ensures))
    (All-map (λ (s : Spot). s.class < 1) scope_spot c.args.labels.now (λ k d h. omega arith))

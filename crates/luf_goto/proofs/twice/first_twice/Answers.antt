use Rattle.std.proofs.Common.{◌∙◌, ◌<◌, List, All, false, sym, subst, arith}
use Rattle.std.specs.List.Sorted.{IsNonDecreasingBy}
use Rattle.std.proofs.lemmas.List.Elements.{All-map}
use Rattle.luf_goto.specs.declared.holders.Extent.{Extent}
use Rattle.luf_goto.specs.declared.holders.Spot.{Spot}
use Rattle.luf_goto.specs.inner.Rows.{seen_extent, name_spot}
use Rattle.luf_goto.proofs.Lists.{rising_mapped}
use Rattle.luf_goto.proofs.twice.first_twice.Goals as goal

pub first_spot-requires-clause-sorted : goal.first_spot-requires-clause-sorted
first_spot-requires-clause-sorted c =
    subst (λ (es : List Extent). IsNonDecreasingBy (λ e. e.from) es) (sym (c.as_slice.ensures.value ∙ c.in_ok-extents.ensures))
    (rising_mapped (λ l. l.name) (λ e. e.from) seen_extent (record { name = 0; class = 0; from = 0; to = 0; at_end = false }) (λ x y up. omega arith) c.args.labels.now c.requires.rising)

pub first_spot-requires-clause-rising : goal.first_spot-requires-clause-rising
first_spot-requires-clause-rising c =
    subst (λ (ss : List Spot). IsNonDecreasingBy (λ s. s.place) ss) (sym (c.as_slice-2.ensures.value ∙ c.in_ok-spots.ensures))
    (rising_mapped (λ l. l.name) (λ s. s.place) name_spot (record { name = 0; class = 0; from = 0; to = 0; at_end = false }) (λ x y up. up) c.args.labels.now c.requires.rising)

pub first_spot-requires-clause-extents_in : goal.first_spot-requires-clause-extents_in
first_spot-requires-clause-extents_in c =
    subst (λ (es : List Extent). All (λ e. e.class < c.args.classes) es) (sym (c.as_slice.ensures.value ∙ c.in_ok-extents.ensures))
    (All-map (λ (e : Extent). e.class < c.args.classes) seen_extent c.args.labels.now c.requires.classes)

pub first_spot-requires-clause-spots_in : goal.first_spot-requires-clause-spots_in
first_spot-requires-clause-spots_in c =
    subst (λ (ss : List Spot). All (λ s. s.class < c.args.classes) ss) (sym (c.as_slice-2.ensures.value ∙ c.in_ok-spots.ensures))
    (All-map (λ (s : Spot). s.class < c.args.classes) name_spot c.args.labels.now c.requires.classes)

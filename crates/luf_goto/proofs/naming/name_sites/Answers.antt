use Rattle.std.proofs.Common.{◌+◌, ◌≤◌, ◌∙◌, length, map, ap, sym, subst}
use Rattle.luf_scope.specs.Links.{spelling_in}
use Rattle.luf_goto.specs.inner.Names.{name_of, first_place, labels_numbered, gotos_numbered}
use Rattle.luf_goto.proofs.Numbers.{room_for, labels_named, gotos_named}
use Rattle.luf_goto.proofs.naming.name_sites.Goals as goal

pub number_gotos-requires : goal.number_gotos-requires
number_gotos-requires c =
    subst (λ ns. length c.args.labels.now + length c.args.gotos.now ≤ length ns) (sym c.as_slice-3.ensures.value)
    (room_for (spelling_in c.args.src.now c.args.cut.now) c.args.labels.now c.args.gotos.now c.in_ok-numbers.numbers.items
    (c.in_ok-numbers.ensures.numbers ∙ ap (λ ns. map (first_place ns) ns) (ap (map name_of) c.as_slice.ensures.value ∙ c.in_ok-names.ensures)))

pub returns-clause-labels : goal.returns-clause-labels
returns-clause-labels c =
    c.in_ok-named_labels.ensures ∙ ap (λ ns. labels_numbered ns 0 c.args.labels.now) c.as_slice-2.ensures.value
    ∙ labels_named (spelling_in c.args.src.now c.args.cut.now) c.args.labels.now c.args.gotos.now c.in_ok-numbers.numbers.items
    (c.in_ok-numbers.ensures.numbers ∙ ap (λ ns. map (first_place ns) ns) (ap (map name_of) c.as_slice.ensures.value ∙ c.in_ok-names.ensures))

pub returns-clause-gotos : goal.returns-clause-gotos
returns-clause-gotos c =
    c.in_ok-named_gotos.ensures ∙ ap (λ ns. gotos_numbered ns (length c.args.labels.now) c.args.gotos.now) c.as_slice-3.ensures.value
    ∙ gotos_named (spelling_in c.args.src.now c.args.cut.now) c.args.labels.now c.args.gotos.now c.in_ok-numbers.numbers.items
    (c.in_ok-numbers.ensures.numbers ∙ ap (λ ns. map (first_place ns) ns) (ap (map name_of) c.as_slice.ensures.value ∙ c.in_ok-names.ensures))

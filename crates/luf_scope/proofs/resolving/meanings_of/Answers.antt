use Rattle.std.proofs.Common.{map, sym, ap, ◌∙◌, subst}
use Rattle.luf_scope.specs.Links.{spelling_in}
use Rattle.luf_scope.specs.Local.{locals_of}
use Rattle.luf_scope.specs.inner.Buckets.{number_in}
use Rattle.luf_scope.specs.inner.Scopes.{name_number, meant_by, meaning_of}
use Rattle.luf_scope.specs.inner.Sweep.{AreRanged}
use Rattle.luf_scope.proofs.Counted.{places_from_order}
use Rattle.luf_scope.proofs.Mapped.{map_each}
use Rattle.luf_scope.proofs.Named.{numbered_from, ranged, meant_each, same_scopes}
use Rattle.luf_scope.proofs.resolving.meanings_of.Goals as goal

pub meanings-requires-clause-order : goal.meanings-requires-clause-order
meanings-requires-clause-order c = places_from_order _ _ _ c.args.os.now c.requires.order

pub in_order-requires : goal.in_order-requires
in_order-requires c =
    let locals = locals_of (spelling_in c.args.src.now c.args.cut.now) c.args.os.now in
    numbered_from (name_number locals) locals c.args.scopes.items c.requires.scopes

pub meanings-requires-clause-scopes : goal.meanings-requires-clause-scopes
meanings-requires-clause-scopes c =
    let spelled = spelling_in c.args.src.now c.args.cut.now in
    let number = number_in c.args.names.buckets.items in
    let are = c.requires.scopes ∙ sym (same_scopes number (name_number (locals_of spelled c.args.os.now)) c.requires.names 0 (locals_of spelled c.args.os.now)) in
    subst (AreRanged number) (sym c.as_slice.ensures.value)
    (ranged spelled c.args.os.now number c.args.scopes.items c.in_ok-scopes.scopes.items c.requires.names are c.in_ok-scopes.ensures)

pub returns : goal.returns
returns c =
    let spelled = spelling_in c.args.src.now c.args.cut.now in
    let os = c.args.os.now in
    let number = number_in c.args.names.buckets.items in
    let are = c.requires.scopes ∙ sym (same_scopes number (name_number (locals_of spelled os)) c.requires.names 0 (locals_of spelled os)) in
    c.in_ok-found.ensures
    ∙ ap (λ scopes. map (meant_by spelled number scopes) os) c.as_slice.ensures.value
    ∙ map_each (meant_by spelled number c.in_ok-scopes.scopes.items) (meaning_of spelled (locals_of spelled os)) os
    (meant_each spelled os number c.args.scopes.items c.in_ok-scopes.scopes.items c.requires.names are c.in_ok-scopes.ensures c.requires.order.pairs)

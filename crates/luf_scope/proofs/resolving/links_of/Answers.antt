use Rattle.std.proofs.Common.{ap, ◌∙◌, arith}
use Rattle.luf_scope.specs.Links.{spelling_in, NameTable}
use Rattle.luf_scope.specs.Local.{locals_of}
use Rattle.luf_scope.specs.inner.Scopes.{meaning_of}
use Rattle.luf_scope.proofs.Counted.{laid_from_order, count_from_order, few_locals}
use Rattle.luf_scope.proofs.RoleFound.{links_found}
use Rattle.luf_scope.proofs.resolving.links_of.Goals as goal

pub variables_of-requires-clause-few : goal.variables_of-requires-clause-few
variables_of-requires-clause-few c = omega (arith, few_locals (spelling_in c.args.src.now c.args.cut.now) _ c.args.os.now c.requires.order, c.tokens-tokens.ensures.count, c.tokens-tokens.ensures.few)

pub name_fault-requires-clause-laid : goal.name_fault-requires-clause-laid
name_fault-requires-clause-laid c = laid_from_order _ _ _ c.args.os.now c.requires.order

pub roles_of-requires-clause-laid : goal.roles_of-requires-clause-laid
roles_of-requires-clause-laid c = laid_from_order _ _ _ c.args.os.now c.requires.order

pub roles_of-requires-clause-few : goal.roles_of-requires-clause-few
roles_of-requires-clause-few c = omega (arith, count_from_order _ c.args.os.now c.requires.order)

pub returns-in_ok-roles-in-None-clause-ok : goal.returns-in_ok-roles-in-None-clause-ok
returns-in_ok-roles-in-None-clause-ok c =
    let spelled = spelling_in c.args.src.now c.args.cut.now in
    let os = c.args.os.now in
    let mean = c.as_slice-in-None.ensures.value ∙ c.in_ok-meanings.ensures in
    links_found spelled os _ c.of.result (laid_from_order _ _ _ os c.requires.order)
    (ap (λ (l : NameTable). l.tokens) c.of.ensures ∙ c.tokens-tokens.ensures.count)
    (ap (λ (l : NameTable). l.roles) c.of.ensures ∙ c.in_ok-roles-in-None.ensures (meaning_of spelled (locals_of spelled os)) mean)
    (ap (λ (l : NameTable). l.binders) c.of.ensures ∙ c.in_ok-binders.ensures.binders)

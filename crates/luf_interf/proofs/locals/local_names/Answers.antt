use Rattle.std.proofs.Common.{◌≡◌, ◌+◌, ◌<◌, drop, length, reverse, sym, ap, ◌∙◌, subst, arith, AllPairs}
use Rattle.std.proofs.lemmas.List.{take_at, length-map, length-reverse, length-replicate}
use Rattle.std.specs.List.Sorted.{IsPermutation}
use Rattle.luf_lex.specs.Tokens.{toks_of}
use Rattle.luf_scope.specs.Links.{spelling_in}
use Rattle.luf_scope.specs.Local.{binder_of, locals_of}
use Rattle.luf_scope.proofs.Counted.{count_from_order}
use Rattle.luf_interf.specs.inner.Owners.{IsReading, scopes_from}
use Rattle.luf_interf.specs.inner.Uses.{nowhere, AreNamed, AreScopes}
use Rattle.luf_interf.proofs.LocalsNamed.{few_references, few_uses, reading_none, scopes_rise, are_scopes}
use Rattle.luf_interf.proofs.LeastLocals.{local_names}
use Rattle.luf_interf.proofs.locals.local_names.Goals as goal

pub heads_of-requires : goal.heads_of-requires
heads_of-requires c = let few = few_references (length (toks_of c.args.cut.now)) c.args.os.now c.requires.order in let many = c.count_references.ensures in let most = c.requires.few in omega (arith, few, many, most)

pub read-requires-clause-reading : goal.read-requires-clause-reading
read-requires-clause-reading c =
    let spelled = spelling_in c.args.src.now c.args.cut.now in
    let e = length (toks_of c.args.cut.now) in
    let few = few_references e c.args.os.now c.requires.order in let many = c.count_references.ensures in let most = c.requires.few in
    let start = reading_none e c.args.os.now spelled c.args.l.now (length c.binders-count.result.now) (c.count_references.result + 25)
    c.in_ok-nowheres.field-0.items c.in_ok-nowheres-2.field-0.items c.as_mut_slice.result.now c.in_ok-heads_of.field-0 c.requires.links (ap length c.binders-count.ensures) (omega (arith, few, many, most))
    c.in_ok-nowheres.ensures (c.as_mut_slice.ensures.value ∙ c.in_ok-firsts.ensures) c.in_ok-heads_of.ensures in
    subst (λ us. IsReading spelled c.args.os.now (length c.args.os.now) c.in_ok-nowheres.field-0.items c.in_ok-nowheres-2.field-0.items c.in_ok-heads_of.field-0 c.as_mut_slice.result.now (reverse us)) (sym c.new.ensures.items) start

pub scopes_of-requires : goal.scopes_of-requires
scopes_of-requires c = let few = count_from_order (length (toks_of c.args.cut.now)) c.args.os.now c.requires.order in let most = c.requires.few in omega (arith, few, most)

pub in_order-requires : goal.in_order-requires
in_order-requires c =
    let spelled = spelling_in c.args.src.now c.args.cut.now in
    subst (AllPairs (λ s t. s.local < t.local)) (sym (c.in_ok-scopes_of.ensures spelled (c.binders.ensures ∙ c.requires.links.binders))) (scopes_rise 0 (locals_of spelled c.args.os.now))

pub give_all-requires-clause-room : goal.give_all-requires-clause-room
give_all-requires-clause-room c =
    let after = c.read.new.self in
    let spelled = spelling_in c.args.src.now c.args.cut.now in
    let uses = few_uses spelled c.args.os.now (length after.heads) c.args.os.now (reverse after.uses.items) c.in_ok-read.ensures.reading.are in
    let same = length-reverse after.uses.items in
    let kept = c.in_ok-read.ensures.heads in
    let size = c.in_ok-heads_of.ensures.count in
    let many = c.count_references.ensures in
    omega (arith, uses, same, kept, size, many)

pub give_all-requires-clause-scopes : goal.give_all-requires-clause-scopes
give_all-requires-clause-scopes c =
    let after = c.read.new.self in
    let os = c.args.os.now in
    let spelled = spelling_in c.args.src.now c.args.cut.now in
    let e = length (toks_of c.args.cut.now) in
    let reading = c.in_ok-read.ensures.reading in
    let scopes : c.in_ok-scopes_of.field-0.items ≡ scopes_from 0 (locals_of spelled os) = c.in_ok-scopes_of.ensures spelled (c.binders.ensures ∙ c.requires.links.binders) in
    let long : length c.read.new.firsts ≡ c.in_ok-firsts.firsts.len = let own = c.as_mut_slice.ensures.len in omega (arith, own) in
    let firsts : c.as_slice.result.now ≡ c.read.new.firsts = c.as_slice.ensures.value ∙ take_at c.read.new.firsts (drop (length c.read.new.firsts) c.in_ok-firsts.firsts.items) c.in_ok-firsts.firsts.len long in
    let names : length after.names.items ≡ length c.binders-count.result.now = ap (λ v. length v.items) c.in_ok-read.ensures.names ∙ ap length c.in_ok-nowheres.ensures ∙ length-replicate (length c.binders-count.result.now) nowhere in
    let locals : length c.binders-count.result.now ≡ length (locals_of spelled os) = ap length (c.binders-count.ensures ∙ c.requires.links.binders) ∙ length-map (locals_of spelled os) binder_of in
    subst (AreScopes (reverse after.uses.items) after.names.items c.as_slice.result.now) (sym c.as_slice-2.ensures.value)
    (subst (λ fs. AreScopes (reverse after.uses.items) after.names.items fs c.in_ok-scopes.scopes.items) (sym firsts)
    (are_scopes e os c.requires.order spelled c.in_ok-scopes.scopes.items (subst (λ ss. IsPermutation ss c.in_ok-scopes.scopes.items) scopes c.in_ok-scopes.ensures.permutation) c.in_ok-scopes.ensures.order
    after.names.items after.behind.items after.heads c.read.new.firsts (reverse after.uses.items) reading (names ∙ locals ∙ sym reading.count)))

pub returns : goal.returns
returns c =
    let after = c.read.new.self in
    let os = c.args.os.now in
    let spelled = spelling_in c.args.src.now c.args.cut.now in
    let e = length (toks_of c.args.cut.now) in
    let reading = c.in_ok-read.ensures.reading in
    let scopes : c.in_ok-scopes_of.field-0.items ≡ scopes_from 0 (locals_of spelled os) = c.in_ok-scopes_of.ensures spelled (c.binders.ensures ∙ c.requires.links.binders) in
    let names : length after.names.items ≡ length c.binders-count.result.now = ap (λ v. length v.items) c.in_ok-read.ensures.names ∙ ap length c.in_ok-nowheres.ensures ∙ length-replicate (length c.binders-count.result.now) nowhere in
    let locals : length c.binders-count.result.now ≡ length (locals_of spelled os) = ap length (c.binders-count.ensures ∙ c.requires.links.binders) ∙ length-map (locals_of spelled os) binder_of in
    local_names 0 e e os c.requires.order spelled c.in_ok-scopes.scopes.items (subst (λ ss. IsPermutation ss c.in_ok-scopes.scopes.items) scopes c.in_ok-scopes.ensures.permutation) c.in_ok-scopes.ensures.order
    (length after.heads) reading.table.small (reverse after.uses.items) reading.are after.names.items c.give_all.new.self.names.items (names ∙ locals) reading.unnamed
    (subst (λ ss. AreNamed (length after.heads) (reverse after.uses.items) after.names.items ss c.give_all.new.self.names.items) c.as_slice-2.ensures.value c.give_all.ensures)

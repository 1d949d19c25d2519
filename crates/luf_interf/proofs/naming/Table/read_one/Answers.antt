use Rattle.std.proofs.Common.{◌≡◌, None, Some, length, reverse, sym, ap, subst, arith}
use Rattle.luf_lex.specs.Tokens.{toks_of}
use Rattle.luf_scope.specs.Links.{spelling_in}
use Rattle.luf_scope.specs.declared.occurrence.Occurrence.TheVariants.{Local}
use Rattle.luf_interf.specs.inner.Owners.{IsOwner, IsReading}
use Rattle.luf_interf.specs.inner.Uses.{IsTable}
use Rattle.luf_interf.proofs.ReadBackwards.{owner_stands, reference_at, rises_before, read_nothing, read_kept, read_put}
use Rattle.luf_interf.proofs.naming.Table.read_one.Goals as goal

pub put-requires-clause-rising : goal.put-requires-clause-rising
put-requires-clause-rising c =
    let own = c.args.self.now in
    let spelled = spelling_in c.args.src.now c.args.cut.now in
    let e = length (toks_of c.args.cut.now) in
    rises_before e c.args.os.now c.requires.order spelled c.args.place (Local 0 None 0 0) c.requires.within (length own.heads) c.in-Some.token (reverse own.uses.items) (sym c.in-Some.ensures) c.requires.reading.are

pub put-requires-clause-owner : goal.put-requires-clause-owner
put-requires-clause-owner c =
    let own = c.args.self.now in
    let spelled = spelling_in c.args.src.now c.args.cut.now in
    let e = length (toks_of c.args.cut.now) in
    let is = reference_at e c.args.os.now c.requires.order spelled c.args.place (Local 0 None 0 0) c.requires.within c.in-Some.token (sym c.in-Some.ensures) in
    let owned : IsOwner spelled c.args.os.now (length own.heads) c.in-Some.token (Some c.in-Some-owner_of.owner) =
    subst (λ n. IsOwner spelled c.args.os.now n c.in-Some.token (Some c.in-Some-owner_of.owner)) c.len.ensures
    (subst (IsOwner spelled c.args.os.now c.len.result c.in-Some.token) c.in-Some-owner_of.is (c.owner_of.ensures c.args.os.now c.requires.order c.requires.links is)) in
    owner_stands spelled c.args.os.now (length own.heads) c.in-Some.token c.in-Some-owner_of.owner own.names.items c.args.firsts.now c.requires.reading.count c.requires.reading.unnamed owned

pub returns-in_ok-put-in-Some-owner_of-clause-reading : goal.returns-in_ok-put-in-Some-owner_of-clause-reading
returns-in_ok-put-in-Some-owner_of-clause-reading c =
    let own = c.args.self.now in
    let spelled = spelling_in c.args.src.now c.args.cut.now in
    let e = length (toks_of c.args.cut.now) in
    let is = reference_at e c.args.os.now c.requires.order spelled c.args.place (Local 0 None 0 0) c.requires.within c.in-Some.token (sym c.in-Some.ensures) in
    let owned : IsOwner spelled c.args.os.now (length own.heads) c.in-Some.token (Some c.in-Some-owner_of.owner) =
    subst (λ n. IsOwner spelled c.args.os.now n c.in-Some.token (Some c.in-Some-owner_of.owner)) c.len.ensures
    (subst (IsOwner spelled c.args.os.now c.len.result c.in-Some.token) c.in-Some-owner_of.is (c.owner_of.ensures c.args.os.now c.requires.order c.requires.links is)) in
    let after = c.put.new.self in
    let names : after.names.items ≡ own.names.items = ap (λ v. v.items) c.in_ok-put-in-Some-owner_of.ensures.names in
    let behind : after.behind.items ≡ own.behind.items = ap (λ v. v.items) c.in_ok-put-in-Some-owner_of.ensures.behind in
    subst (λ ns. IsReading spelled c.args.os.now c.args.place ns after.behind.items after.heads c.put.new.firsts (reverse after.uses.items)) (sym names)
    (subst (λ bs. IsReading spelled c.args.os.now c.args.place own.names.items bs after.heads c.put.new.firsts (reverse after.uses.items)) (sym behind)
    (read_put e c.args.os.now c.requires.order spelled c.args.place (Local 0 None 0 0) c.requires.within own.names.items own.behind.items own.heads c.args.firsts.now (reverse own.uses.items) c.requires.reading
    c.in-Some.token c.in-Some-owner_of.owner after.heads c.put.new.firsts (reverse after.uses.items) (sym c.in-Some.ensures) owned c.in_ok-put-in-Some-owner_of.ensures.put
    (subst (λ ns. IsTable ns own.behind.items after.heads (reverse after.uses.items)) names (subst (λ bs. IsTable after.names.items bs after.heads (reverse after.uses.items)) behind c.in_ok-put-in-Some-owner_of.ensures.table))
    c.in_ok-put-in-Some-owner_of.ensures.firsts c.in_ok-put-in-Some-owner_of.ensures.heads (omega arith)))

pub returns-in-None-owner_of-clause-reading : goal.returns-in-None-owner_of-clause-reading
returns-in-None-owner_of-clause-reading c =
    let own = c.args.self.now in
    let spelled = spelling_in c.args.src.now c.args.cut.now in
    let e = length (toks_of c.args.cut.now) in
    let is = reference_at e c.args.os.now c.requires.order spelled c.args.place (Local 0 None 0 0) c.requires.within c.in-Some.token (sym c.in-Some.ensures) in
    let owned : IsOwner spelled c.args.os.now (length own.heads) c.in-Some.token None =
    subst (λ n. IsOwner spelled c.args.os.now n c.in-Some.token None) c.len.ensures
    (subst (IsOwner spelled c.args.os.now c.len.result c.in-Some.token) c.in-None-owner_of.is (c.owner_of.ensures c.args.os.now c.requires.order c.requires.links is)) in
    read_kept e c.args.os.now c.requires.order spelled c.args.place (Local 0 None 0 0) c.requires.within own.names.items own.behind.items own.heads c.args.firsts.now (reverse own.uses.items) c.requires.reading c.in-Some.token (sym c.in-Some.ensures) owned

pub returns-in-None-clause-reading : goal.returns-in-None-clause-reading
returns-in-None-clause-reading c =
    let own = c.args.self.now in
    let spelled = spelling_in c.args.src.now c.args.cut.now in
    read_nothing (length (toks_of c.args.cut.now)) c.args.os.now c.requires.order spelled c.args.place (Local 0 None 0 0) c.requires.within own.names.items own.behind.items own.heads c.args.firsts.now (reverse own.uses.items) c.requires.reading (sym c.in-None.ensures)

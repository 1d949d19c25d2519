use Rattle.std.proofs.Common.{length, reverse, sym, ◌∙◌, subst}
use Rattle.luf_interf.specs.declared.uses.Owner.TheVariants as owner
use Rattle.luf_interf.specs.declared.uses.Use.{Use}
use Rattle.luf_interf.specs.inner.Uses.{IsTable, CanStand}
use Rattle.luf_interf.proofs.Putting.{in_front, put_free}
use Rattle.luf_interf.proofs.naming.Table.put.Goals as goal

pub returns-in_ok-push-in-Free-clause-table : goal.returns-in_ok-push-in-Free-clause-table
returns-in_ok-push-in-Free-clause-table c =
    let own = c.args.self.now in
    let us = reverse own.uses.items in
    let u : Use = record { token = c.args.token; owner = owner.Free c.in-Free.number; next = c.unwrap-next.result } in
    let stands = subst (CanStand own.names.items (length own.heads) (length c.args.firsts.now)) c.in-Free.is c.requires.owner in
    subst (IsTable own.names.items own.behind.items c.set.new.self) (sym (in_front c.push-in-Free.new.self.items own.uses.items u c.in_ok-push-in-Free.ensures.items))
    (put_free own.names.items own.behind.items own.heads c.args.token c.unwrap-next.result us c.requires.table c.requires.before c.requires.rising c.in-Free.number c.set.new.self stands.0 stands.1 (sym c.at.ensures ∙ c.unwrap-next.ensures) c.set.ensures)

use Rattle.std.proofs.Common.{◌≤◌, length, sym, ap, ◌∙◌, subst, is_some}
use Rattle.luf_interf.proofs.Passing.{passed_over_at, past_end}
use Rattle.luf_interf.proofs.naming.Table.pass.Goals as goal

pub returns-else-is_some-clause-table : goal.returns-else-is_some-clause-table
returns-else-is_some-clause-table c =
    let own = c.args.self.now in
    let past = past_end own.heads c.number_of-number.result (sym (ap is_some c.at.ensures) ∙ sym c.is_some.ensures ∙ c.if-is_some.false) in
    passed_over_at own.names.items own.behind.items own.heads own.uses.items c.pop.new.self.items c.in-Some.u c.in-Some.ensures.items c.requires.table (subst (λ n. length own.heads ≤ n) c.number_of-number.ensures past)

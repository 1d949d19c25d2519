use Rattle.std.proofs.Common.{◌≡◌, length, reverse}
use Rattle.luf_interf.specs.inner.Uses.{IsTable, IsPassed}
use Rattle.luf_interf.proofs.naming.Table.pass_to.Given as goal

abbrev pub invariant-loop-self : goal.invariant-loop-self
invariant-loop-self l = record {
  table : IsTable l.self.names.items l.self.behind.items l.self.heads (reverse l.self.uses.items);
  passed : IsPassed l.place (reverse l.initial.self.uses.items) (reverse l.self.uses.items);
  names : l.self.names ≡ l.initial.self.names;
  behind : l.self.behind ≡ l.initial.self.behind;
  heads : length l.self.heads ≡ length l.initial.self.heads;
}

abbrev pub decreases-loop-self : goal.decreases-loop-self
decreases-loop-self l = length l.self.uses.items

use Rattle.std.proofs.Common.{◌≡◌, length, reverse}
use Rattle.luf_interf.specs.inner.Uses.{IsTable}
use Rattle.luf_interf.proofs.Reached.{IsReached}
use Rattle.luf_interf.proofs.naming.Table.give_all.Given as goal

abbrev pub invariant-loop-s : goal.invariant-loop-s
invariant-loop-s l = record {
  table : IsTable l.self.names.items l.self.behind.items l.self.heads (reverse l.self.uses.items);
  heads : length l.self.heads ≡ length l.initial.self.heads;
  reached : IsReached (length l.initial.self.heads) (reverse l.initial.self.uses.items) l.initial.self.names.items l.firsts l.scopes l.s-index l.self.names.items l.self.behind.items (reverse l.self.uses.items);
}

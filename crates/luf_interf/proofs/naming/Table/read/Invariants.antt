use Rattle.std.proofs.Common.{◌≡◌, ◌≤◌, length, reverse}
use Rattle.luf_scope.specs.Links.{spelling_in}
use Rattle.luf_interf.specs.inner.Owners.{IsReading}
use Rattle.luf_interf.proofs.naming.Table.read.Given as goal

abbrev pub invariant-loop-left : goal.invariant-loop-left
invariant-loop-left l = record {
  within : l.left ≤ length l.os;
  reading : IsReading (spelling_in l.src l.cut) l.os l.left l.self.names.items l.self.behind.items l.self.heads l.firsts (reverse l.self.uses.items);
  names : l.self.names ≡ l.initial.self.names;
  behind : l.self.behind ≡ l.initial.self.behind;
  heads : length l.self.heads ≡ length l.initial.self.heads;
}

abbrev pub decreases-loop-left : goal.decreases-loop-left
decreases-loop-left l = l.left

use Rattle.std.proofs.Common.{◌≡◌, ◌+◌, ◌++◌, drop}
use Rattle.luf_goto.specs.inner.Names.{gotos_numbered}
use Rattle.luf_goto.proofs.naming.number_gotos.Given as goal

abbrev pub invariant-loop-i : goal.invariant-loop-i
invariant-loop-i l = l.rows.items ++ gotos_numbered l.numbers (l.first + l.i) (drop l.i l.gotos) ≡ gotos_numbered l.numbers l.first l.gotos

use Rattle.std.proofs.Common.{◌≡◌, ◌++◌, drop}
use Rattle.luf_goto.specs.inner.Names.{labels_numbered}
use Rattle.luf_goto.proofs.naming.number_labels.Given as goal

abbrev pub invariant-loop-i : goal.invariant-loop-i
invariant-loop-i l = l.rows.items ++ labels_numbered l.numbers l.i (drop l.i l.labels) ≡ labels_numbered l.numbers 0 l.labels

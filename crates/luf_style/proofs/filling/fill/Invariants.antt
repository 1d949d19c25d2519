use Rattle.std.proofs.Common.{drop}
use Rattle.luf_style.proofs.FillSteps.{Leads}
use Rattle.luf_style.proofs.filling.fill.Given as goal

abbrev pub invariant-loop-n : goal.invariant-loop-n
invariant-loop-n l = Leads l.written l.marks l.fn.gaps.items (drop l.n l.marks) l.filling

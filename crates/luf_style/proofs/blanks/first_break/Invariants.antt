use Rattle.std.proofs.Common.{drop}
use Rattle.luf_style.proofs.BlankLaws.{Looks}
use Rattle.luf_style.proofs.blanks.first_break.Given as goal

abbrev pub invariant-loop-n : goal.invariant-loop-n
invariant-loop-n l = Looks l.notes l.n l.ends (drop l.n l.notes)

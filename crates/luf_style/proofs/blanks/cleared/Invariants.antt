use Rattle.std.proofs.Common.{length}
use Rattle.luf_style.proofs.BlankLaws.{Clears}
use Rattle.luf_style.proofs.blanks.cleared.Given as goal

abbrev pub invariant-loop-note : goal.invariant-loop-note
invariant-loop-note l = Clears l.fn.from l.fn.count l.fn.notes l.left l.told.items

abbrev pub decreases-loop-note : goal.decreases-loop-note
decreases-loop-note l = length l.left

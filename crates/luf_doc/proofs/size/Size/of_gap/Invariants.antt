use Rattle.std.proofs.Common.{drop}
use Rattle.luf_doc.proofs.SizeLoop.{CountsNotes}
use Rattle.luf_doc.proofs.size.Size.of_gap.Given as goal

abbrev pub invariant-loop-note : goal.invariant-loop-note
invariant-loop-note l = CountsNotes l.gap.chance l.gap.notes l.size (drop l.note-index l.gap.notes)

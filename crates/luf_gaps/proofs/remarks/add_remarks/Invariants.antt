use Rattle.std.proofs.Common.{◌≡◌, ◌++◌, drop}
use Rattle.luf_gaps.specs.Gaps.{remarks}
use Rattle.luf_gaps.proofs.remarks.add_remarks.Given as goal

abbrev pub invariant-loop-note : goal.invariant-loop-note
invariant-loop-note l = l.into ++ remarks l.src l.before (drop l.note-index l.notes) ≡ l.fn.into ++ remarks l.src l.fn.blank l.notes

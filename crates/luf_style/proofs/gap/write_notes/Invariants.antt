use Rattle.std.proofs.Common.{◌≡◌, List, drop}
use Rattle.luf_doc.specs.Layout.{Piece}
use Rattle.luf_style.specs.inner.Shows.{Shows}
use Rattle.luf_style.proofs.GapLoop.{NotesLeft}
use Rattle.luf_style.proofs.gap.write_notes.Given as goal

abbrev pub invariant-loop-note : goal.invariant-loop-note
invariant-loop-note l = record {
  shown : (done : List Piece) → Shows l.page l.initial.sheet done → NotesLeft l.page l.gap l.level l.must l.had l.ends (drop l.note-index l.gap.notes) l.sheet done;
  before : l.sheet.bytes.before ≡ l.initial.sheet.bytes.before;
}

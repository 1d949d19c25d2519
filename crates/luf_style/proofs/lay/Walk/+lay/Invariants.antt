use Rattle.std.proofs.Common.{◌≡◌, ◌+◌, ◌*◌, ◌-◌, drop}
use Rattle.luf_doc.specs.Document.{document_of}
use Rattle.luf_doc.specs.Table.{node_count}
use Rattle.luf_style.specs.inner.Modes.{mode_as}
use Rattle.luf_style.proofs.LayLoop.{Laying}
use Rattle.luf_style.proofs.lay.Walk.+lay.Given as goal

abbrev pub decreases-lay : goal.decreases-lay
decreases-lay g l = 2 * (node_count (document_of l.self.now.table.now) - l.id) + 1

abbrev pub decreases-lay_inside : goal.decreases-lay_inside
decreases-lay_inside g l = 2 * (node_count (document_of l.self.now.table.now) - l.id)

abbrev pub invariant-lay_inside-loop-n : goal.invariant-lay_inside-loop-n
invariant-lay_inside-loop-n g l = record {
  laying : Laying (document_of l.self.table.now) l.self.page.now (mode_as l.at.mode) l.at.level l.id l.end (drop l.n l.children) l.initial.sheet l.sheet l.initial.steps l.steps;
  before : l.sheet.bytes.before ≡ l.initial.sheet.bytes.before;
}

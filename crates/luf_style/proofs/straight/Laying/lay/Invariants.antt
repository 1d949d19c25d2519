use Rattle.std.proofs.Common.{◌≡◌, map, drop}
use Rattle.luf_draft.specs.Flat.{shown}
use Rattle.luf_style.specs.inner.Straight.{AreWithin, Lays}
use Rattle.luf_style.proofs.straight.Laying.lay.Given as goal

abbrev pub invariant-loop-mark : goal.invariant-loop-mark
invariant-loop-mark l = record {
  lays : Lays l.lines (map (shown l.lines.written.now) l.marks) (map (shown l.lines.written.now) (drop l.mark-index l.marks)) l.initial.self l.self;
  within : AreWithin l.mark-index l.self;
  before : l.self.sheet.bytes.before ≡ l.initial.self.sheet.bytes.before;
}

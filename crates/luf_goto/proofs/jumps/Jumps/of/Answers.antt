use Rattle.std.proofs.Common.{arith}
use Rattle.luf_goto.proofs.Marks.{marks_more, marks_behind, goto_after_up}
use Rattle.luf_goto.specs.inner.Marking.{occurrence_at}
use Rattle.luf_goto.proofs.jumps.Jumps.of.Goals as goal

pub loop-o-preserved : goal.loop-o-preserved
loop-o-preserved c = record {
  roles = marks_more c.args.targets.now c.args.os.now c.loop-o.o-index (omega arith) c.loop-o.marking.roles c.mark.new.self.roles c.loop-o.marking.label c.loop-o.marking.goto c.mark.new.self.label c.mark.new.self.goto c.in_ok-mark.ensures.roles _ c.in_ok-mark.ensures.label c.in_ok-mark.ensures.goto c.loop-o.invariant.roles;
  behind = marks_behind c.args.targets.now c.args.os.now c.loop-o.o-index (omega arith) c.loop-o.marking.roles c.mark.new.self.roles c.loop-o.marking.label c.loop-o.marking.goto c.mark.new.self.label c.mark.new.self.goto c.in_ok-mark.ensures.roles c.requires c.loop-o.invariant.behind;
  count = omega (arith, goto_after_up c.loop-o.marking.goto (occurrence_at c.args.os.now c.loop-o.o-index), c.in_ok-mark.ensures.goto);
}

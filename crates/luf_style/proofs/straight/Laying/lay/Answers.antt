use Rattle.std.proofs.Common.{◌∙◌}
use Rattle.luf_style.proofs.StraightSteps.{lays_more}
use Rattle.luf_style.proofs.straight.Laying.lay.Goals as goal

pub loop-mark-preserved : goal.loop-mark-preserved
loop-mark-preserved c = record {
  lays = lays_more c.args.lines.now c.args.lines.now.written.now c.args.marks.now c.loop-mark.mark-index _ c.args.self.now c.loop-mark.self c.step.new.self c.loop-mark.invariant.lays c.loop-mark-test.true c.in_ok-step.ensures.ok;
  within = c.in_ok-step.ensures.within c.loop-mark.mark-index c.loop-mark.invariant.within;
  before = c.in_ok-step.ensures.before ∙ c.loop-mark.invariant.before;
}

use Rattle.std.proofs.Common.{arith}
use Rattle.luf_style.proofs.FillSteps.{leads_more, fill_end}
use Rattle.luf_style.proofs.filling.fill.Goals as goal

pub loop-n-preserved : goal.loop-n-preserved
loop-n-preserved c = leads_more c.args.written.now c.args.marks.now c.args.gaps.items c.loop-n.n _ c.behind.result.now c.loop-n.filling c.step.new.self c.loop-n.invariant (omega arith) c.behind.ensures c.in_ok-step.ensures

pub returns : goal.returns
returns c = fill_end c.args.written.now c.args.marks.now c.args.gaps.items c.loop-n.n c.loop-n.filling c.loop-n.invariant (omega arith) c.last_of.result c.last_of.ensures

use Rattle.std.proofs.Common.{arith}
use Rattle.luf_style.proofs.GapSteps.{goes_end}
use Rattle.luf_style.proofs.openings.filled_gaps.Goals as goal

pub returns : goal.returns
returns c = goes_end c.args.written.now c.args.marks.now c.args.notes c.loop-n.n c.loop-n.openings c.loop-n.invariant (omega arith)

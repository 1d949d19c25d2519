-- A gap's size is known, and its lead.
use Rattle.luf_style.proofs.MeasureSteps.{gap_step}
use Rattle.luf_style.proofs.measuring.Measuring.gap_before.Goals as goal

pub returns : goal.returns
returns c = λ m is. gap_step c.args.gap.now c.of_gap.result c.then-self.result c.lead_before_gap-self.result m c.args.self.now c.of_gap.ensures c.lead_before_gap-self.ensures c.then-self.ensures is

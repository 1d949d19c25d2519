use Rattle.std.proofs.Common.{◌∙◌, sym, arith}
use Rattle.luf_goto.specs.inner.Leaps.{has_none}
use Rattle.luf_goto.proofs.Leaping.{goes_on}
use Rattle.luf_goto.proofs.leaps.first_missing.Goals as goal

pub loop-i-preserved : goal.loop-i-preserved
loop-i-preserved c = sym (goes_on has_none c.args.gotos.now c.args.targets.now c.loop-i.i (omega arith) (omega arith) (sym c.is_missing.ensures ∙ c.if-is_missing.false)) ∙ c.loop-i.invariant

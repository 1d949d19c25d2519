use Rattle.std.proofs.Common.{◌∙◌, arith}
use Rattle.luf_scope.proofs.Started.{told_here, told_none}
use Rattle.luf_scope.proofs.marks.mark_from.Goals as goal

pub returns-then-mark-token : goal.returns-then-mark-token
returns-then-mark-token g c = c.if_at.ensures ∙ told_here c.args.marks.now c.args.token c.loop-place.place c.requires.rising c.loop-place.invariant c.index-marks-place.result (omega (arith, c.loop-place-test.true)) c.index-marks-place.is (omega (arith, c.if-mark-token.true))

pub returns : goal.returns
returns g c = told_none c.args.marks.now c.args.token c.loop-place.place c.requires.rising c.loop-place.invariant (omega (arith, c.loop-place-test.false))

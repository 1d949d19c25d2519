use Rattle.std.proofs.Common.{sym, ◌∙◌, arith}
use Rattle.luf_gaps.proofs.LeftLaws.{at_kept, past_dropped}
use Rattle.luf_gaps.proofs.reader.gap_at.Goals as goal

pub returns-then-not-is_dropped : goal.returns-then-not-is_dropped
returns-then-not-is_dropped c =
    let found = at_kept c.args.src.now c.args.cut.now c.args.dropped.now c.loop-n.n c.loop-n.gap c.add_before.new.gap _ (omega (arith, c.loop-n-test.true, c.tokens-count.ensures.count, c.requires.mask))
    (sym c.is_dropped.ensures ∙ c.if-not-is_dropped.true) c.in_ok-add_before.ensures c.loop-n.invariant in
    (found.first, found.rest)

pub loop-n-preserved : goal.loop-n-preserved
loop-n-preserved c = past_dropped c.args.src.now c.args.cut.now c.args.dropped.now c.loop-n.n c.loop-n.gap c.add_before.new.gap _ (omega (arith, c.loop-n-test.true, c.tokens-count.ensures.count, c.requires.mask))
    (sym c.is_dropped.ensures ∙ c.if-not-is_dropped.false) c.in_ok-add_before.ensures c.loop-n.invariant

use Rattle.std.proofs.Common.{arith}
use Rattle.luf_interf.proofs.Rows.{passed_over, found_again}
use Rattle.luf_interf.proofs.label_rows.top.Goals as goal
use Rattle.luf_interf.proofs.label_rows.top.Goals.{then-loop-left-test+else-index-place, else-loop-left-test}

pub loop-left-preserved : goal.loop-left-preserved
loop-left-preserved c = record {
  within = omega arith;
  kept = passed_over c.args.holders.now.items c.loop-left.left c.args.place c.index.result.now c.loop-left-test.true c.loop-left.invariant.within c.index.ensures c.if-index-place.true c.loop-left.invariant.kept;
}

pub returns-else-left-eq0-clause-found : goal.returns-else-left-eq0-clause-found
returns-else-left-eq0-clause-found c = elim c.loop-left-test.branch [
  | then-loop-left-test+else-index-place w ↦ found_again c.args.holders.now.items c.loop-left.left c.args.place w.index.result.now w.loop-left-test.true c.loop-left.invariant.within w.index.ensures c.truncate.new.self.items c.index-else-left-eq0.result.now c.truncate.ensures.items c.index-else-left-eq0.ensures w.if-index-place.false c.loop-left.invariant.kept
  | else-loop-left-test w ↦ absurd (c.if-left-eq0.false (omega (arith, w.loop-left-test.false)))
]

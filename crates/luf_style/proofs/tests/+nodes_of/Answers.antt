-- One item more.
use Rattle.std.proofs.Common.{arith, lit≤}
use Rattle.luf_style.proofs.TestLemmas.{count_first, count_more, count_last}
use Rattle.luf_style.proofs.tests.+nodes_of.Goals as goal

pub loop-item-init : goal.loop-item-init
loop-item-init t c = record {
  fits = lit≤ tt;
  counts = count_first c.args.d.now c.in-Seq.items c.as_slice-item-items.result.now c.in-Seq.is c.as_slice-item-items.ensures;
}

pub loop-item-preserved : goal.loop-item-preserved
loop-item-preserved t c = record {
  fits = omega arith;
  counts = count_more c.as_slice-item-items.result.now c.loop-item.item-index c.item-item.result _ c.loop-item.count c.nodes_of.result c.saturating_add-count.result c.loop-item-test.true c.item-item.is
      c.loop-item.invariant.counts c.nodes_of.ensures c.saturating_add-count.ensures;
}

pub returns-after-loop-item : goal.returns-after-loop-item
returns-after-loop-item t c = count_last c.as_slice-item-items.result.now c.loop-item.item-index _ c.loop-item.count c.loop-item-test.false c.loop-item.invariant.fits c.loop-item.invariant.counts

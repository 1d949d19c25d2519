use Rattle.luf_list.proofs.Kept.{kept_more}
use Rattle.luf_list.proofs.Lines.{constant_written}
use Rattle.luf_list.proofs.constants.write_constants.Goals as goal

pub loop-index-preserved : goal.loop-index-preserved
loop-index-preserved c = (
  constant_written _ _ _ _ _ _ c.loop-index-test.true c.index-consts-index.is c.in_ok-write_line.ensures.ok c.loop-index.invariant.0,
  kept_more _ _ _ _ c.loop-index.invariant.1 c.in_ok-write_line.ensures.ok,
)

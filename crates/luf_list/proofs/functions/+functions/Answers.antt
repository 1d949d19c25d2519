use Rattle.std.proofs.Common.{◌∙◌}
use Rattle.luf_list.proofs.Kept.{kept_more}
use Rattle.luf_list.proofs.Lines.{inner_written}
use Rattle.luf_list.proofs.functions.+functions.Goals as goal

pub write_inner-loop-index-preserved : goal.write_inner-loop-index-preserved
write_inner-loop-index-preserved t c = (
  inner_written _ _ _ _ _ _ _ _ c.loop-index-test.true c.index-subs-index.is (c.as_str.ensures.value ∙ c.in_ok-inner.ensures) c.in_ok-write_function.ensures.ok c.loop-index.invariant.0,
  kept_more _ _ _ _ c.loop-index.invariant.1 c.in_ok-write_function.ensures.ok,
)

use Rattle.std.proofs.Common.{arith, rules}
use Rattle.std.proofs.lemmas.Grind.{common_steps}
use Rattle.luf_goto.specs.inner.Holders.{spot_at}
use Rattle.luf_goto.proofs.Trails.{trail_later}
use Rattle.luf_goto.proofs.holders.last_holders.Goals as goal

pub last_holder-requires-clause-trail : goal.last_holder-requires-clause-trail
last_holder-requires-clause-trail c = c.loop-s.invariant.trail c.loop-s.s-index (omega arith) (omega arith)

pub loop-s-preserved : goal.loop-s-preserved
loop-s-preserved c = record {
  trail = λ k h inside.
      trail_later c.args.extents.now _ (spot_at c.args.spots.now k).place _ _ _ (c.requires.rising c.loop-s.s-index k _ (omega arith) inside) c.last_holder.ensures.trail;
  classes = search rules;
  found = grind (arith, common_steps);
}

use Rattle.luf_goto.specs.inner.Holders.{IsBound}
use Rattle.luf_goto.proofs.holders.Trail.live.Given as goal

abbrev pub invariant-loop-top : goal.invariant-loop-top
invariant-loop-top l = IsBound l.extents l.self.next l.spot.class l.spot.place l.top

abbrev pub decreases-loop-top : goal.decreases-loop-top
decreases-loop-top l = l.top

use Rattle.std.proofs.Common.{arith}
use Rattle.luf_goto.proofs.Trails.{found_is}
use Rattle.luf_goto.proofs.holders.Trail.last_holder.Goals as goal
use Rattle.luf_goto.proofs.holders.Trail.last_holder.Goals.{then-loop-self-test+else-extents-self, else-loop-self-test}

pub returns-clause-found : goal.returns-clause-found
returns-clause-found c =
    let t = c.loop-self.invariant.trail in
    found_is c.args.extents.now c.args.spot c.loop-self.self.next c.settle.result c.requires.sorted t.within t.begun
    (λ more. elim c.loop-self-test.branch [ then-loop-self-test+else-extents-self w ↦ omega arith | else-loop-self-test w ↦ omega arith ])
    c.settle.ensures.bound c.settle.ensures.last

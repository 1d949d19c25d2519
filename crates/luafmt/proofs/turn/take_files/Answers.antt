use Rattle.std.proofs.Common.{inl, inr, arith}
use Rattle.luafmt.proofs.Turns.{through_none, through_files, halted_files, through_all}
use Rattle.luafmt.proofs.turn.take_files.Goals as goal

pub loop-name-init : goal.loop-name-init
loop-name-init g c = λ left faults. through_none c.args.job left _

pub returns-in-Err : goal.returns-in-Err
returns-in-Err g c = λ left faults.
    inr (halted_files c.args.job left c.args.names.now c.loop-name.name-index _ _ _ _ _ _ c.loop-name-test.true (c.loop-name.invariant left faults) (c.in-Err.ensures.err left faults))

pub loop-name-preserved : goal.loop-name-preserved
loop-name-preserved g c = λ left faults.
    through_files c.args.job left c.args.names.now c.loop-name.name-index _ _ _ _ _ _ _ c.loop-name-test.true c.or_next-status.ensures (c.loop-name.invariant left faults) (c.in-Ok.ensures.ok left faults)

pub returns : goal.returns
returns g c = λ left faults.
    inl (through_all c.args.job left c.args.names.now c.loop-name.name-index _ _ _ (omega arith) (c.loop-name.invariant left faults))

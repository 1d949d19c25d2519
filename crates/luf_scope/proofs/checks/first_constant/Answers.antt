use Rattle.std.proofs.Common.{None}
use Rattle.luf_scope.specs.Fault as fault
use Rattle.luf_scope.specs.declared.fault.ScopeWhat.TheVariants.{ConstAssign}
use Rattle.luf_scope.specs.declared.occurrence.Occurrence.TheVariants.{Local}
use Rattle.luf_scope.specs.Local.{locals_of}
use Rattle.luf_scope.specs.inner.Scopes.{meaning_of}
use Rattle.luf_scope.proofs.Mapped.{given_at}
use Rattle.luf_scope.proofs.Firsts.{found_here, not_here, nowhere}
use Rattle.luf_scope.proofs.checks.first_constant.Goals as goal

pub returns-in-Some : goal.returns-in-Some
returns-in-Some c = λ spelled mean are. found_here ConstAssign (fault.constant_assigned spelled c.args.os.now) c.args.os.now c.loop-i.i (Local 0 None 0 0) c.in-Some.token c.loop-i-test.true (c.in-Some.ensures spelled c.args.os.now (given_at (meaning_of spelled (locals_of spelled c.args.os.now)) c.args.os.now c.args.meanings.now c.loop-i.i (Local 0 None 0 0) c.meaning_at.result mean c.loop-i-test.true c.meaning_at.ensures) are) (c.loop-i.invariant spelled mean are)

pub loop-i-preserved : goal.loop-i-preserved
loop-i-preserved c = λ spelled mean are. not_here ConstAssign (fault.constant_assigned spelled c.args.os.now) c.args.os.now c.loop-i.i (Local 0 None 0 0) c.loop-i-test.true (c.in_default.ensures spelled c.args.os.now (given_at (meaning_of spelled (locals_of spelled c.args.os.now)) c.args.os.now c.args.meanings.now c.loop-i.i (Local 0 None 0 0) c.meaning_at.result mean c.loop-i-test.true c.meaning_at.ensures) are) (c.loop-i.invariant spelled mean are)

pub returns : goal.returns
returns c = λ spelled mean are. nowhere ConstAssign (fault.constant_assigned spelled c.args.os.now) c.args.os.now c.loop-i.i c.loop-i-test.false (c.loop-i.invariant spelled mean are)

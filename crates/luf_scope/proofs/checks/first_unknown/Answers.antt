use Rattle.std.proofs.Common.{None}
use Rattle.luf_scope.specs.Fault as fault
use Rattle.luf_scope.specs.Links.{spelling_in}
use Rattle.luf_scope.specs.declared.fault.ScopeWhat.TheVariants.{UnknownAttribute}
use Rattle.luf_scope.specs.declared.occurrence.Occurrence.TheVariants.{Local}
use Rattle.luf_scope.proofs.Firsts.{found_here, not_here}
use Rattle.luf_scope.proofs.checks.first_unknown.Goals as goal

pub returns-in-Some : goal.returns-in-Some
returns-in-Some c = found_here UnknownAttribute (fault.unknown_attribute (spelling_in c.args.src.now c.args.cut.now) c.args.os.now) c.args.os.now c.loop-o.o-index (Local 0 None 0 0) c.in-Some.token c.loop-o-test.true (c.in-Some.ensures c.args.os.now) c.loop-o.invariant

pub loop-o-preserved : goal.loop-o-preserved
loop-o-preserved c = not_here UnknownAttribute (fault.unknown_attribute (spelling_in c.args.src.now c.args.cut.now) c.args.os.now) c.args.os.now c.loop-o.o-index (Local 0 None 0 0) c.loop-o-test.true (c.in_default.ensures c.args.os.now) c.loop-o.invariant

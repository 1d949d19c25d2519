use Rattle.std.proofs.Common.{◌≡◌, drop}
use Rattle.luf_scope.specs.Fault as fault
use Rattle.luf_scope.specs.Links.{spelling_in}
use Rattle.luf_scope.specs.declared.fault.ScopeWhat.TheVariants.{UnknownAttribute}
use Rattle.luf_scope.specs.inner.Laid.{first_at}
use Rattle.luf_scope.proofs.checks.first_unknown.Given as goal

abbrev pub invariant-loop-o : goal.invariant-loop-o
invariant-loop-o l = first_at UnknownAttribute (fault.unknown_attribute (spelling_in l.src l.cut) l.os) (drop l.o-index l.os) ≡ first_at UnknownAttribute (fault.unknown_attribute (spelling_in l.src l.cut) l.os) l.os

use Rattle.std.proofs.Common.{◌≡◌, take, drop}
use Rattle.luf_scope.specs.Fault as fault
use Rattle.luf_scope.specs.Links.{spelling_in}
use Rattle.luf_scope.specs.declared.fault.ScopeWhat.TheVariants.{TwoClose}
use Rattle.luf_scope.specs.inner.Laid.{first_at, AreEnds}
use Rattle.luf_scope.proofs.checks.first_second_close.Given as goal

abbrev pub invariant-loop-o : goal.invariant-loop-o
invariant-loop-o l = record {
  ends : AreEnds (spelling_in l.src l.cut) l.ends (take l.o-index l.os);
  found : first_at TwoClose (fault.second_close (spelling_in l.src l.cut) l.os) (drop l.o-index l.os) ≡ first_at TwoClose (fault.second_close (spelling_in l.src l.cut) l.os) l.os;
}

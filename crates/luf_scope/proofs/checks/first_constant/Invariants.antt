use Rattle.std.proofs.Common.{◌≡◌, map, drop}
use Rattle.luf_scope.specs.Fault as fault
use Rattle.luf_scope.specs.Local.{Spelling, locals_of, binder_of}
use Rattle.luf_scope.specs.declared.fault.ScopeWhat.TheVariants.{ConstAssign}
use Rattle.luf_scope.specs.inner.Laid.{first_at}
use Rattle.luf_scope.specs.inner.Scopes.{meaning_of}
use Rattle.luf_scope.proofs.checks.first_constant.Given as goal

abbrev pub invariant-loop-i : goal.invariant-loop-i
invariant-loop-i l = (spelled : Spelling) → l.meanings ≡ map (meaning_of spelled (locals_of spelled l.os)) l.os → l.binders ≡ map binder_of (locals_of spelled l.os) → first_at ConstAssign (fault.constant_assigned spelled l.os) (drop l.i l.os) ≡ first_at ConstAssign (fault.constant_assigned spelled l.os) l.os

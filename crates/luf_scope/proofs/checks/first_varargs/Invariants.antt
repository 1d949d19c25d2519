use Rattle.std.proofs.Common.{◌≡◌, ℕ, ◌≤◌, take, drop, All}
use Rattle.luf_scope.specs.Fault as fault
use Rattle.luf_scope.specs.Local.{Spelling, functions_of}
use Rattle.luf_scope.specs.Order.{place}
use Rattle.luf_scope.specs.declared.fault.ScopeWhat.TheVariants.{VarargOutside}
use Rattle.luf_scope.specs.inner.Laid.{first_at, Tells}
use Rattle.luf_scope.proofs.checks.first_varargs.Given as goal

abbrev pub invariant-loop-o : goal.invariant-loop-o
invariant-loop-o l = record {
  tells : (later : ℕ) → All (λ u. place u ≤ later) (take l.o-index l.os) → Tells l.functions.items (functions_of (take l.o-index l.os)) later;
  found : (spelled : Spelling) → first_at VarargOutside (fault.varargs_outside spelled l.os) (drop l.o-index l.os) ≡ first_at VarargOutside (fault.varargs_outside spelled l.os) l.os;
}

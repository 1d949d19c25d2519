use Rattle.std.proofs.Common.{◌≡◌, ◌+◌, ◌++◌, count_by, drop, map}
use Rattle.luf_scope.specs.Local.{Spelling, binder_of, locals_of}
use Rattle.luf_scope.specs.Order.{declares}
use Rattle.luf_interf.specs.inner.Owners.{scopes_from}
use Rattle.luf_interf.proofs.scoping.scopes_of.Given as goal

abbrev pub invariant-loop-o : goal.invariant-loop-o
invariant-loop-o l = record {
  count : l.local + count_by declares (drop l.o-index l.os) ≡ count_by declares l.os;
  ahead : (spelled : Spelling) → drop l.local (locals_of spelled l.os) ≡ locals_of spelled (drop l.o-index l.os);
  added : (spelled : Spelling) → l.binders ≡ map binder_of (locals_of spelled l.os) → l.found.items ++ scopes_from l.local (locals_of spelled (drop l.o-index l.os)) ≡ scopes_from 0 (locals_of spelled l.os);
}

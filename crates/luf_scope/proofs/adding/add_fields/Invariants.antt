use Rattle.std.proofs.Common.{◌≡◌, ◌++◌, map, drop}
use Rattle.luf_scope.specs.declared.occurrence.Occurrence.TheVariants.{Field}
use Rattle.luf_scope.specs.inner.Kept.{kept}
use Rattle.luf_scope.proofs.adding.add_fields.Given as goal

abbrev pub invariant-loop-name : goal.invariant-loop-name
invariant-loop-name l = l.into.items ++ kept l.all (map Field (drop l.name-index l.names)) ≡ l.fn.into.items ++ kept l.all (map Field (l.names))

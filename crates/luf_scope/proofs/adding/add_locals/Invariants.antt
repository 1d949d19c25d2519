use Rattle.std.proofs.Common.{◌≡◌, ◌++◌, map, drop}
use Rattle.luf_tree.specs.SyntaxOf.{declared_of}
use Rattle.luf_scope.specs.Occurrences.{declared_locals}
use Rattle.luf_scope.specs.inner.Kept.{kept}
use Rattle.luf_scope.proofs.adding.add_locals.Given as goal

abbrev pub invariant-loop-d : goal.invariant-loop-d
invariant-loop-d l = l.into.items ++ kept l.all (declared_locals l.from l.to (map declared_of (drop l.d-index l.names))) ≡ l.fn.into.items ++ kept l.all (declared_locals l.from l.to (map declared_of (l.names)))

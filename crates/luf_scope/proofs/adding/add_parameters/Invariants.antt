use Rattle.std.proofs.Common.{◌≡◌, ◌++◌, drop}
use Rattle.luf_tree.specs.TokenSyntax.{from_to}
use Rattle.luf_scope.specs.Occurrences.{parameters_of}
use Rattle.luf_scope.specs.inner.Kept.{kept}
use Rattle.luf_scope.proofs.adding.add_parameters.Given as goal

abbrev pub invariant-loop-name : goal.invariant-loop-name
invariant-loop-name l = l.into.items ++ kept l.all (parameters_of (from_to l.from l.to) (drop l.name-index l.names)) ≡ l.fn.into.items ++ kept l.all (parameters_of (from_to l.from l.to) (l.names))

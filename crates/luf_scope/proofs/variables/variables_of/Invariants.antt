use Rattle.std.proofs.Common.{drop}
use Rattle.luf_scope.specs.Links.{spelling_in}
use Rattle.luf_scope.specs.Local.{locals_of}
use Rattle.luf_scope.proofs.Varied.{AreRead}
use Rattle.luf_scope.proofs.variables.variables_of.Given as goal

abbrev pub invariant-loop-o : goal.invariant-loop-o
invariant-loop-o l = AreRead (locals_of (spelling_in l.src l.cut) l.os) (locals_of (spelling_in l.src l.cut) (drop l.o-index l.os)) l.local l.found.names.buckets.items l.found.binders.items l.found.scopes.items

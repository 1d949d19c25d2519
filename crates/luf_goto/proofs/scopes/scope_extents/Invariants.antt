use Rattle.std.proofs.Common.{◌≡◌, take}
use Rattle.std.specs.List.{filter_map}
use Rattle.luf_goto.specs.inner.Rows.{scope_extent}
use Rattle.luf_goto.proofs.scopes.scope_extents.Given as goal

abbrev pub invariant-loop-o : goal.invariant-loop-o
invariant-loop-o l = l.extents.items ≡ filter_map scope_extent (take l.o-index l.os)

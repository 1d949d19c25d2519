use Rattle.std.proofs.Common.{◌≡◌, take}
use Rattle.std.specs.List.{filter_map}
use Rattle.luf_goto.specs.inner.Sites.{function_extent}
use Rattle.luf_goto.proofs.sites.functions_in.Given as goal

abbrev pub invariant-loop-o : goal.invariant-loop-o
invariant-loop-o l = l.functions.items ≡ filter_map function_extent (take l.o-index l.os)

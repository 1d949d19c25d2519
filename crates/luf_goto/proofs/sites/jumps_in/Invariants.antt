use Rattle.std.proofs.Common.{◌≡◌, take}
use Rattle.std.specs.List.{filter_map}
use Rattle.luf_goto.specs.inner.Sites.{jump_of}
use Rattle.luf_goto.proofs.sites.jumps_in.Given as goal

abbrev pub invariant-loop-o : goal.invariant-loop-o
invariant-loop-o l = l.jumps.items ≡ filter_map jump_of (take l.o-index l.os)

use Rattle.std.proofs.Common.{◌≡◌, map, take}
use Rattle.luf_goto.specs.inner.Sites.{stop_at}
use Rattle.luf_goto.proofs.sites.stops_of.Given as goal

abbrev pub invariant-loop-o : goal.invariant-loop-o
invariant-loop-o l = l.stops.items ≡ map stop_at (take l.o-index l.os)

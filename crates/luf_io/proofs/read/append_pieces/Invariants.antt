use Rattle.std.proofs.Common.{◌≡◌, ◌+◌, List, ℕ, ◌++◌, length}
use Rattle.luf_io.specs.Source.{Taken}
use Rattle.luf_io.proofs.read.append_pieces.Given as goal

-- what was taken so far was appended, and it and the room left are the limit; nothing failed
abbrev pub invariant-loop-count : goal.invariant-loop-count
invariant-loop-count g l =
    record {
      pulled : List ℕ;
      taken : Taken (g.I.Source.left l.initial.i) pulled (g.I.Source.left l.i);
      appended : l.into.items ≡ l.initial.into.items ++ pulled;
      limit : length pulled + l.room ≡ l.most;
      calm : g.I.Source.faults l.i ≡ g.I.Source.faults l.initial.i;
    }

abbrev pub decreases-loop-count : goal.decreases-loop-count
decreases-loop-count g l = l.room

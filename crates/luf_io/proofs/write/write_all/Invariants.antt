use Rattle.std.proofs.Common.{length, ◌-◌, ◌≡◌, ◌≤◌, take}
use Rattle.luf_io.specs.Sink.{Appends}
use Rattle.luf_io.proofs.write.write_all.Given as goal

-- what was put so far is the front of the bytes, and nothing failed
abbrev pub invariant-loop-done : goal.invariant-loop-done
invariant-loop-done g l =
    record {
      within : l.done ≤ length l.bytes;
      put : Appends (g.O.Sink.written l.initial.o) (take l.done l.bytes) (g.O.Sink.written l.o);
      calm : g.O.Sink.faults l.o ≡ g.O.Sink.faults l.initial.o;
    }

abbrev pub decreases-loop-done : goal.decreases-loop-done
decreases-loop-done g l = length l.bytes - l.done

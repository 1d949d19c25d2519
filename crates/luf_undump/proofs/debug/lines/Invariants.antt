use Rattle.std.proofs.Common.{◌≡◌, ◌-◌}
use Rattle.luf_undump.specs.Reading.{skip_at, line_at}
use Rattle.luf_undump.proofs.debug.lines.Given as goal

abbrev pub invariant-loop : goal.invariant-loop
invariant-loop l = skip_at line_at (l.count - l.counter) l.rest ≡ skip_at line_at l.count l.bytes

use Rattle.std.proofs.Common.{◌≡◌, ◌-◌}
use Rattle.luf_undump.specs.Reading.{skip_at, debug_string_at}
use Rattle.luf_undump.proofs.debug.names.Given as goal

abbrev pub invariant-loop : goal.invariant-loop
invariant-loop l = skip_at debug_string_at (l.count - l.counter) l.rest ≡ skip_at debug_string_at l.count l.bytes

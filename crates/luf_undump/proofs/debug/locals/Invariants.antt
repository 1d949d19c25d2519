use Rattle.std.proofs.Common.{◌≡◌, ◌-◌}
use Rattle.luf_undump.specs.Reading.{skip_at, local_at}
use Rattle.luf_undump.proofs.debug.locals.Given as goal

abbrev pub invariant-loop : goal.invariant-loop
invariant-loop l = skip_at local_at (l.count - l.counter) l.rest ≡ skip_at local_at l.count l.bytes

use Rattle.std.proofs.Common.{◌≡◌, ◌-◌}
use Rattle.luf_undump.specs.Reading.{many_at, constant_at}
use Rattle.luf_undump.proofs.Loop.{with_front}
use Rattle.luf_undump.proofs.constant.constants.Given as goal

abbrev pub invariant-loop : goal.invariant-loop
invariant-loop l = with_front l.constants.items (many_at constant_at (l.count - l.counter) l.rest) ≡ many_at constant_at l.count l.bytes

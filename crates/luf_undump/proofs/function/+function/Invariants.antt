use Rattle.std.proofs.Common.{◌≡◌, ◌-◌, ◌+◌, ◌*◌, map, None}
use Rattle.luf_proto.specs.FunctionOf.{function_of}
use Rattle.luf_undump.specs.Reading.{function_at, many_at}
use Rattle.luf_undump.proofs.Loop.{with_front}
use Rattle.luf_undump.proofs.function.+function.Given as goal

abbrev pub decreases-function : goal.decreases-function
decreases-function l = 2 * l.levels

abbrev pub decreases-functions : goal.decreases-functions
decreases-functions l = 2 * l.levels + 1

abbrev pub invariant-functions-loop : goal.invariant-functions-loop
invariant-functions-loop l = with_front (map function_of l.subs.items) (many_at (function_at l.levels None) (l.count - l.counter) l.rest) ≡ many_at (function_at l.levels None) l.count l.bytes

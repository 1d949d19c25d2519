use Rattle.std.proofs.Common.{map, take}
use Rattle.luf_proto.specs.FunctionOf.{function_of}
use Rattle.luf_chunk.specs.inner.Written.{WritesList}
use Rattle.luf_chunk.proofs.chunk.+function.Given as goal

abbrev pub invariant-append_functions-loop-sub : goal.invariant-append_functions-loop-sub
invariant-append_functions-loop-sub l = WritesList (map function_of (take l.sub-index l.subs)) l.initial.into.items l.into.items

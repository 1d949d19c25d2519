use Rattle.std.proofs.Common.{◌≡◌, ◌++◌, length, take}
use Rattle.std.specs.List.{flat_map}
use Rattle.luf_proto.specs.Chunk.{size, upvalue_bytes}
use Rattle.luf_chunk.proofs.field.append_upvalues.Given as goal

abbrev pub invariant-loop-upvalue : goal.invariant-loop-upvalue
invariant-loop-upvalue l = l.into.items ≡ l.fn.into.items ++ size (length l.upvalues) ++ flat_map upvalue_bytes (take l.upvalue-index l.upvalues)

use Rattle.std.proofs.Common.{◌≡◌, ◌++◌, length, take}
use Rattle.std.specs.List.{flat_map}
use Rattle.luf_proto.specs.Chunk.{size, word_bytes}
use Rattle.luf_chunk.proofs.field.append_code.Given as goal

abbrev pub invariant-loop-word : goal.invariant-loop-word
invariant-loop-word l = l.into.items ≡ l.fn.into.items ++ size (length l.code) ++ flat_map word_bytes (take l.word-index l.code)

use Rattle.std.proofs.Common.{take}
use Rattle.luf_chunk.specs.inner.Written.{WritesConstants}
use Rattle.luf_chunk.proofs.constant.append_each.Given as goal

abbrev pub invariant-loop-constant : goal.invariant-loop-constant
invariant-loop-constant l = WritesConstants (take l.constant-index l.constants) l.initial.into.items l.into.items

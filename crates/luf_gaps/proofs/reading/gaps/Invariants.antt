use Rattle.std.proofs.Common.{◌≡◌, [], ◌++◌, length}
use Rattle.luf_tree.specs.SyntaxOf.{syntax_of}
use Rattle.luf_bare.specs.Dropped.{dropped_block}
use Rattle.luf_gaps.specs.Gaps.{gaps}
use Rattle.luf_gaps.proofs.reading.gaps.Given as goal

abbrev pub invariant-loop-alloc : goal.invariant-loop-alloc
invariant-loop-alloc l = l.found.items ++ l.reader ≡ gaps l.src l.cut (dropped_block (syntax_of l.c) [])

abbrev pub decreases-loop-alloc : goal.decreases-loop-alloc
decreases-loop-alloc l = length l.reader

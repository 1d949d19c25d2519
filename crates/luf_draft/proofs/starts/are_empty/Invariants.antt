use Rattle.std.proofs.Common.{◌≡◌, map, drop}
use Rattle.luf_tree.specs.SyntaxOf.{syntax_of_stat, statements_of}
use Rattle.luf_draft.specs.inner.Marks.{are_empty}
use Rattle.luf_draft.proofs.starts.are_empty.Given as goal

abbrev pub invariant-loop-s : goal.invariant-loop-s
invariant-loop-s l = are_empty (statements_of (map syntax_of_stat (drop l.s-index l.stats))) ≡ are_empty (statements_of (map syntax_of_stat l.stats))

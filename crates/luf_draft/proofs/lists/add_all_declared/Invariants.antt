use Rattle.std.proofs.Common.{◌≡◌, ◌++◌, drop, true}
use Rattle.luf_tree.specs.SyntaxOf.{declared_of}
use Rattle.luf_draft.specs.declared.mark.GapKind.TheVariants.{Space}
use Rattle.luf_draft.specs.inner.Marks.{listed, comma_and, declared_mark}
use Rattle.luf_draft.proofs.lists.add_all_declared.Given as goal

abbrev pub invariant-loop-d : goal.invariant-loop-d
invariant-loop-d l = l.into.items ++ listed (comma_and Space) (λ d. declared_mark (declared_of d)) l.first (drop l.d-index l.names) ≡ l.fn.into.items ++ listed (comma_and Space) (λ d. declared_mark (declared_of d)) true l.names

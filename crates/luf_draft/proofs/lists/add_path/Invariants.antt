use Rattle.std.proofs.Common.{◌≡◌, ◌++◌, drop, true}
use Rattle.luf_draft.specs.inner.Marks.{listed, dot_marks, token_mark}
use Rattle.luf_draft.proofs.lists.add_path.Given as goal

abbrev pub invariant-loop-name : goal.invariant-loop-name
invariant-loop-name l = l.into.items ++ listed dot_marks token_mark l.first (drop l.name-index l.path) ≡ l.fn.into.items ++ listed dot_marks token_mark true l.path

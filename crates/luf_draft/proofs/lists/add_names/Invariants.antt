use Rattle.std.proofs.Common.{◌≡◌, ◌++◌, drop, true}
use Rattle.luf_draft.specs.inner.Marks.{listed, comma_and, token_mark}
use Rattle.luf_draft.proofs.lists.add_names.Given as goal

abbrev pub invariant-loop-name : goal.invariant-loop-name
invariant-loop-name l = l.into.items ++ listed (comma_and l.gap) token_mark l.first (drop l.name-index l.names) ≡ l.fn.into.items ++ listed (comma_and l.gap) token_mark true l.names

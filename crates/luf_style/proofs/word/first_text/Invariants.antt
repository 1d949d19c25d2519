use Rattle.std.proofs.Common.{◌≡◌, drop, map}
use Rattle.luf_draft.specs.Flat.{shown}
use Rattle.luf_style.specs.inner.Running.{first_flat}
use Rattle.luf_style.proofs.word.first_text.Given as goal

abbrev pub invariant-loop-mark : goal.invariant-loop-mark
invariant-loop-mark l = first_flat (map (shown l.written) (drop l.mark-index l.marks)) ≡ first_flat (map (shown l.written) l.marks)

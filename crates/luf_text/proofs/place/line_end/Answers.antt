-- A pair is one line end, and so is any other byte of a line end.
use Rattle.std.proofs.Common.{sym, ◌∙◌, arith}
use Rattle.luf_text.proofs.Places.{at_pair, at_single, at_last}
use Rattle.luf_text.proofs.place.line_end.Goals as goal
use Rattle.luf_text.proofs.place.line_end.Goals.{else-first-src-via-then-first-src+else-is_line_pair, else-first-src-via-else-first-src}

pub returns-then-is_line_pair-clause-next : goal.returns-then-is_line_pair-clause-next
returns-then-is_line_pair-clause-next c =
    at_pair c.args.src.now c.args.first (omega arith) (sym c.is_line_pair.ensures ∙ c.if-is_line_pair.true)

pub returns-else-first-src-clause-next : goal.returns-else-first-src-clause-next
returns-else-first-src-clause-next c = elim c.else-first-src.branch [
  | else-first-src-via-then-first-src+else-is_line_pair w ↦
      at_single c.args.src.now c.args.first (omega arith) c.requires.at_line_byte (sym w.is_line_pair.ensures ∙ w.if-is_line_pair.false)
  | else-first-src-via-else-first-src w ↦ at_last c.args.src.now c.args.first (omega arith) c.requires.at_line_byte
]

-- No line ends before the first byte of a line end.
use Rattle.std.proofs.Common.{◌∙◌, arith, drop}
use Rattle.luf_text.proofs.Places.{past_to_first, none_begun_in, none_begun_before}
use Rattle.luf_text.proofs.place.next_start.Goals as goal

pub returns-in_err-found-clause-none : goal.returns-in_err-found-clause-none
returns-in_err-found-clause-none c = rw c.from_residual.ensures (
    none_begun_in c.args.src.now c.args.from c.args.at c.requires.order c.requires.within c.in_err-found.ensures)

pub returns-then-next-at-clause-some : goal.returns-then-next-at-clause-some
returns-then-next-at-clause-some c =
    past_to_first c.args.src.now c.args.from c.args.at c.requires.order c.requires.within c.in_ok-found.found c.in_ok-found.ensures.0
    ∙ c.line_end-next.ensures.next

pub returns-else-next-at-clause-none : goal.returns-else-next-at-clause-none
returns-else-next-at-clause-none c =
    rw (past_to_first c.args.src.now c.args.from c.args.at c.requires.order c.requires.within c.in_ok-found.found c.in_ok-found.ensures.0)
    (rw c.line_end-next.ensures.next
    (none_begun_before c.args.at c.line_end-next.result (drop c.line_end-next.result c.args.src.now) (omega arith)))

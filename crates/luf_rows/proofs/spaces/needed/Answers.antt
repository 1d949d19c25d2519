use Rattle.std.proofs.Common.{sym}
use Rattle.luf_guard.proofs.Spellings.{spelling_at}
use Rattle.luf_rows.proofs.spaces.needed.Goals as goal

pub needs_space-requires-clause-left : goal.needs_space-requires-clause-left
needs_space-requires-clause-left g c = spelling_at c.args.src.now _ c.in_ok-cut.ensures.ok 0 c.in-Some.left.now (sym c.in-Some.ensures)

pub needs_space-requires-clause-right : goal.needs_space-requires-clause-right
needs_space-requires-clause-right g c = spelling_at c.args.src.now _ c.in_ok-cut.ensures.ok 1 c.in-Some-spelling.right.now (sym c.in-Some-spelling.ensures)

use Rattle.std.proofs.Common.{◌++◌}
use Rattle.luf_io.proofs.Pieces.{Taken-append, PullsWithin-append}
use Rattle.luf_io.proofs.read.append_pieces.Goals as goal

pub returns-in-Err-clause-pulled : goal.returns-in-Err-clause-pulled
returns-in-Err-clause-pulled g c =
    let w = c.loop-count.invariant in
    let last = c.in-Err.ensures.pulled in (
      w.pulled ++ last.0,
      Taken-append _ _ _ _ _ w.taken last.1,
      PullsWithin-append c.in-Err.error w.pulled last.0 c.loop-count.room _ w.limit last.2,
      tt,
    )

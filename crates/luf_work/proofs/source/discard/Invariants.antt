use Rattle.std.proofs.Common.{length}
use Rattle.luf_work.proofs.source.discard.Given as goal

abbrev pub decreases-loop-stat : goal.decreases-loop-stat
decreases-loop-stat l = length l.stats

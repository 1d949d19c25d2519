use Rattle.std.proofs.Common.{◌≡◌, drop}
use Rattle.luf_goto.specs.inner.Firsts.{first_where, is_held}
use Rattle.luf_goto.proofs.firsts.first_spot.Given as goal

abbrev pub invariant-loop-i : goal.invariant-loop-i
invariant-loop-i l = first_where (is_held l.extents l.held) (drop l.i l.spots) ≡ first_where (is_held l.extents l.held) l.spots

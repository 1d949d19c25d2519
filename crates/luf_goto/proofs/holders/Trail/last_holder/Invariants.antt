use Rattle.std.proofs.Common.{◌≡◌, ◌-◌, length, vec_len}
use Rattle.luf_goto.specs.inner.Holders.{IsTrail}
use Rattle.luf_goto.proofs.holders.Trail.last_holder.Given as goal

abbrev pub invariant-loop-self : goal.invariant-loop-self
invariant-loop-self l = record {
  trail : IsTrail l.extents l.spot.place l.self.next l.self.last.items l.self.before.items;
  classes : vec_len l.self.last ≡ vec_len l.fn.self.last;
}

abbrev pub decreases-loop-self : goal.decreases-loop-self
decreases-loop-self l = length l.extents - l.self.next

use Rattle.std.proofs.Common.{◌≡◌, ℕ, ◌<◌, ◌≤◌, length, map, take, vec_len}
use Rattle.luf_goto.specs.inner.Holders.{last_holding, one_higher, spot_at, IsTrail}
use Rattle.luf_goto.proofs.holders.last_holders.Given as goal

abbrev pub invariant-loop-s : goal.invariant-loop-s
invariant-loop-s l = record {
  trail : (k : ℕ) → l.s-index ≤ k → k < length l.spots → IsTrail l.extents (spot_at l.spots k).place l.trail.next l.trail.last.items l.trail.before.items;
  classes : vec_len l.trail.last ≡ l.classes;
  found : l.found.items ≡ map (λ s. one_higher (last_holding l.extents s)) (take l.s-index l.spots);
}

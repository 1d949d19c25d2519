use Rattle.std.proofs.Common.{ℕ, List, ◌/◌, ◌<◌, length, sym, subst, arith}
use Rattle.luf_interf.proofs.Above.{above_set}
use Rattle.luf_interf.proofs.maxima.Maxima.set.Goals as goal

pub invariant_of-self : goal.invariant_of-self
invariant_of-self c =
    let place = c.args.place in
    let room = c.self.invariant.first.room in
    let more = c.self.invariant.second.room in
    let within = subst (λ (l : List ℕ). place < length l) (sym c.self.view_is) c.requires in
    record {
      first = above_set c.self.inside.numbers.items c.self.inside.blocks.items c.as_slice.result.now place c.args.number c.greatest.result within c.as_slice.ensures.value c.greatest.ensures c.self.invariant.first;
      second = above_set c.self.inside.blocks.items c.self.inside.groups.items c.as_slice-2.result.now (place / 64) c.greatest.result c.greatest-2.result (omega (arith, within, room)) c.as_slice-2.ensures.value c.greatest-2.ensures c.self.invariant.second;
      third = above_set c.self.inside.groups.items c.self.inside.tops.items c.as_slice-3.result.now (place / 64 / 64) c.greatest-2.result c.greatest-3.result (omega (arith, within, room, more)) c.as_slice-3.ensures.value c.greatest-3.ensures c.self.invariant.third;
    }

use Rattle.std.proofs.Common.{length, suc, ap, ◌≡◌, ◌≤◌, ◌-◌, arith}
use Rattle.luf_gaps.specs.inner.Left.{left_at}
use Rattle.luf_gaps.proofs.LeftLaws.{most_left}
use Rattle.luf_gaps.proofs.reader.GapReader.at_most.Goals as goal

pub returns : goal.returns
returns c =
    let most : length (left_at c.self.inside.src.now c.self.inside.cut.now c.self.inside.dropped.items c.self.inside.next) ≤ suc (length c.self.inside.dropped.items) - c.self.inside.next = most_left c.self.inside.src.now c.self.inside.cut.now c.self.inside.dropped.items c.self.inside.next in
    let is : length (left_at c.self.inside.src.now c.self.inside.cut.now c.self.inside.dropped.items c.self.inside.next) ≡ length c.args.self.now = ap length c.self.view_is in
    omega (arith, most, is, c.saturating_sub.ensures, c.self.invariant.1, c.tokens.ensures.count)

use Rattle.std.proofs.Common.{length, ap, arith}
use Rattle.luf_style.proofs.GapListLaws.{gaps_count}
use Rattle.luf_style.proofs.gap_list.GapList.len.Goals as goal

pub returns : goal.returns
returns c =
    let count = gaps_count c.self.inside.kinds.items c.self.inside.rows.items in
    let same = ap length c.self.view_is in
    omega (arith, c.len.ensures, count, same)

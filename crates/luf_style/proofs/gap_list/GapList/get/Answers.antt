-- The kind of a place is the gap there.
use Rattle.std.proofs.Common.{length, get_or, ap, ◌∙◌, arith}
use Rattle.luf_style.proofs.GapListLaws.{gaps_count, gap_at, row_within}
use Rattle.luf_style.proofs.gap_list.GapList.get.Goals as goal

pub index-requires : goal.index-requires
index-requires c =
    let count = gaps_count c.self.inside.kinds.items c.self.inside.rows.items in
    let same = ap length c.self.view_is in
    omega (arith, c.requires, count, same)

pub index-requires-2 : goal.index-requires-2
index-requires-2 c =
    let count = gaps_count c.self.inside.kinds.items c.self.inside.rows.items in
    let same = ap length c.self.view_is in
    let low = row_within (length c.self.inside.kinds.items) c.self.inside.rows.items c.args.n c.index.result.now c.self.invariant (omega (arith, c.requires, count, same)) c.index.ensures in
    omega (arith, low)

pub returns : goal.returns
returns c =
    let count = gaps_count c.self.inside.kinds.items c.self.inside.rows.items in
    let same = ap length c.self.view_is in
    gap_at c.self.inside.kinds.items c.self.inside.rows.items c.args.n c.index.result.now c.index-2.result.now c.self.invariant (omega (arith, c.requires, count, same)) c.index.ensures c.index-2.ensures
    ∙ ap (λ gaps. get_or gaps c.args.n c.index-2.result.now) c.self.view_is

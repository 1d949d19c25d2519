use Rattle.luf_interf.proofs.BarredNumbers.{barred_by_none, barred_by_all}
use Rattle.luf_interf.proofs.barring.heads_of.Goals as goal

pub returns : goal.returns
returns c =
    let b0 = barred_by_none c.args.size c.in_ok-heads.heads c.in_ok-heads.ensures in
    let b1 = c.bar.ensures.barred _ c.args.size b0 in
    let b2 = c.bar-2.ensures.barred _ c.args.size b1 in
    let b3 = c.bar-3.ensures.barred _ c.args.size b2 in
    let b4 = c.bar-4.ensures.barred _ c.args.size b3 in
    let b5 = c.bar-5.ensures.barred _ c.args.size b4 in
    let b6 = c.bar-6.ensures.barred _ c.args.size b5 in
    let b7 = c.bar-7.ensures.barred _ c.args.size b6 in
    let b8 = c.bar-8.ensures.barred _ c.args.size b7 in
    let b9 = c.bar-9.ensures.barred _ c.args.size b8 in
    let b10 = c.bar-10.ensures.barred _ c.args.size b9 in
    let b11 = c.bar-11.ensures.barred _ c.args.size b10 in
    let b12 = c.bar-12.ensures.barred _ c.args.size b11 in
    let b13 = c.bar-13.ensures.barred _ c.args.size b12 in
    let b14 = c.bar-14.ensures.barred _ c.args.size b13 in
    let b15 = c.bar-15.ensures.barred _ c.args.size b14 in
    let b16 = c.bar-16.ensures.barred _ c.args.size b15 in
    let b17 = c.bar-17.ensures.barred _ c.args.size b16 in
    let b18 = c.bar-18.ensures.barred _ c.args.size b17 in
    let b19 = c.bar-19.ensures.barred _ c.args.size b18 in
    let b20 = c.bar-20.ensures.barred _ c.args.size b19 in
    let b21 = c.bar-21.ensures.barred _ c.args.size b20 in
    let b22 = c.bar-22.ensures.barred _ c.args.size b21 in
    let b23 = c.bar-23.ensures.barred _ c.args.size b22 in
    let b24 = c.bar-24.ensures.barred _ c.args.size b23 in
    barred_by_all c.args.size c.bar-24.new.heads b24

use Rattle.std.proofs.Common.{[], refl, arith}
use Rattle.std.proofs.lemmas.Result.{on_ok_weaker}
use Rattle.luf_style.proofs.StraightWritten.{straight_written}
use Rattle.luf_style.proofs.TapeLaws.{gaps_counted}
use Rattle.luf_style.proofs.WrittenLaws.{written_texts}
use Rattle.luf_style.proofs.straight.write_styled.Goals as goal

pub filled_gaps-requires : goal.filled_gaps-requires
filled_gaps-requires c = written_texts c.args.src.now c.args.cut.now c.requires.cut c.args.o.now.quotes c.in_ok-written.written c.in_ok-written.ensures

pub needs_of-requires : goal.needs_of-requires
needs_of-requires c = gaps_counted [] _ c.in_ok-notes.notes c.in_ok-gaps.gaps c.in_ok-gaps.ensures

pub returns-clause-ok : goal.returns-clause-ok
returns-clause-ok c =
    on_ok_weaker c.lay_straight.result
    (λ laid.
    straight_written c.args.src.now c.args.cut.now c.args.c.now c.args.o.now c.requires.cut c.requires.tree
    c.in_ok-written.written c.in_ok-written.written c.in_ok-found.found.items c.as_slice-marks.result.now c.in_ok-notes.notes c.in_ok-gaps.gaps
    _ _ c.args.into.now.items c.lay_straight.new.into.items
    c.in_ok-written.ensures refl c.as_slice-marks.ensures.value c.in_ok-found.ensures c.in_ok-notes.ensures c.in_ok-gaps.ensures
    c.in_ok-needs.ensures refl (omega (arith, c.requires.range)) laid)
    c.lay_straight.ensures.ok

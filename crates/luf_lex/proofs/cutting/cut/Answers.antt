use Rattle.std.proofs.Common.{length, length-append, ap, arith}
use Rattle.luf_lex.specs.inner.Growing.{IsNext}
use Rattle.luf_lex.proofs.CutLemmas.{cut_more, cut_passed}
use Rattle.luf_lex.proofs.cutting.cut.Goals as goal

pub loop-at-preserved : goal.loop-at-preserved
loop-at-preserved c =
    let next : IsNext c.args.src.now c.loop-at.at c.in_ok-at-2.at c.loop-at.growing.pieces.items c.push_next.new.growing.pieces.items = c.in_ok-at-2.ensures.next in
    record {
      so_far = cut_more c.args.src.now c.loop-at.at c.in_ok-at-2.at c.loop-at.growing.pieces.items c.push_next.new.growing.pieces.items c.loop-at-test.true next c.loop-at.invariant.so_far;
      within = next.within;
      few = omega (arith, next.behind, next.few, ap length next.pieces, length-append c.loop-at.growing.pieces.items next.more, c.loop-at.invariant.few);
      grown = c.in_ok-at-2.ensures.grown;
    }

pub returns-in_err-at-2-clause-bad : goal.returns-in_err-at-2-clause-bad
returns-in_err-at-2-clause-bad c = cut_passed c.args.src.now c.loop-at.at c.loop-at.growing.pieces.items _ _ c.from_residual-in_err-at-2.ensures.1 c.in_err-at-2.ensures.bad c.loop-at.invariant.so_far

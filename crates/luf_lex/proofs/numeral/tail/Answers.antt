use Rattle.std.proofs.Common.{◌≡◌, ◌+◌, ◌-◌, length, length-drop, drop, sym, ap, ◌∙◌, arith}
use Rattle.luf_lex.specs.inner.Scan.{mark_of, step_of}
use Rattle.luf_lex.proofs.RunLemmas.{tail_is}
use Rattle.luf_lex.proofs.NumeralLemmas.{scan_on, scan_end, one_letter}
use Rattle.luf_lex.proofs.numeral.tail.Goals as goal

pub returns-then-width-eq0-clause-whole : goal.returns-then-width-eq0-clause-whole
returns-then-width-eq0-clause-whole c =
    let text = c.args.text.now in
    let at = c.loop-lower.at in
    ap (λ n. at + n) (c.letter.ensures.one ∙ ap one_letter (tail_is text at))
    ∙ scan_end c.args.lower text at c.loop-lower.invariant.whole (sym (ap (step_of (mark_of c.args.lower)) (tail_is text at)) ∙ sym c.step-width.ensures.taken ∙ c.if-width-eq0.true)

pub overflow_add-at : goal.overflow_add-at
overflow_add-at c =
    let rest : length (drop c.loop-lower.at c.args.text.now) ≡ length c.args.text.now - c.loop-lower.at = length-drop c.loop-lower.at c.args.text.now in
    omega (arith, c.step-width.ensures.within, ap length (tail_is c.args.text.now c.loop-lower.at))

pub loop-lower-preserved : goal.loop-lower-preserved
loop-lower-preserved c =
    let text = c.args.text.now in
    let at = c.loop-lower.at in
    let rest : length (drop at text) ≡ length text - at = length-drop at text in
    record {
      within = omega (arith, c.step-width.ensures.within, ap length (tail_is text at));
      whole = scan_on c.args.lower text at c.step-width.result c.requires.0 c.requires.1 c.loop-lower.invariant.whole (c.step-width.ensures.taken ∙ ap (step_of (mark_of c.args.lower)) (tail_is text at)) (omega arith);
    }

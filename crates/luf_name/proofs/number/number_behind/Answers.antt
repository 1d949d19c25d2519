use Rattle.std.proofs.Common.{refl, arith}
use Rattle.luf_name.proofs.Counting.{letter_counted, letter_grows, letters_more, all_counted, all_letters}
use Rattle.luf_name.proofs.number.number_behind.Goals as goal

pub returns-in_err-number-clause-none : goal.returns-in_err-number-clause-none
returns-in_err-number-clause-none c = λ none few letters.
    let within = c.loop-letter-test.true in
    let large = c.in_err-number.ensures.none refl (letters c.loop-letter.letter-index 0 within) in
    let grown = letter_grows c.args.rest.now c.loop-letter.letter-index within c.loop-letter.number _ c.loop-letter.invariant.rest in
    omega (arith, large, grown, few)

pub loop-letter-preserved : goal.loop-letter-preserved
loop-letter-preserved c = record {
  letters = letters_more c.args.rest.now c.loop-letter.letter-index c.loop-letter-test.true c.loop-letter.invariant.letters c.in_ok-number.ensures.some.0;
  rest = letter_counted c.args.rest.now c.loop-letter.letter-index c.loop-letter-test.true c.loop-letter.number c.in_ok-number.number _ c.in_ok-number.ensures.some.1 c.loop-letter.invariant.rest;
}

pub returns-clause-some : goal.returns-clause-some
returns-clause-some c = (
  all_letters c.args.rest.now c.loop-letter.letter-index c.loop-letter-test.false c.loop-letter.invariant.letters,
  all_counted c.args.rest.now c.loop-letter.letter-index c.loop-letter.number _ c.loop-letter-test.false c.loop-letter.invariant.rest,
)

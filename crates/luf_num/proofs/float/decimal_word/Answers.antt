-- A decimal float has one value, by its digits alone or by its parts.
use Rattle.luf_num.proofs.OneFloat.{found_decimal, none_decimal, none_integer}
use Rattle.luf_num.proofs.float.decimal_word.Goals as goal

pub returns-then-is_digits-clause-none : goal.returns-then-is_digits-clause-none
returns-then-is_digits-clause-none c = none_integer c.args.spelling.now c.word_of_integer.result (c.is_digits.ensures.0 c.if-is_digits.true).digits c.word_of_integer.ensures.none

pub returns-in_ok-float_parts-clause-some : goal.returns-in_ok-float_parts-clause-some
returns-in_ok-float_parts-clause-some c =
    found_decimal c.args.spelling.now c.in_ok-float_parts.field-0.whole.now c.in_ok-float_parts.field-0.fraction.now
    c.in_ok-float_parts.field-0.exponent.now c.word_of_parts.result c.in_ok-float_parts.ensures.some c.word_of_parts.ensures

pub returns-in_ok-float_parts-clause-none : goal.returns-in_ok-float_parts-clause-none
returns-in_ok-float_parts-clause-none c =
    none_decimal c.args.spelling.now c.in_ok-float_parts.field-0.whole.now c.in_ok-float_parts.field-0.fraction.now
    c.in_ok-float_parts.field-0.exponent.now c.word_of_parts.result c.in_ok-float_parts.ensures.some c.word_of_parts.ensures

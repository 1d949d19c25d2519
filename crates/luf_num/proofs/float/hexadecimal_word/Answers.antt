-- A hexadecimal float has one value, by its parts.
use Rattle.luf_num.specs.declared.form.Base.TheVariants.{Hexadecimal}
use Rattle.luf_num.proofs.OneFloat.{found_hexadecimal, none_in}
use Rattle.luf_num.proofs.float.hexadecimal_word.Goals as goal

pub returns-clause-some : goal.returns-clause-some
returns-clause-some c =
    found_hexadecimal c.args.rest.now c.in_ok-float_parts.field-0.whole.now c.in_ok-float_parts.field-0.fraction.now
    c.in_ok-float_parts.field-0.exponent.now c.word_of_parts.result c.in_ok-float_parts.ensures.some c.word_of_parts.ensures

pub returns-clause-none : goal.returns-clause-none
returns-clause-none c =
    none_in Hexadecimal c.args.rest.now c.in_ok-float_parts.field-0.whole.now c.in_ok-float_parts.field-0.fraction.now
    c.in_ok-float_parts.field-0.exponent.now c.word_of_parts.result c.in_ok-float_parts.ensures.some c.word_of_parts.ensures

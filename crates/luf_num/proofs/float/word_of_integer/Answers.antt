-- An integer from 2 ^ 63 on is a float without an exponent.
use Rattle.luf_num.proofs.OneFloat.{found_integer}
use Rattle.luf_num.proofs.float.word_of_integer.Goals as goal

pub returns-else-value-clause-some : goal.returns-else-value-clause-some
returns-else-value-clause-some c =
    found_integer c.args.digits.now c.in_ok-value.value c.decimal_nearest.result c.requires c.in_ok-value.ensures.0 (rw c.digits_limit.ensures at c.in_ok-value.ensures.1) c.if-value.false c.decimal_nearest.ensures

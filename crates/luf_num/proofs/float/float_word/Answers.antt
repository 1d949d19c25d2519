-- What follows the prefix answers for the whole, and a decimal float has no prefix.
use Rattle.std.proofs.lemmas.List.{take_rest}
use Rattle.luf_num.proofs.OneFloat.{found_behind_prefix, no_float_behind_prefix, none_without_prefix}
use Rattle.luf_num.proofs.float.float_word.Goals as goal

pub returns-then-has_hex_prefix-clause-some : goal.returns-then-has_hex_prefix-clause-some
returns-then-has_hex_prefix-clause-some c =
    found_behind_prefix c.args.spelling.now c.hexadecimal_word.result (c.has_hex_prefix.ensures.0 c.if-has_hex_prefix.true) (rw take_rest at c.hexadecimal_word.ensures.some)

pub returns-then-has_hex_prefix-clause-none : goal.returns-then-has_hex_prefix-clause-none
returns-then-has_hex_prefix-clause-none c =
    no_float_behind_prefix c.args.spelling.now c.hexadecimal_word.result (c.has_hex_prefix.ensures.0 c.if-has_hex_prefix.true) (rw take_rest at c.hexadecimal_word.ensures.none)

pub returns-else-has_hex_prefix-clause-none : goal.returns-else-has_hex_prefix-clause-none
returns-else-has_hex_prefix-clause-none c =
    none_without_prefix c.args.spelling.now c.decimal_word.result (λ prefixed. let is = c.has_hex_prefix.ensures.1 prefixed in let no = c.if-has_hex_prefix.false in cc) c.decimal_word.ensures.none

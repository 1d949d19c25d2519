-- What follows the prefix answers for the whole, and a decimal numeral has no prefix.
use Rattle.std.proofs.Common.{Option, None, Some, IfNone}
use Rattle.std.proofs.lemmas.List.{take_rest}
use Rattle.luf_num.specs.declared.Number.{Number}
use Rattle.luf_num.proofs.Forms.{none_behind_prefix, form_behind_prefix, form_without_prefix}
use Rattle.luf_num.proofs.number_of.Goals as goal

if_none : (o : Option Number) (P Q : Type 0) → (P → Q) → IfNone o P → IfNone o Q
if_none None P Q weaker p = weaker p
if_none (Some n) P Q weaker p = p

pub returns-then-has_hex_prefix-clause-none : goal.returns-then-has_hex_prefix-clause-none
returns-then-has_hex_prefix-clause-none c =
    if_none _ _ _ (none_behind_prefix c.args.spelling.now (c.has_hex_prefix.ensures.0 c.if-has_hex_prefix.true)) (rw take_rest at c.hexadecimal.ensures.none)

pub returns-then-has_hex_prefix-clause-form : goal.returns-then-has_hex_prefix-clause-form
returns-then-has_hex_prefix-clause-form c =
    form_behind_prefix c.args.spelling.now c.hexadecimal.result (c.has_hex_prefix.ensures.0 c.if-has_hex_prefix.true)
    (rw take_rest at c.hexadecimal.ensures.some) (rw take_rest at c.hexadecimal.ensures.none)

pub returns-else-has_hex_prefix-clause-form : goal.returns-else-has_hex_prefix-clause-form
returns-else-has_hex_prefix-clause-form c =
    form_without_prefix c.args.spelling.now c.decimal.result
    (λ prefixed. let is = c.has_hex_prefix.ensures.1 prefixed in cc) c.decimal.ensures.some c.decimal.ensures.none

-- The digits up to this one are worth too much already, and the others make that more.
use Rattle.std.proofs.Common.{◌+◌, ◌<◌, length, get_or, arith}
use Rattle.luf_byte.specs.Class.{is_digit}
use Rattle.std.proofs.lemmas.Int.Digits.{digits_value_more}
use Rattle.std.proofs.lemmas.Str.Parse.{digits_value-take-le}
use Rattle.luf_num.proofs.Values.{passes_at, digit_byte}
use Rattle.luf_num.proofs.value.decimal_value.Goals as goal

pub returns-then-value-digit : goal.returns-then-value-digit
returns-then-value-digit c =
    let digits = c.args.digits.now in
    let index = c.loop-digit.digit-index in
    let within : index < length digits = omega arith in
    let more = digits_value_more 10 digits index within in
    let grows = digits_value-take-le 10 digits (index + 1) (omega arith) in
    let byte = digit_byte (get_or digits index 0) (passes_at is_digit digits index c.requires within) in
    omega arith

pub loop-digit-preserved : goal.loop-digit-preserved
loop-digit-preserved c =
    let digits = c.args.digits.now in
    let index = c.loop-digit.digit-index in
    let within : index < length digits = omega arith in
    let more = digits_value_more 10 digits index within in
    let byte = digit_byte (get_or digits index 0) (passes_at is_digit digits index c.requires within) in
    record { value = omega arith; small = omega arith }

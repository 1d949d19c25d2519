-- The digits up to this one are worth too much already, and the others make that more.
use Rattle.std.proofs.Common.{◌≡◌, ◌+◌, ◌*◌, ◌<◌, length, take, arith, ap, ◌∙◌}
use Rattle.luf_num.specs.inner.Base.{radix_of}
use Rattle.std.specs.Str.Parse.{digits_value_after}
use Rattle.luf_num.proofs.Values.{digits_value_after-more, digits_value_after-take-le, radix_some}
use Rattle.luf_num.proofs.float.digits_below.Goals as goal

pub returns-then-value-limit : goal.returns-then-value-limit
returns-then-value-limit c =
    let radix = radix_of c.args.base in
    let digits = c.args.digits.now in
    let index = c.loop-digit.digit-index in
    let within : index < length digits = omega arith in
    let more = digits_value_after-more radix c.args.so_far digits index within in
    let grows = digits_value_after-take-le radix (radix_some c.args.base) c.args.so_far digits (index + 1) in
    let here : c.loop-digit.value * c.radix.result ≡ digits_value_after radix c.args.so_far (take index digits) * radix =
    ap (λ k. c.loop-digit.value * k) c.radix.ensures ∙ ap (λ v. v * radix) c.loop-digit.invariant.value in
    omega arith

-- one digit more
pub loop-digit-preserved : goal.loop-digit-preserved
loop-digit-preserved c =
    let radix = radix_of c.args.base in
    let digits = c.args.digits.now in
    let index = c.loop-digit.digit-index in
    let within : index < length digits = omega arith in
    let more = digits_value_after-more radix c.args.so_far digits index within in
    let here : c.loop-digit.value * c.radix.result ≡ digits_value_after radix c.args.so_far (take index digits) * radix =
    ap (λ k. c.loop-digit.value * k) c.radix.ensures ∙ ap (λ v. v * radix) c.loop-digit.invariant.value in
    record { value = omega arith; small = omega arith }

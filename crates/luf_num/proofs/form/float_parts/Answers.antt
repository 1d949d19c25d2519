-- The spelling has the form where its parts, cut from the left, do.
use Rattle.luf_num.specs.inner.Base.{is_digit_in, is_mark_in}
use Rattle.luf_num.proofs.OneFloat.{parts_of_cut}
use Rattle.luf_num.proofs.Scanning.{parts_from_form}
use Rattle.luf_num.proofs.form.float_parts.Goals as goal
use Rattle.luf_num.proofs.form.float_parts.Goals.{else-has_byte-via-then-has_byte+then-has_byte-2+else-is_optional_exponent, else-has_byte-via-then-has_byte+else-has_byte-2, else-has_byte-via-else-has_byte}

pub returns-then-is_optional_exponent-clause-some : goal.returns-then-is_optional_exponent-clause-some
returns-then-is_optional_exponent-clause-some c =
    parts_of_cut (is_digit_in c.args.base) (is_mark_in c.args.base) c.args.bytes.now c.split_digits.result.0.now c.split_point.result.0.now
    c.split_digits-2.result.0.now c.split_digits-2.result.1.now
    (record { after_whole = c.split_digits.result.1.now; after_point = c.split_point.result.1.now; first = c.split_digits.ensures; second = c.split_point.ensures; third = c.split_digits-2.ensures })
    (record {
      some = c.has_byte.ensures.0 c.if-has_byte.true;
      not_integer = c.has_byte-then-has_byte.ensures.0 c.if-has_byte-2.true;
      scaled = c.is_optional_exponent.ensures.0 c.if-is_optional_exponent.true;
    })

pub returns-else-has_byte-clause-none : goal.returns-else-has_byte-clause-none
returns-else-has_byte-clause-none c = λ form.
    let has = parts_from_form c.args.base c.args.bytes.now c.split_digits.result.0.now c.split_digits.result.1.now c.split_point.result.0.now c.split_point.result.1.now
    c.split_digits-2.result.0.now c.split_digits-2.result.1.now c.split_digits.ensures c.split_point.ensures c.split_digits-2.ensures form in
    elim c.else-has_byte.branch [
      | else-has_byte-via-then-has_byte+then-has_byte-2+else-is_optional_exponent w ↦ let is = w.is_optional_exponent.ensures.1 has.scaled in let no = w.if-is_optional_exponent.false in cc
      | else-has_byte-via-then-has_byte+else-has_byte-2 w ↦ let is = w.has_byte-then-has_byte.ensures.1 has.not_integer in let no = w.if-has_byte-2.false in cc
      | else-has_byte-via-else-has_byte w ↦ let is = c.has_byte.ensures.1 has.some in let no = w.if-has_byte.false in cc
    ]

-- An exponent is cut in one way.
use Rattle.std.proofs.Common.{sym, ◌∙◌}
use Rattle.luf_num.specs.inner.Base.{is_mark_in}
use Rattle.luf_num.proofs.Scanning.{exponent_from_cut, cut_from_exponent}
use Rattle.luf_num.proofs.form.is_exponent.Goals as goal

pub returns-then-is_mark : goal.returns-then-is_mark
returns-then-is_mark c = (
  λ digits. exponent_from_cut (is_mark_in c.args.base) c.args.bytes.now c.in-Some.letter.now c.in-Some.scale.now c.split_sign.result.0.now c.split_sign.result.1.now
      c.in-Some.ensures.cases.0 c.split_sign.ensures (sym c.is_mark.ensures ∙ c.if-is_mark.true) (c.is_digits.ensures.0 digits),
  λ e. c.is_digits.ensures.1 (cut_from_exponent (is_mark_in c.args.base) c.args.bytes.now c.in-Some.letter.now c.in-Some.scale.now c.split_sign.result.0.now c.split_sign.result.1.now
      c.in-Some.ensures.cases.0 c.split_sign.ensures e).1,
)

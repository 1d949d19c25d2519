-- The cut is the one at `prefix_len`.
use Rattle.luf_num.specs.inner.Base.{is_digit_in}
use Rattle.luf_num.proofs.Scanning.{splits_at_prefix}
use Rattle.luf_num.proofs.form.split_digits.Goals as goal

pub returns : goal.returns
returns c = rw (c.split_at.ensures.front, c.split_at.ensures.back) (rw c.digits_len-len.ensures.len (splits_at_prefix (is_digit_in c.args.base) c.args.bytes.now))

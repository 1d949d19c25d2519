-- Digits behind others make the number no less.
use Rattle.std.proofs.Common.{arith, ℕ, MatchOption, ◌≡◌, ◌<◌, ◌≤◌, ◌++◌, ap, sym, ◌∙◌, subst}
use Rattle.luf_num.specs.inner.Base.{radix_of}
use Rattle.std.specs.Str.Parse.{digits_value, digits_value_after}
use Rattle.luf_num.proofs.Values.{radix_some, digits_value_after-append, digits_value_after_grows}
use Rattle.luf_num.proofs.float.all_digits.Goals as goal

pub returns-in_err-whole : goal.returns-in_err-whole
returns-in_err-whole c =
    let radix = radix_of c.args.base in
    let whole = c.args.parts.whole.now in
    let fraction = c.args.parts.fraction.now in
    let joined = digits_value_after-append radix 0 whole fraction in
    let grows = digits_value_after_grows radix (radix_some c.args.base) fraction (digits_value_after radix 0 whole) in
    let over = c.in_err-whole.ensures in
    let large : c.args.limit ≤ digits_value radix (whole ++ fraction) = omega arith in
    rw c.from_residual.ensures large

-- the digits behind the point follow the others
pub returns : goal.returns
returns c =
    let radix = radix_of c.args.base in
    let whole = c.args.parts.whole.now in
    let fraction = c.args.parts.fraction.now in
    let joined = digits_value_after-append radix 0 whole fraction in
    let total : digits_value_after radix c.in_ok-whole.whole fraction ≡ digits_value radix (whole ++ fraction) =
    ap (λ (v : ℕ). digits_value_after radix v fraction) c.in_ok-whole.ensures.0 ∙ sym joined in
    subst (λ (n : ℕ). MatchOption c.digits_below-2.result (c.args.limit ≤ n) (λ m. (m ≡ n) × (m < c.args.limit))) total c.digits_below-2.ensures

use Rattle.std.proofs.Common.{◌≡◌, ◌<◌, take}
use Rattle.luf_num.specs.inner.Base.{radix_of}
use Rattle.std.specs.Str.Parse.{digits_value_after}
use Rattle.luf_num.proofs.float.digits_below.Given as goal

-- the value of the digits so far, which is below the limit
abbrev pub invariant-loop-digit : goal.invariant-loop-digit
invariant-loop-digit l = record {
  value : l.value ≡ digits_value_after (radix_of l.base) l.fn.so_far (take l.digit-index l.digits);
  small : l.value < l.limit;
}

use Rattle.std.proofs.Common.{◌≡◌, ◌^◌, ◌%◌, take}
use Rattle.std.specs.Str.Parse.{digits_value}
use Rattle.luf_num.proofs.value.hex_value.Given as goal

-- the value of the digits so far, modulo 2 ^ 64
abbrev pub invariant-loop-digit : goal.invariant-loop-digit
invariant-loop-digit l = l.value ≡ digits_value 16 (take l.digit-index l.digits) % 2 ^ 64

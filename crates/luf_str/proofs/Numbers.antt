-- The number that hexadecimal digits write only grows.
use Rattle.std.proofs.Common.{ℕ, ◌+◌, ◌^◌, ◌<◌, ◌≤◌, List, length, take, arith}
use Rattle.std.specs.Str.Parse.{digits_value}
use Rattle.std.proofs.lemmas.Int.Digits.{digits_value_more}
use Rattle.std.proofs.lemmas.Str.Parse.{digits_value-take-le}

-- a digit more than 2 ^ 27 bears
pub over : (digits : List ℕ) (i : ℕ) → i < length digits → 2 ^ 27 ≤ digits_value 16 (take i digits) → 2 ^ 31 ≤ digits_value 16 digits
over digits i within large =
    let more = digits_value_more 16 digits i within in
    let grows = digits_value-take-le 16 digits (i + 1) (omega arith) in
    omega arith

-- for `hex_number`
pub ruleset hex_number_steps = (over, digits_value_more)

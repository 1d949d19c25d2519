-- The value of digits, one digit at a time.
use Rattle.std.proofs.Common.{◌≡◌, ℕ, ◌+◌, ◌*◌, ◌<◌, ◌≤◌, Bool, true, List, [], ◌∷◌, ◌++◌, length, take, drop, get_or, refl, sym, ap, ◌∙◌, arith, take-append-drop}
use Rattle.std.specs.List.{list_all}
use Rattle.std.specs.Char.{digit_value}
use Rattle.std.proofs.lemmas.Bool.{true_from_ne_false, both_ways}
use Rattle.std.proofs.lemmas.Bool.Decides.{nat_tests}
use Rattle.std.proofs.lemmas.List.Folds.{list_all_at}
use Rattle.std.proofs.lemmas.List.{take_more}
use Rattle.std.proofs.lemmas.Nat.{mul-le}
use Rattle.luf_num.specs.inner.Base.{radix_of}
use Rattle.luf_byte.specs.Class.{is_digit}
use Rattle.std.specs.Str.Parse.{digits_value_after}
use Rattle.luf_num.specs.declared.form.Base.{Base}
use Rattle.luf_num.specs.declared.form.Base.TheVariants.{Decimal, Hexadecimal}

-- what each element passes, the one at an index passes
pub passes_at : (test : ℕ → Bool) (xs : List ℕ) (i : ℕ) → list_all test xs ≡ true → i < length xs → test (get_or xs i 0) ≡ true
passes_at test xs i all within =
    true_from_ne_false (test (get_or xs i 0)) (λ no. both_ways (list_all test xs) (list_all_at test xs i 0 within no) all)

-- a decimal digit and its value
pub record IsDigitByte (byte : ℕ) : Type 0 where
  pub value : digit_value byte + 48 ≡ byte
  pub small : byte ≤ 57

pub digit_byte : (byte : ℕ) → is_digit byte ≡ true → IsDigitByte byte
digit_byte byte digit = record { value = grind (arith, nat_tests); small = grind (arith, nat_tests) }

-- digits behind a number so far
pub digits_value_after_grows : (radix : ℕ) → 0 < radix → (digits : List ℕ) (value : ℕ) → value ≤ digits_value_after radix value digits
digits_value_after_grows radix some [] value = omega arith
digits_value_after_grows radix some (digit ∷ digits) value =
    let more = mul-le value 1 value radix (omega arith) some in
    omega (arith, digits_value_after_grows radix some digits (value * radix + digit_value digit))

pub digits_value_after-append : (radix so_far : ℕ) (xs ys : List ℕ) → digits_value_after radix so_far (xs ++ ys) ≡ digits_value_after radix (digits_value_after radix so_far xs) ys
digits_value_after-append radix so_far [] ys = refl
digits_value_after-append radix so_far (x ∷ xs) ys = digits_value_after-append radix (so_far * radix + digit_value x) xs ys

pub digits_value_after-more : (radix so_far : ℕ) (digits : List ℕ) (i : ℕ) → i < length digits
    → digits_value_after radix so_far (take (i + 1) digits) ≡ digits_value_after radix so_far (take i digits) * radix + digit_value (get_or digits i 0)
digits_value_after-more radix so_far digits i within =
    ap (digits_value_after radix so_far) (take_more digits i 0 within) ∙ digits_value_after-append radix so_far (take i digits) (get_or digits i 0 ∷ [])

pub digits_value_after-take-le : (radix : ℕ) → 0 < radix → (so_far : ℕ) (digits : List ℕ) (n : ℕ) → digits_value_after radix so_far (take n digits) ≤ digits_value_after radix so_far digits
digits_value_after-take-le radix some so_far digits n =
    let whole = ap (digits_value_after radix so_far) (sym (take-append-drop n digits)) ∙ digits_value_after-append radix so_far (take n digits) (drop n digits) in
    rw whole (digits_value_after_grows radix some (drop n digits) (digits_value_after radix so_far (take n digits)))

pub radix_some : (base : Base) → 0 < radix_of base
radix_some Decimal = omega arith
radix_some Hexadecimal = omega arith

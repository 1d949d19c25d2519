-- The numbers whose words are made, of floats in reach.
use Rattle.std.proofs.Common.{◌≡◌, ℕ, ◌+◌, ◌-◌, ◌*◌, ◌/◌, ◌%◌, ◌^◌, ◌<◌, ◌≤◌, Bool, true, false, MatchBool, nat_lt, ⊎_elim, refl, sym, ap, ◌∙◌, arith}
use Rattle.std.proofs.lemmas.Bool.{cases_lt}
use Rattle.std.proofs.lemmas.Bool.Decides.{nat_tests}
use Rattle.std.proofs.lemmas.Nat.{le-div, mod_below, mul-le, pow-add, pow_pos, shl_whole}
use Rattle.std.proofs.Math.Nat.{one-le-pow, pow-le-pow_right}
use Rattle.luf_num.specs.inner.Rounded.{IsAbout}
use Rattle.luf_num.specs.Word.{scaled_one}

move_scale : (n s d one : ℕ) → n ≡ s * d → n * one ≡ s * one * d
move_scale n s d one is = ap (λ k. k * one) is ∙ omega arith

power_moved : (base up down k : ℕ) → down ≤ up + k → base ^ up * base ^ k ≡ base ^ (up + k - down) * base ^ down
power_moved base up down k below = sym (pow-add base up k) ∙ ap (λ e. base ^ e) (omega arith) ∙ pow-add base (up + k - down) down

times_power : (digits a b c d : ℕ) → a * b ≡ c * d → digits * a * b ≡ digits * c * d
times_power digits a b c d is = omega arith ∙ ap (λ k. digits * k) is ∙ omega arith

pub binary_about : (digits up down : ℕ) → down ≤ up + 900 → digits * 2 ^ up * scaled_one ≡ digits * 2 ^ (up + 1075 - down) * 2 ^ down
unfolding scaled_one
binary_about digits up down below =
    times_power digits (2 ^ up) (2 ^ 1075) (2 ^ (up + 1075 - down)) (2 ^ down) (power_moved 2 up down 1075 (omega arith))

pub decimal_about : (digits up down power : ℕ) → down ≤ up → power ≡ 10 ^ (up - down) → digits * 10 ^ up * scaled_one ≡ digits * power * 2 ^ 1075 * 10 ^ down
unfolding scaled_one
decimal_about digits up down power below is =
    let split : 10 ^ up ≡ power * 10 ^ down = ap (λ e. 10 ^ e) (omega arith) ∙ pow-add 10 (up - down) down ∙ ap (λ k. k * 10 ^ down) (sym is) in
    move_scale (digits * 10 ^ up) (digits * power) (10 ^ down) (2 ^ 1075) (ap (λ k. digits * k) split ∙ omega arith)

pub power_some : (k : ℕ) → 0 < 10 ^ k
power_some k = one-le-pow k 10 (omega arith)

pub power_small : (k : ℕ) → k ≤ 19 → 10 ^ k ≤ 10 ^ 19
power_small k small = pow-le-pow_right {n = 10} (omega arith) {i = k} {j = 19} small

-- digits that are moved up to 118 bits
pub top_bit : (digits top : ℕ) → 2 ^ top ≤ digits → digits < 2 ^ 64 → top ≤ 63
top_bit digits top low high = ⊎_elim (λ few. omega arith)
    (λ many. let power : 2 ^ 64 ≤ 2 ^ top = pow-le-pow_right {n = 2} (omega arith) {i = 64} {j = top} many in absurd (omega arith))
    (cases_lt top 64)

pub shifted_is : (digits top : ℕ) → top ≤ 63 → digits < 2 * 2 ^ top → digits * 2 ^ (117 - top) % 2 ^ 128 ≡ digits * 2 ^ (117 - top)
shifted_is digits top small high =
    let power : 2 ^ (top + 1) ≡ 2 * 2 ^ top = pow-add 2 top 1 ∙ omega arith in
    let below : digits < 2 ^ (top + 1) = omega arith in
    shl_whole digits (top + 1) (117 - top) 128 below (omega arith)

shifted_low : (digits top : ℕ) → top ≤ 63 → 2 ^ top ≤ digits → 2 ^ 117 ≤ digits * 2 ^ (117 - top)
shifted_low digits top small low =
    let whole : top + (117 - top) ≡ 117 = omega arith in
    let power : 2 ^ top * 2 ^ (117 - top) ≡ 2 ^ 117 = sym (pow-add 2 top (117 - top)) ∙ ap (λ e. 2 ^ e) whole in
    let least = mul-le (2 ^ top) (2 ^ (117 - top)) digits (2 ^ (117 - top)) low (omega arith) in
    omega arith

-- the quotient has more than 53 bits
pub quotient_low : (digits top power : ℕ) → top ≤ 63 → 2 ^ top ≤ digits → digits < 2 * 2 ^ top → power ≤ 10 ^ 19 → 0 < power → 2 ^ 53 ≤ digits * 2 ^ (117 - top) % 2 ^ 128 / power
quotient_low digits top power small low high power_is some =
    let low_shifted = shifted_low digits top small low in
    let is = shifted_is digits top small high in
    le-div (2 ^ 53) (digits * 2 ^ (117 - top) % 2 ^ 128) power some (omega arith)

test_rest : (rest : ℕ) → (b : Bool) → nat_lt 0 rest ≡ b → MatchBool b (0 < rest) (rest ≡ 0)
test_rest rest true test = grind (arith, nat_tests)
test_rest rest false test = grind (arith, nat_tests)

units : (q unit d power step : ℕ) → unit * d ≡ power * step → q * unit * d ≡ power * q * step
units q unit d power step is = omega arith ∙ ap (λ k. q * k) is ∙ omega arith

mul-lt_right : (a b k : ℕ) → 0 < k → a < b → a * k < b * k
mul-lt_right a b k some below = let next = mul-le (a + 1) k b k (omega arith) (omega arith) in omega arith

-- a quotient is the number, or less than one below it
about_quotient : (value quotient rest power step unit d : ℕ) → 0 < step → rest < power → value ≡ (power * quotient + rest) * step → unit * d ≡ power * step
    → (b : Bool) → nat_lt 0 rest ≡ b → IsAbout value d quotient unit b
about_quotient value quotient rest power step unit d some below is unit_is true test =
    let more : 0 < rest = test_rest rest true test in
    let here = units quotient unit d power step unit_is in
    let next = units (quotient + 1) unit d power step unit_is in
    let low = mul-lt_right (power * quotient) (power * quotient + rest) step some (omega arith) in
    let high = mul-lt_right (power * quotient + rest) (power * (quotient + 1)) step some (omega arith) in
    (omega arith, omega arith)
about_quotient value quotient rest power step unit d some below is unit_is false test =
    let none : rest ≡ 0 = test_rest rest false test in
    let here = units quotient unit d power step unit_is in
    let same : (power * quotient + rest) * step ≡ power * quotient * step = ap (λ k. (power * quotient + k) * step) none ∙ omega arith in
    is ∙ same ∙ sym here

move_power : (digits a b c one : ℕ) → b * c ≡ one → digits * a * one ≡ digits * b * (c * a)
move_power digits a b c one is = ap (λ k. digits * a * k) (sym is) ∙ omega arith

scaled_power : (spare : ℕ) → spare ≤ 117 → 2 ^ spare * 2 ^ (1075 - spare) ≡ scaled_one
unfolding scaled_one
scaled_power spare small = sym (pow-add 2 spare (1075 - spare)) ∙ ap (λ e. 2 ^ e) (whole spare small)
  where
    whole : (spare : ℕ) → spare ≤ 117 → spare + (1075 - spare) ≡ 1075
    whole spare small = omega arith

move_down : (scale power a d : ℕ) → d ≡ power * a → scale * d ≡ power * (scale * a)
move_down scale power a d is = ap (λ k. scale * k) is ∙ omega arith

pub quotient_about : (digits top up down power : ℕ) → top ≤ 63 → digits < 2 * 2 ^ top → up ≤ down → power ≡ 10 ^ (down - up) →
    let shifted = digits * 2 ^ (117 - top) % 2 ^ 128 in
    IsAbout (digits * 10 ^ up * scaled_one) (10 ^ down) (shifted / power) (2 ^ (1075 - (117 - top))) (nat_lt 0 (shifted % power))
quotient_about digits top up down power small high below is =
    let shifted = digits * 2 ^ (117 - top) % 2 ^ 128 in
    let scale = 2 ^ (1075 - (117 - top)) in
    let some : 0 < power = rw is (power_some (down - up)) in
    let step_some = mul-le 1 1 scale (10 ^ up) (pow_pos (1075 - (117 - top))) (power_some up) in
    let whole = shifted_is digits top small high in
    let moved = move_power digits (10 ^ up) (2 ^ (117 - top)) scale scaled_one (scaled_power (117 - top) (omega arith)) in
    let divided : power * (shifted / power) + shifted % power ≡ shifted = omega arith in
    let value : digits * 10 ^ up * scaled_one ≡ (power * (shifted / power) + shifted % power) * (scale * 10 ^ up) =
    moved ∙ ap (λ k. k * (scale * 10 ^ up)) (sym whole ∙ sym divided) in
    let down_is : 10 ^ down ≡ power * 10 ^ up = ap (λ e. 10 ^ e) (split_down up down below) ∙ pow-add 10 (down - up) up ∙ ap (λ k. k * 10 ^ up) (sym is) in
    about_quotient (digits * 10 ^ up * scaled_one) (shifted / power) (shifted % power) power (scale * 10 ^ up) scale (10 ^ down)
    step_some (mod_below shifted power some) value (move_down scale power (10 ^ up) (10 ^ down) down_is) (nat_lt 0 (shifted % power)) refl
  where
    split_down : (up down : ℕ) → up ≤ down → down ≡ (down - up) + up
    split_down up down below = omega arith

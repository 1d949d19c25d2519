-- Rounding to 53 bits gives the word that is nearest.
use Rattle.std.proofs.Common.{◌≡◌, ℕ, ◌+◌, ◌-◌, ◌*◌, ◌/◌, ◌%◌, ◌^◌, ◌<◌, ◌≤◌, Bool, true, false, IsTrue, ⊎_elim, refl, sym, ap, ◌∙◌, subst, arith}
use Rattle.std.proofs.lemmas.Bool.{cases_lt}
use Rattle.std.proofs.lemmas.Nat.{mul-le, one_shl, pow-add, pow_pos, shl_whole}
use Rattle.std.proofs.Math.Nat.{mul-div_cancel, pow-le-pow_right}
use Rattle.luf_num.specs.inner.Rounded.{IsAbout, IsMantissa, IsRounded}
use Rattle.luf_num.specs.Word.{IsNearest, scaled_one, scaled_value}

-- the parts of a word
word_fraction : (x m : ℕ) → 0 < x → 2 ^ 52 ≤ m → m < 2 ^ 53 → 2 ^ 52 + ((x - 1) * 2 ^ 52 + m) % 2 ^ 52 ≡ m
word_fraction x m some low high = omega arith

word_exponent : (x m : ℕ) → 0 < x → 2 ^ 52 ≤ m → m < 2 ^ 53 → ((x - 1) * 2 ^ 52 + m) / 2 ^ 52 ≡ x
word_exponent x m some low high = omega arith

-- the value of a word
value_at : (w x m : ℕ) → w ≡ (x - 1) * 2 ^ 52 + m → 0 < x → 2 ^ 52 ≤ m → m < 2 ^ 53 → scaled_value w ≡ m * 2 ^ x
value_at w x m is some low high =
    let fraction : 2 ^ 52 + w % 2 ^ 52 ≡ m = rw is (word_fraction x m some low high) in
    let exponent : w / 2 ^ 52 ≡ x = rw is (word_exponent x m some low high) in
    ap (λ f. f * 2 ^ (w / 2 ^ 52)) fraction ∙ ap (λ e. m * 2 ^ e) exponent

-- one power more
pub twice : (x : ℕ) → 2 ^ (x + 1) ≡ 2 * 2 ^ x
twice x = pow-add 2 x 1 ∙ omega arith

-- the value of a word whose 53 bits may have been rounded up to 2 ^ 53
pub value_to : (w x m : ℕ) → w ≡ (x - 1) * 2 ^ 52 + m → 0 < x → 2 ^ 52 ≤ m → m ≤ 2 ^ 53 → scaled_value w ≡ m * 2 ^ x
value_to w x m is some low high = ⊎_elim
    (λ below. value_at w x m is some low below)
    (λ top.
    let same : m ≡ 2 ^ 53 = omega arith in
    let at = value_at w (x + 1) (2 ^ 52) (omega arith) (omega arith) (omega arith) (omega arith) in
    let power = twice x in
    let scaled : m * 2 ^ x ≡ 2 ^ 53 * 2 ^ x = ap (λ k. k * 2 ^ x) same in
    omega arith) (cases_lt m (2 ^ 53))

-- the value of the next word
pub value_next : (w x m : ℕ) → w ≡ (x - 1) * 2 ^ 52 + m → 0 < x → 2 ^ 52 ≤ m → m < 2 ^ 53 → scaled_value (w + 1) ≡ (m + 1) * 2 ^ x
value_next w x m is some low high = value_to (w + 1) x (m + 1) (omega arith) some (omega arith) (omega arith)

value_next_top : (w x : ℕ) → w ≡ (x - 1) * 2 ^ 52 + 2 ^ 53 → 0 < x → scaled_value (w + 1) ≡ (2 ^ 53 + 2) * 2 ^ x
value_next_top w x is some =
    let at = value_at (w + 1) (x + 1) (2 ^ 52 + 1) (omega arith) (omega arith) (omega arith) (omega arith) in
    let power = twice x in
    omega arith

-- the value of the word before
value_before : (w x m : ℕ) → w ≡ (x - 1) * 2 ^ 52 + (m + 1) → 0 < x → 2 ^ 52 ≤ m → m < 2 ^ 53 → scaled_value (w - 1) ≡ m * 2 ^ x
value_before w x m is some low high = value_at (w - 1) x m (omega arith) some low high

value_before_power : (w x : ℕ) → w ≡ (x - 1) * 2 ^ 52 + 2 ^ 52 → 1 < x → 2 * scaled_value (w - 1) ≡ (2 ^ 53 - 1) * 2 ^ x
value_before_power w x is some =
    let at = value_at (w - 1) (x - 1) (2 ^ 53 - 1) (omega arith) (omega arith) (omega arith) (omega arith) in
    let power : 2 ^ x ≡ 2 * 2 ^ (x - 1) = ap (λ e. 2 ^ e) (omega arith) ∙ twice (x - 1) in
    omega arith

-- what is between the middles on both sides of a number of 53 bits, of steps of `step`, and in one only if the number is even
pub record IsMiddle (value step m : ℕ) : Type 0 where
  pub reached : 2 ^ 52 * step ≤ value
  pub not_below : 2 * (m * step) ≤ 2 * value + step
  pub not_above : 2 * value ≤ 2 * (m * step) + step
  pub tie_below : 2 * (m * step) ≡ 2 * value + step → m % 2 ≡ 0
  pub tie_above : 2 * value ≡ 2 * (m * step) + step → m % 2 ≡ 0

-- a value times a denominator, by steps
times : (value m power d : ℕ) → value ≡ m * power → value * d ≡ m * (power * d)
times value m power d is = ap (λ k. k * d) is ∙ omega arith

below_power : (before here step d value : ℕ) → 2 * before * d ≡ (2 ^ 53 - 1) * step → here * d ≡ 2 ^ 52 * step → 2 ^ 52 * step ≤ value → (before + here) * d ≤ 2 * value
below_power before here step d value before_is here_is reached = omega arith

above_middle : (m here next step d value : ℕ) → here * d ≡ m * step → next * d ≡ (m + 1) * step → 2 * value ≤ 2 * (m * step) + step → 2 * value ≤ (here + next) * d
above_middle m here next step d value here_is next_is not_above = omega arith

below_middle : (m before here step d value : ℕ) → before * d ≡ m * step → here * d ≡ (m + 1) * step → 2 * ((m + 1) * step) ≤ 2 * value + step → (before + here) * d ≤ 2 * value
below_middle m before here step d value before_is here_is not_below = omega arith

below_tie : (m before here step d value : ℕ) → before * d ≡ m * step → here * d ≡ (m + 1) * step → (before + here) * d ≡ 2 * value → 2 * ((m + 1) * step) ≡ 2 * value + step
below_tie m before here step d value before_is here_is tie = omega arith

above_tie : (m here next step d value : ℕ) → here * d ≡ m * step → next * d ≡ (m + 1) * step → 2 * value ≡ (here + next) * d → 2 * value ≡ 2 * (m * step) + step
above_tie m here next step d value here_is next_is tie = omega arith

above_top : (here next step d value : ℕ) → here * d ≡ 2 ^ 53 * step → next * d ≡ (2 ^ 53 + 2) * step → 2 * value ≤ 2 * (2 ^ 53 * step) + step → 2 * value ≤ (here + next) * d
above_top here next step d value here_is next_is not_above = omega arith

-- the words of one exponent are odd and even by turns
even_word : (w x m : ℕ) → w ≡ (x - 1) * 2 ^ 52 + m → m % 2 ≡ 0 → w % 2 ≡ 0
even_word w x m is even = omega arith

module _ (n d x w : ℕ) (some : 1 < x) (small : x < 2045) where
  -- at the least number of 53 bits the word before is only half a step away
  nearest_power : w ≡ (x - 1) * 2 ^ 52 + 2 ^ 52 → IsMiddle (n * scaled_one) (2 ^ x * d) (2 ^ 52) → IsNearest n d w
  nearest_power is middle =
      let here = times (scaled_value w) (2 ^ 52) (2 ^ x) d (value_to w x (2 ^ 52) is (omega arith) (omega arith) (omega arith)) in
      let before = times (2 * scaled_value (w - 1)) (2 ^ 53 - 1) (2 ^ x) d (value_before_power w x is some) in
      let next = times (scaled_value (w + 1)) (2 ^ 52 + 1) (2 ^ x) d (value_next w x (2 ^ 52) is (omega arith) (omega arith) (omega arith)) in
      record {
        normal = omega arith;
        finite = omega arith;
        not_below = below_power (scaled_value (w - 1)) (scaled_value w) (2 ^ x * d) d (n * scaled_one) before here middle.reached;
        not_above = above_middle (2 ^ 52) (scaled_value w) (scaled_value (w + 1)) (2 ^ x * d) d (n * scaled_one) here next middle.not_above;
        tie_below = λ _. omega arith;
        tie_above = λ _. omega arith;
      }

  -- between them the words before and next are one step away
  nearest_inner : (m : ℕ) → w ≡ (x - 1) * 2 ^ 52 + (m + 1) → 2 ^ 52 ≤ m → m + 1 < 2 ^ 53 → IsMiddle (n * scaled_one) (2 ^ x * d) (m + 1) → IsNearest n d w
  nearest_inner m is low high middle =
      let here = times (scaled_value w) (m + 1) (2 ^ x) d (value_to w x (m + 1) is (omega arith) (omega arith) (omega arith)) in
      let before = times (scaled_value (w - 1)) m (2 ^ x) d (value_before w x m is (omega arith) low (omega arith)) in
      let next = times (scaled_value (w + 1)) (m + 1 + 1) (2 ^ x) d (value_next w x (m + 1) is (omega arith) (omega arith) high) in
      record {
        normal = omega arith;
        finite = omega arith;
        not_below = below_middle m (scaled_value (w - 1)) (scaled_value w) (2 ^ x * d) d (n * scaled_one) before here middle.not_below;
        not_above = above_middle (m + 1) (scaled_value w) (scaled_value (w + 1)) (2 ^ x * d) d (n * scaled_one) here next middle.not_above;
        tie_below = λ tie. even_word w x (m + 1) is (middle.tie_below (below_tie m (scaled_value (w - 1)) (scaled_value w) (2 ^ x * d) d (n * scaled_one) before here tie));
        tie_above = λ tie. even_word w x (m + 1) is (middle.tie_above (above_tie (m + 1) (scaled_value w) (scaled_value (w + 1)) (2 ^ x * d) d (n * scaled_one) here next tie));
      }

  -- rounded up to 2 ^ 53 the next word is two steps away
  nearest_top : w ≡ (x - 1) * 2 ^ 52 + 2 ^ 53 → IsMiddle (n * scaled_one) (2 ^ x * d) (2 ^ 53) → IsNearest n d w
  nearest_top is middle =
      let here = times (scaled_value w) (2 ^ 53) (2 ^ x) d (value_to w x (2 ^ 53) is (omega arith) (omega arith) (omega arith)) in
      let before = times (scaled_value (w - 1)) (2 ^ 53 - 1) (2 ^ x) d (value_before w x (2 ^ 53 - 1) is (omega arith) (omega arith) (omega arith)) in
      let next = times (scaled_value (w + 1)) (2 ^ 53 + 2) (2 ^ x) d (value_next_top w x is (omega arith)) in
      record {
        normal = omega arith;
        finite = omega arith;
        not_below = below_middle (2 ^ 53 - 1) (scaled_value (w - 1)) (scaled_value w) (2 ^ x * d) d (n * scaled_one) before here middle.not_below;
        not_above = above_top (scaled_value w) (scaled_value (w + 1)) (2 ^ x * d) d (n * scaled_one) here next middle.not_above;
        tie_below = λ _. omega arith;
        tie_above = λ _. omega arith;
      }

  pub nearest_from_middle : (m : ℕ) → w ≡ (x - 1) * 2 ^ 52 + m → 2 ^ 52 ≤ m → m ≤ 2 ^ 53 → IsMiddle (n * scaled_one) (2 ^ x * d) m → IsNearest n d w
  nearest_from_middle m is low high middle = ⊎_elim
      (λ inner. ⊎_elim
      (λ more. nearest_inner (m - 1) (omega arith) (omega arith) (omega arith) (subst (λ k. IsMiddle (n * scaled_one) (2 ^ x * d) k) (omega arith) middle))
      (λ least. let e : m ≡ 2 ^ 52 = omega arith in nearest_power (omega arith) (subst (λ k. IsMiddle (n * scaled_one) (2 ^ x * d) k) e middle))
      (cases_lt (2 ^ 52) m))
      (λ top. let e : m ≡ 2 ^ 53 = omega arith in nearest_top (omega arith) (subst (λ k. IsMiddle (n * scaled_one) (2 ^ x * d) k) e middle))
      (cases_lt m (2 ^ 53))

-- equal products of one factor that is not 0
cancel : (a b k : ℕ) → 0 < k → a * k ≡ b * k → a ≡ b
cancel a b k some same = sym (mul-div_cancel a some) ∙ ap (λ n. n / k) same ∙ mul-div_cancel b some

spread : (a b k : ℕ) → (a + b) * k ≡ a * k + b * k
spread a b k = omega arith

steps_in_units : (m half u : ℕ) → m * (2 * half * u) ≡ 2 * m * half * u
steps_in_units m half u = omega arith

-- a rounded number is in the middle of the value that it was cut from
module _ (s half m t u step : ℕ) (some : 0 < u) (step_is : step ≡ 2 * half * u) (low : 2 ^ 53 * half ≤ s) where
  -- all in terms of `s * u`, `half * u` and `2 * m * half * u`
  pub record InUnits : Type 0 where
    pub step_in_units : step ≡ 2 * (half * u)
    pub steps_in : m * step ≡ 2 * m * half * u
    pub low_in : 2 ^ 53 * (half * u) ≤ s * u

  in_units : InUnits
  in_units =
      let low_times = mul-le (2 ^ 53 * half) u s u low (omega arith) in
      record { step_in_units = step_is ∙ omega arith; steps_in = ap (λ k. m * k) step_is ∙ steps_in_units m half u; low_in = omega arith }

  below_in : 2 * m * half ≤ s + half → 2 * m * half * u ≤ s * u + half * u
  below_in not_below = rw (← spread s half u) (mul-le (2 * m * half) u (s + half) u not_below (omega arith))

  above_in : (n : ℕ) → n ≤ 2 * m * half + half → n * u ≤ 2 * m * half * u + half * u
  above_in n not_above = rw (← spread (2 * m * half) half u) (mul-le n u (2 * m * half + half) u not_above (omega arith))

  exact_middle : IsRounded s half false m → t ≡ s * u → IsMiddle t step m
  exact_middle rounded is =
      let units = in_units in
      let below = below_in rounded.not_below in
      let above = above_in s rounded.not_above in
      record {
        reached = omega arith;
        not_below = omega arith;
        not_above = omega arith;
        tie_below = λ tie. rounded.tie_below refl (cancel (2 * m * half) (s + half) u some (rw (spread s half u) (omega arith)));
        tie_above = λ tie. (rounded.tie_above (cancel s (2 * m * half + half) u some (rw (spread (2 * m * half) half u) (omega arith)))).1;
      }

  above_more : IsRounded s half true m → s + 1 ≤ 2 * m * half + half
  above_more rounded = ⊎_elim (λ less. omega arith)
      (λ not_less. let tie : s ≡ 2 * m * half + half = omega (arith, rounded.not_above) in let no = (rounded.tie_above tie).0 in cc)
      (cases_lt s (2 * m * half + half))

  more_middle : IsRounded s half true m → s * u < t → t < (s + 1) * u → IsMiddle t step m
  more_middle rounded more less =
      let units = in_units in
      let below = below_in rounded.not_below in
      let above = above_in (s + 1) (above_more rounded) in
      record {
        reached = omega arith;
        not_below = omega arith;
        not_above = omega arith;
        tie_below = λ tie. absurd (omega arith);
        tie_above = λ tie. absurd (omega arith);
      }

  in_denominator : (n unit d : ℕ) → u ≡ unit * d → n * u ≡ n * unit * d
  in_denominator n unit d is = ap (λ k. n * k) is ∙ omega arith

  pub rounded_middle : (left_over : Bool) (unit d : ℕ) → u ≡ unit * d → IsRounded s half left_over m → IsAbout t d s unit left_over → IsMiddle t step m
  rounded_middle false unit d is rounded about = exact_middle rounded (about ∙ sym (in_denominator s unit d is))
  rounded_middle true unit d is rounded about =
      let here = in_denominator s unit d is in
      let next = in_denominator (s + 1) unit d is in
      more_middle rounded (omega arith) (omega arith)

-- a number that needs no rounding is the value
whole_middle : (m step t : ℕ) → 0 < step → 2 ^ 52 ≤ m → t ≡ m * step → IsMiddle t step m
whole_middle m step t some low is =
    let reached = mul-le (2 ^ 52) step m step low (omega arith) in
    record {
      reached = omega arith;
      not_below = omega arith;
      not_above = omega arith;
      tie_below = λ tie. absurd (omega arith);
      tie_above = λ tie. absurd (omega arith);
    }

-- powers of 2
pub half_is : (top : ℕ) → 53 ≤ top → top < 128 → (1 * 2 ^ ((top - 52) - 1)) % 2 ^ 128 ≡ 2 ^ (top - 53)
half_is top low high = one_shl ((top - 52) - 1) 128 (omega arith) ∙ ap (λ e. 2 ^ e) (omega arith)

pub split_power : (i j : ℕ) → i ≤ j → 2 ^ i * 2 ^ (j - i) ≡ 2 ^ j
split_power i j below = sym (pow-add 2 i (j - i)) ∙ ap (λ e. 2 ^ e) (omega arith)

-- the bits of a short number are moved up
pub short_mantissa : (s top : ℕ) (left_over : Bool) → top ≤ 52 → 2 ^ top ≤ s → s < 2 * 2 ^ top → IsMantissa s top left_over ((s * 2 ^ (52 - top)) % 2 ^ 64)
short_mantissa s top left_over short low high =
    let power = split_power top 52 short in
    let below : s < 2 ^ (top + 1) = rw (twice top) high in
    let whole = shl_whole s (top + 1) (52 - top) 64 below (omega arith) in
    let least = mul-le (2 ^ top) (2 ^ (52 - top)) s (2 ^ (52 - top)) low (omega arith) in
    let most = mul-le s (2 ^ (52 - top)) (2 * 2 ^ top) (2 ^ (52 - top)) (omega arith) (omega arith) in
    (omega arith, omega arith, (λ _. whole, λ long. absurd (omega arith)))

short_scale : (s unit moved power d : ℕ) → moved * power ≡ unit → s * unit * d ≡ s * moved * (power * d)
short_scale s unit moved power d is = ap (λ k. s * k * d) (sym is) ∙ omega arith

long_step : (half scale power d : ℕ) → power ≡ 2 * (half * scale) → power * d ≡ 2 * half * (scale * d)
long_step half scale power d is = ap (λ k. k * d) is ∙ omega arith

-- the word of a number times a power of 2
module _ (s scale top m n d : ℕ) (left_over : Bool) (low : 2 ^ top ≤ s) (bound : top < 128) (scale_low : 54 ≤ scale) (scale_high : scale < 1980)
    (short : 1076 ≤ scale → s < 2 ^ 53) (mantissa : IsMantissa s top left_over m) (some : 0 < d) (about : IsAbout (n * scaled_one) d s (2 ^ scale) left_over) where
  exponent_small : scale + top - 52 < 2045
  exponent_small = ⊎_elim (λ small. omega arith)
      (λ large. ⊎_elim (λ few. omega arith)
      (λ many. let power : 2 ^ 53 ≤ 2 ^ top = pow-le-pow_right {n = 2} (omega arith) {i = 53} {j = top} many in let few = short large in absurd (omega arith))
      (cases_lt top 53))
      (cases_lt scale 1076)

  short_middle : top ≤ 52 → left_over ≡ false → IsMiddle (n * scaled_one) (2 ^ (scale + top - 52) * d) m
  short_middle few exact =
      let x = scale + top - 52 in
      let power : 2 ^ (52 - top) * 2 ^ x ≡ 2 ^ scale = sym (pow-add 2 (52 - top) x) ∙ ap (λ e. 2 ^ e) (omega arith) in
      let value : n * scaled_one ≡ s * 2 ^ scale * d = subst (λ b. IsAbout (n * scaled_one) d s (2 ^ scale) b) exact about in
      let is : m ≡ s * 2 ^ (52 - top) = mantissa.2.0 few in
      whole_middle m (2 ^ x * d) (n * scaled_one) (mul-le 1 1 (2 ^ x) d (pow_pos x) some) mantissa.0
      (value ∙ short_scale s (2 ^ scale) (2 ^ (52 - top)) (2 ^ x) d power ∙ ap (λ k. k * (2 ^ x * d)) (sym is))

  long_middle : 53 ≤ top → IsMiddle (n * scaled_one) (2 ^ (scale + top - 52) * d) m
  long_middle many =
      let x = scale + top - 52 in
      let half = 2 ^ (top - 53) in
      let joined : half * 2 ^ scale ≡ 2 ^ (top - 53 + scale) = sym (pow-add 2 (top - 53) scale) in
      let power : 2 ^ x ≡ 2 * (half * 2 ^ scale) = ap (λ e. 2 ^ e) (omega arith) ∙ twice (top - 53 + scale) ∙ ap (λ k. 2 * k) (sym joined) in
      let whole = split_power 53 top many in
      rounded_middle s half m (n * scaled_one) (2 ^ scale * d) (2 ^ x * d) (mul-le 1 1 (2 ^ scale) d (pow_pos scale) some)
      (long_step half (2 ^ scale) (2 ^ x) d power) (omega arith) left_over (2 ^ scale) d refl (mantissa.2.1 many) about

  pub word_is_nearest : (IsTrue left_over → 53 ≤ top) → IsNearest n d (((scale + top - 52 - 1) * 2 ^ 52) % 2 ^ 64 + m)
  word_is_nearest enough =
      let small = exponent_small in
      nearest_from_middle n d (scale + top - 52) (((scale + top - 52 - 1) * 2 ^ 52) % 2 ^ 64 + m) (omega arith) small m (omega arith) mantissa.0 mantissa.1
      (⊎_elim (λ few. short_middle (omega arith) (false_from few enough left_over refl)) (λ many. long_middle many) (cases_lt top 53))
    where
      false_from : top < 53 → (IsTrue left_over → 53 ≤ top) → (b : Bool) → b ≡ left_over → left_over ≡ false
      false_from few enough false is = sym is
      false_from few enough true is = absurd (let many = enough (sym is) in omega arith)

-- a number of more than 53 bits has a high bit
pub enough_bits : (s top : ℕ) → 2 ^ 53 ≤ s → s < 2 * 2 ^ top → 53 ≤ top
enough_bits s top many below = ⊎_elim
    (λ few. let power : 2 ^ top ≤ 2 ^ 52 = pow-le-pow_right {n = 2} (omega arith) {i = top} {j = 52} (omega arith) in absurd (omega arith))
    (λ enough. enough) (cases_lt top 53)

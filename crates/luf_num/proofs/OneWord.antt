-- A value has one word.
use Rattle.std.proofs.Common.{◌≡◌, ℕ, zero, suc, ◌+◌, ◌-◌, ◌*◌, ◌/◌, ◌%◌, ◌^◌, ◌<◌, ◌≤◌, List, sym, ap, ◌∙◌, subst, ⊎_elim, arith}
use Rattle.std.proofs.lemmas.Bool.{cases_order}
use Rattle.std.proofs.lemmas.Nat.{mul-le, pow_pos}
use Rattle.std.proofs.Math.Nat.{one-le-pow}
use Rattle.luf_num.specs.Float.{Scaled, IsFloat}
use Rattle.luf_num.specs.Word.{IsFloatWord, IsNearest, IsWord, middle_above, middle_below, scaled_value}
use Rattle.luf_num.proofs.OneFloat.{one_value}
use Rattle.luf_num.proofs.Rounding.{value_to, value_next}

-- the values of words rise
rises : (w : ℕ) → 2 ^ 52 ≤ w → scaled_value w < scaled_value (w + 1)
rises w low =
    let x = w / 2 ^ 52 in
    let m = 2 ^ 52 + w % 2 ^ 52 in
    let is : w ≡ (x - 1) * 2 ^ 52 + m = omega arith in
    let here = value_to w x m is (omega arith) (omega arith) (omega arith) in
    let next = value_next w x m is (omega arith) (omega arith) (omega arith) in
    let some = pow_pos x in
    omega arith

rises_by : (w n : ℕ) → 2 ^ 52 ≤ w → scaled_value w ≤ scaled_value (w + n)
rises_by w zero low = let same : scaled_value (w + 0) ≡ scaled_value w = ap scaled_value (omega arith) in omega arith
rises_by w (suc n) low =
    let more = rises_by w n low in
    let last = rises (w + n) (omega arith) in
    let same : scaled_value (w + n + 1) ≡ scaled_value (w + suc n) = ap scaled_value (omega arith) in
    omega arith

rises_to : (v w : ℕ) → 2 ^ 52 ≤ v → v ≤ w → scaled_value v ≤ scaled_value w
rises_to v w low below =
    let same : scaled_value (v + (w - v)) ≡ scaled_value w = ap scaled_value (omega arith) in
    let more = rises_by v (w - v) low in omega arith

-- of two words the middle above the lower is not above the middle below the higher, and below it where they are not neighbours
middles : (v w d : ℕ) → 2 ^ 52 ≤ v → v < w → middle_above v * d ≤ middle_below w * d
middles v w d low below =
    let here = rises_to v (w - 1) low (omega arith) in
    let next = rises_to (v + 1) w (omega arith) (omega arith) in
    mul-le (middle_above v) d (middle_below w) d (omega arith) (omega arith)

apart : (v w d : ℕ) → 0 < d → 2 ^ 52 ≤ v → v + 1 < w → middle_above v * d < middle_below w * d
apart v w d some low below =
    let first = rises v low in
    let here = rises_to (v + 1) (w - 1) (omega arith) (omega arith) in
    let next = rises_to (v + 1) w (omega arith) (omega arith) in
    let more = mul-le (middle_above v + 1) d (middle_below w) d (omega arith) (omega arith) in
    omega arith

not_below : (n d v w : ℕ) → 0 < d → IsNearest n d v → IsNearest n d w → v < w → ⊥
not_below n d v w some nv nw below =
    let over = middles v w d nv.normal below in
    let above = nv.not_above in
    let under = nw.not_below in
    let even_v = nv.tie_above (omega arith) in
    let even_w = nw.tie_below (omega arith) in
    let more = apart v w d some nv.normal (omega arith) in
    omega arith

one_nearest : (n d v w : ℕ) → 0 < d → IsNearest n d v → IsNearest n d w → v ≡ w
one_nearest n d v w some nv nw = ⊎_elim (λ same. same)
    (λ apart_by. ⊎_elim (λ below. absurd (not_below n d v w some nv nw below)) (λ above. absurd (not_below n d w v some nw nv above)) apart_by) (cases_order v w)

-- the bases are not 0
base_some : (s : List ℕ) (v : Scaled) → IsFloat s v → 0 < v.base
base_some s v float = ⊎_elim
    (λ decimal. ⊎_elim (λ integer. omega (arith, integer.base_is)) (λ scaled. omega (arith, scaled.base_is)) decimal)
    (λ hex. omega (arith, hex.scaled.base_is)) float

word_of_value : (v : Scaled) (a b : ℕ) → 0 < v.base → IsWord v a → IsWord v b → a ≡ b
word_of_value v a b some wa wb = ⊎_elim
    (λ none. ⊎_elim (λ too. none.1 ∙ sym too.1) (λ more. absurd (omega (arith, none.0, more.0))) wb)
    (λ more. ⊎_elim (λ none. absurd (omega (arith, none.0, more.0)))
    (λ too. one_nearest (v.digits * v.base ^ v.up) (v.base ^ v.down) a b (one-le-pow v.down v.base some) more.1 too.1) wb) wa

pub one_word : (s : List ℕ) (v w : ℕ) → IsFloatWord s v → IsFloatWord s w → v ≡ w
one_word s v w fv fw =
    let same = one_value s fv.value fw.value fv.float fw.float in
    word_of_value fw.value v w (base_some s fw.value fw.float) (subst (λ x. IsWord x v) same fv.word_is) fw.word_is

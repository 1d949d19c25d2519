-- An instruction that fits is known by its word.
use Rattle.std.proofs.Common.{◌≡◌, ◌∙◌, ap, sym, refl, ℕ, ◌+◌, ◌*◌, ◌^◌, ◌%◌, ◌<◌, Bool, true, false, ℤ, pos, negsuc, arith}
use Rattle.luf_ops.specs.Operation.{number_of, form_of}
use Rattle.luf_ops.specs.Instruction.{Fits, op_of, IsStorable, bit, stored, sbx_excess, sj_excess, word_of}
use Rattle.luf_ops.specs.declared.form.Form.{Form}
use Rattle.luf_ops.specs.declared.form.Form.TheVariants as form
use Rattle.luf_ops.specs.declared.instr.Instr.{Instr}
use Rattle.luf_ops.specs.declared.instr.Instr.TheVariants as instr
use Rattle.luf_ops.proofs.Numbers.{number_of-below, number_of-same}

-- the lowest bits of a word are the number of its operation
pub word_of-mod : (i : Instr) → word_of i % 2 ^ 7 ≡ number_of (op_of i)
word_of-mod (instr.Abc op a k b c) = let below = number_of-below op in omega arith
word_of-mod (instr.Abx op a bx) = let below = number_of-below op in omega arith
word_of-mod (instr.Asbx op a sbx) = let below = number_of-below op in omega arith
word_of-mod (instr.Ax op ax) = let below = number_of-below op in omega arith
word_of-mod (instr.Sj op sj) = let below = number_of-below op in omega arith

same_op : (i j : Instr) → word_of i ≡ word_of j → op_of i ≡ op_of j
same_op i j e = number_of-same (op_of i) (op_of j) (sym (word_of-mod i) ∙ ap (λ (w : ℕ). w % 2 ^ 7) e ∙ word_of-mod j)

bit-same : (k l : Bool) → bit k ≡ bit l → k ≡ l
bit-same true true e = refl
bit-same true false e = absurd (omega arith)
bit-same false true e = absurd (omega arith)
bit-same false false e = refl

stored-same : (excess limit : ℕ) (y z : ℤ) → IsStorable excess limit y → IsStorable excess limit z → stored excess y ≡ stored excess z → y ≡ z
stored-same excess limit (pos m) (pos n) y z e = ap pos (omega arith)
stored-same excess limit (pos m) (negsuc n) y z e = absurd (omega arith)
stored-same excess limit (negsuc m) (pos n) y z e = absurd (omega arith)
stored-same excess limit (negsuc m) (negsuc n) y z e = ap negsuc (omega arith)

bit-below : (k : Bool) → bit k < 2
bit-below true = omega arith
bit-below false = omega arith

-- the form that an instruction has, and that its operation wants
abbrev form_in : Instr → Form
form_in (instr.Abc op a k b c) = form.Abc
form_in (instr.Abx op a bx) = form.Abx
form_in (instr.Asbx op a sbx) = form.Asbx
form_in (instr.Ax op ax) = form.Ax
form_in (instr.Sj op sj) = form.Sj

form_of-op_of : (i : Instr) → Fits i → form_of (op_of i) ≡ form_in i
form_of-op_of (instr.Abc op a k b c) fits = fits.0
form_of-op_of (instr.Abx op a bx) fits = fits.0
form_of-op_of (instr.Asbx op a sbx) fits = fits.0
form_of-op_of (instr.Ax op ax) fits = fits.0
form_of-op_of (instr.Sj op sj) fits = fits.0

same_form : (i j : Instr) → Fits i → Fits j → word_of i ≡ word_of j → form_in i ≡ form_in j
same_form i j fits_i fits_j e = sym (form_of-op_of i fits_i) ∙ ap form_of (same_op i j e) ∙ form_of-op_of j fits_j

-- the fields of a word, lowest first
abc_fields : (n a k b c n' a' k' b' c' : ℕ) → a < 2 ^ 8 → a' < 2 ^ 8 → k < 2 → k' < 2 → b < 2 ^ 8 → b' < 2 ^ 8 → n ≡ n' → n + a * 2 ^ 7 + k * 2 ^ 15 + b * 2 ^ 16 + c * 2 ^ 24 ≡ n' + a' * 2 ^ 7 + k' * 2 ^ 15 + b' * 2 ^ 16 + c' * 2 ^ 24 → (a ≡ a') × (k ≡ k') × (b ≡ b') × (c ≡ c')
abc_fields n a k b c n' a' k' b' c' a_fits a_fits' k_fits k_fits' b_fits b_fits' same e =
    let a_same : a ≡ a' = omega arith in
    let k_same : k ≡ k' = omega arith in
    let b_same : b ≡ b' = omega arith in
    (a_same, k_same, b_same, omega arith)

abx_fields : (n a bx n' a' bx' : ℕ) → a < 2 ^ 8 → a' < 2 ^ 8 → n ≡ n' → n + a * 2 ^ 7 + bx * 2 ^ 15 ≡ n' + a' * 2 ^ 7 + bx' * 2 ^ 15 → (a ≡ a') × (bx ≡ bx')
abx_fields n a bx n' a' bx' a_fits a_fits' same e =
    let a_same : a ≡ a' = omega arith in
    (a_same, omega arith)

ax_fields : (n ax n' ax' : ℕ) → n ≡ n' → n + ax * 2 ^ 7 ≡ n' + ax' * 2 ^ 7 → ax ≡ ax'
ax_fields n ax n' ax' same e = omega arith

pub word_of-same : (i j : Instr) → Fits i → Fits j → word_of i ≡ word_of j → i ≡ j
word_of-same (instr.Abc op a k b c) (instr.Abc op' a' k' b' c') fits fits' e =
    let op_same : op ≡ op' = same_op (instr.Abc op a k b c) (instr.Abc op' a' k' b' c') e in
    let fields = abc_fields (number_of op) a (bit k) b c (number_of op') a' (bit k') b' c' fits.1 fits'.1 (bit-below k) (bit-below k') fits.2 fits'.2 (ap number_of op_same) e in
    let k_same : k ≡ k' = bit-same k k' fields.1 in
    cc (fields.0, fields.2, fields.3)
word_of-same (instr.Abc op a k b c) (instr.Abx op' a' bx') fits fits' e = cc (same_form (instr.Abc op a k b c) (instr.Abx op' a' bx') fits fits' e)
word_of-same (instr.Abc op a k b c) (instr.Asbx op' a' sbx') fits fits' e = cc (same_form (instr.Abc op a k b c) (instr.Asbx op' a' sbx') fits fits' e)
word_of-same (instr.Abc op a k b c) (instr.Ax op' ax') fits fits' e = cc (same_form (instr.Abc op a k b c) (instr.Ax op' ax') fits fits' e)
word_of-same (instr.Abc op a k b c) (instr.Sj op' sj') fits fits' e = cc (same_form (instr.Abc op a k b c) (instr.Sj op' sj') fits fits' e)
word_of-same (instr.Abx op a bx) (instr.Abc op' a' k' b' c') fits fits' e = cc (same_form (instr.Abx op a bx) (instr.Abc op' a' k' b' c') fits fits' e)
word_of-same (instr.Abx op a bx) (instr.Abx op' a' bx') fits fits' e =
    let op_same : op ≡ op' = same_op (instr.Abx op a bx) (instr.Abx op' a' bx') e in
    let fields = abx_fields (number_of op) a bx (number_of op') a' bx' fits.1 fits'.1 (ap number_of op_same) e in
    cc (fields.0, fields.1)
word_of-same (instr.Abx op a bx) (instr.Asbx op' a' sbx') fits fits' e = cc (same_form (instr.Abx op a bx) (instr.Asbx op' a' sbx') fits fits' e)
word_of-same (instr.Abx op a bx) (instr.Ax op' ax') fits fits' e = cc (same_form (instr.Abx op a bx) (instr.Ax op' ax') fits fits' e)
word_of-same (instr.Abx op a bx) (instr.Sj op' sj') fits fits' e = cc (same_form (instr.Abx op a bx) (instr.Sj op' sj') fits fits' e)
word_of-same (instr.Asbx op a sbx) (instr.Abc op' a' k' b' c') fits fits' e = cc (same_form (instr.Asbx op a sbx) (instr.Abc op' a' k' b' c') fits fits' e)
word_of-same (instr.Asbx op a sbx) (instr.Abx op' a' bx') fits fits' e = cc (same_form (instr.Asbx op a sbx) (instr.Abx op' a' bx') fits fits' e)
word_of-same (instr.Asbx op a sbx) (instr.Asbx op' a' sbx') fits fits' e =
    let op_same : op ≡ op' = same_op (instr.Asbx op a sbx) (instr.Asbx op' a' sbx') e in
    let fields = abx_fields (number_of op) a (stored sbx_excess sbx) (number_of op') a' (stored sbx_excess sbx') fits.1 fits'.1 (ap number_of op_same) e in
    let sbx_same : sbx ≡ sbx' = stored-same sbx_excess (2 ^ 17) sbx sbx' fits.2 fits'.2 fields.1 in
    cc (fields.0)
word_of-same (instr.Asbx op a sbx) (instr.Ax op' ax') fits fits' e = cc (same_form (instr.Asbx op a sbx) (instr.Ax op' ax') fits fits' e)
word_of-same (instr.Asbx op a sbx) (instr.Sj op' sj') fits fits' e = cc (same_form (instr.Asbx op a sbx) (instr.Sj op' sj') fits fits' e)
word_of-same (instr.Ax op ax) (instr.Abc op' a' k' b' c') fits fits' e = cc (same_form (instr.Ax op ax) (instr.Abc op' a' k' b' c') fits fits' e)
word_of-same (instr.Ax op ax) (instr.Abx op' a' bx') fits fits' e = cc (same_form (instr.Ax op ax) (instr.Abx op' a' bx') fits fits' e)
word_of-same (instr.Ax op ax) (instr.Asbx op' a' sbx') fits fits' e = cc (same_form (instr.Ax op ax) (instr.Asbx op' a' sbx') fits fits' e)
word_of-same (instr.Ax op ax) (instr.Ax op' ax') fits fits' e =
    let op_same : op ≡ op' = same_op (instr.Ax op ax) (instr.Ax op' ax') e in
    let ax_same : ax ≡ ax' = ax_fields (number_of op) ax (number_of op') ax' (ap number_of op_same) e in
    cc
word_of-same (instr.Ax op ax) (instr.Sj op' sj') fits fits' e = cc (same_form (instr.Ax op ax) (instr.Sj op' sj') fits fits' e)
word_of-same (instr.Sj op sj) (instr.Abc op' a' k' b' c') fits fits' e = cc (same_form (instr.Sj op sj) (instr.Abc op' a' k' b' c') fits fits' e)
word_of-same (instr.Sj op sj) (instr.Abx op' a' bx') fits fits' e = cc (same_form (instr.Sj op sj) (instr.Abx op' a' bx') fits fits' e)
word_of-same (instr.Sj op sj) (instr.Asbx op' a' sbx') fits fits' e = cc (same_form (instr.Sj op sj) (instr.Asbx op' a' sbx') fits fits' e)
word_of-same (instr.Sj op sj) (instr.Ax op' ax') fits fits' e = cc (same_form (instr.Sj op sj) (instr.Ax op' ax') fits fits' e)
word_of-same (instr.Sj op sj) (instr.Sj op' sj') fits fits' e =
    let op_same : op ≡ op' = same_op (instr.Sj op sj) (instr.Sj op' sj') e in
    let stored_same : stored sj_excess sj ≡ stored sj_excess sj' = ax_fields (number_of op) (stored sj_excess sj) (number_of op') (stored sj_excess sj') (ap number_of op_same) e in
    let sj_same : sj ≡ sj' = stored-same sj_excess (2 ^ 25) sj sj' fits.1 fits'.1 stored_same in
    cc

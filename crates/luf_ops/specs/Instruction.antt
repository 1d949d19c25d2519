-- Instructions and their words (lopcodes.h, "Instruction Format"). A word has 32 bits: the number of the operation in
-- bits 0 to 6; then A in 7 to 14, k in 15, B in 16 to 23 and C in 24 to 31, or A and Bx in 15 to 31, or A and sBx
-- there, or Ax in 7 to 31, or sJ there. A signed field is stored with an excess, half of the largest number that its
-- bits hold, rounded down, added to it.
use Rattle.std.specs.Prelude.{◌≡◌, ℕ, ◌+◌, ◌-◌, ◌*◌, ◌/◌, ◌%◌, ◌^◌, ◌<◌, ◌==◌, suc, Bool, true, false, ℤ, pos, negsuc, ◌-ℤ◌, Option, option_map, slice_get}
use Rattle.luf_ops.specs.Operation.{form_of, number_of, operations}
use Rattle.luf_ops.specs.declared.op.Op.{Op}
use Rattle.luf_ops.specs.declared.form.Form.{Form}
use Rattle.luf_ops.specs.declared.form.Form.TheVariants as form
use Rattle.luf_ops.specs.declared.instr.Instr.{Instr}
use Rattle.luf_ops.specs.declared.instr.Instr.TheVariants as instr

abbrev pub op_of : Instr → Op
op_of (instr.Abc op a k b c) = op
op_of (instr.Abx op a bx) = op
op_of (instr.Asbx op a sbx) = op
op_of (instr.Ax op ax) = op
op_of (instr.Sj op sj) = op

-- the excess of sBx, whose field has 17 bits, and that of sJ, whose field has 25
abbrev pub sbx_excess : ℕ
sbx_excess = 65535

abbrev pub sj_excess : ℕ
sj_excess = 16777215

-- a signed number as it is stored
abbrev pub stored : ℕ → ℤ → ℕ
stored excess (pos n) = n + excess
stored excess (negsuc n) = excess - suc n

-- with the excess the number is not negative, and below the limit
abbrev pub IsStorable : ℕ → ℕ → ℤ → Type 0
IsStorable excess limit (pos n) = n + excess < limit
IsStorable excess limit (negsuc n) = n < excess

-- the operation has the form of the instruction, and each operand has room in its field
abbrev pub Fits : Instr → Type 0
Fits (instr.Abc op a k b c) = (form_of op ≡ form.Abc) × (a < 2 ^ 8) × (b < 2 ^ 8) × (c < 2 ^ 8)
Fits (instr.Abx op a bx) = (form_of op ≡ form.Abx) × (a < 2 ^ 8) × (bx < 2 ^ 17)
Fits (instr.Asbx op a sbx) = (form_of op ≡ form.Asbx) × (a < 2 ^ 8) × IsStorable sbx_excess (2 ^ 17) sbx
Fits (instr.Ax op ax) = (form_of op ≡ form.Ax) × (ax < 2 ^ 25)
Fits (instr.Sj op sj) = (form_of op ≡ form.Sj) × IsStorable sj_excess (2 ^ 25) sj

abbrev pub bit : Bool → ℕ
bit true = 1
bit false = 0

-- the word of an instruction that fits
abbrev pub word_of : Instr → ℕ
word_of (instr.Abc op a k b c) = number_of op + a * 2 ^ 7 + bit k * 2 ^ 15 + b * 2 ^ 16 + c * 2 ^ 24
word_of (instr.Abx op a bx) = number_of op + a * 2 ^ 7 + bx * 2 ^ 15
word_of (instr.Asbx op a sbx) = number_of op + a * 2 ^ 7 + stored sbx_excess sbx * 2 ^ 15
word_of (instr.Ax op ax) = number_of op + ax * 2 ^ 7
word_of (instr.Sj op sj) = number_of op + stored sj_excess sj * 2 ^ 7

-- so many bits of a word, from a first one on
abbrev pub field : ℕ → ℕ → ℕ → ℕ
field first bits word = word / 2 ^ first % 2 ^ bits

-- the instruction of an operation of this form, with the operands that a word has
abbrev pub instruction_with : Form → Op → ℕ → Instr
instruction_with form.Abc op word = instr.Abc op (field 7 8 word) (field 15 1 word == 1) (field 16 8 word) (field 24 8 word)
instruction_with form.Abx op word = instr.Abx op (field 7 8 word) (field 15 17 word)
instruction_with form.Asbx op word = instr.Asbx op (field 7 8 word) (pos (field 15 17 word) -ℤ pos sbx_excess)
instruction_with form.Ax op word = instr.Ax op (field 7 25 word)
instruction_with form.Sj op word = instr.Sj op (pos (field 7 25 word) -ℤ pos sj_excess)

-- the instruction of a word, where its lowest bits are the number of an operation
abbrev pub instruction_of : ℕ → Option Instr
instruction_of word = option_map (λ op. instruction_with (form_of op) op word) (slice_get operations (word % 2 ^ 7))

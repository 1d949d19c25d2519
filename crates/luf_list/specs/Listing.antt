-- The listing of a function (our own rule). Numbers are in decimal, positions and indexes count from 0, and each line
-- ends in LF.
use Rattle.std.specs.Prelude.{ℕ, ◌+◌, ◌*◌, ◌/◌, ◌%◌, ◌^◌, suc, zero, ℤ, Bool, true, false, ◌==◌, ◌||◌, ◌&&◌, nat_lt, nat_le, List, [], ◌∷◌, ◌++◌, codes, decimal, Option, Some, None, if◌then◌else◌}
use Rattle.std.specs.List.{flat_map}
use Rattle.std.specs.Fmt.{signed_decimal}
use Rattle.luf_ops.specs.Operation.{name_of}
use Rattle.luf_ops.specs.Instruction.{bit, instruction_of, op_of}
use Rattle.luf_ops.specs.declared.instr.Instr.{Instr}
use Rattle.luf_ops.specs.declared.instr.Instr.TheVariants as instr
use Rattle.luf_proto.specs.Function.{Function, Functions, function, no_functions, more_functions}
use Rattle.luf_proto.specs.declared.proto.Const.{Const}
use Rattle.luf_proto.specs.declared.proto.Const.TheVariants as const
use Rattle.luf_proto.specs.declared.proto.Upval.{Upval}

abbrev pub line_end : List ℕ
line_end = 10 ∷ []

-- so many lower-case hexadecimal digits of a number, the lowest last
abbrev pub hex_digit : ℕ → ℕ
hex_digit d = if nat_lt d 10 then 48 + d else 87 + d

abbrev pub hex : ℕ → ℕ → List ℕ
hex zero n = []
hex (suc place) n = hex_digit (n / 2 ^ (4 * place) % 2 ^ 4) ∷ hex place n

-- ---- code

-- an instruction: its position, the name of its operation and its operands, with k where it is 1
abbrev pub line_front : ℕ → List ℕ → ℕ → List ℕ
line_front position name a = decimal position ++ codes " " ++ name ++ codes " " ++ decimal a

abbrev pub abck_line : List ℕ → ℕ → ℕ → List ℕ
abck_line front b c = front ++ codes " " ++ decimal b ++ codes " " ++ decimal c ++ codes " k" ++ line_end

abbrev pub abc_line : List ℕ → ℕ → ℕ → List ℕ
abc_line front b c = front ++ codes " " ++ decimal b ++ codes " " ++ decimal c ++ line_end

abbrev pub abx_line : ℕ → List ℕ → ℕ → ℕ → List ℕ
abx_line position name a bx = decimal position ++ codes " " ++ name ++ codes " " ++ decimal a ++ codes " " ++ decimal bx ++ line_end

abbrev pub asbx_line : ℕ → List ℕ → ℕ → ℤ → List ℕ
asbx_line position name a sbx = decimal position ++ codes " " ++ name ++ codes " " ++ decimal a ++ codes " " ++ signed_decimal sbx ++ line_end

abbrev pub ax_line : ℕ → List ℕ → ℕ → List ℕ
ax_line position name ax = decimal position ++ codes " " ++ name ++ codes " " ++ decimal ax ++ line_end

abbrev pub sj_line : ℕ → List ℕ → ℤ → List ℕ
sj_line position name sj = decimal position ++ codes " " ++ name ++ codes " " ++ signed_decimal sj ++ line_end

abbrev pub named_line : ℕ → List ℕ → Instr → List ℕ
named_line position name (instr.Abc op a true b c) = abck_line (line_front position name a) b c
named_line position name (instr.Abc op a false b c) = abc_line (line_front position name a) b c
named_line position name (instr.Abx op a bx) = abx_line position name a bx
named_line position name (instr.Asbx op a sbx) = asbx_line position name a sbx
named_line position name (instr.Ax op ax) = ax_line position name ax
named_line position name (instr.Sj op sj) = sj_line position name sj

abbrev pub instruction_line : ℕ → Instr → List ℕ
instruction_line position i = named_line position (name_of (op_of i)) i

-- a word that is no instruction is listed as it is
abbrev pub code_line : ℕ → ℕ → Option Instr → List ℕ
code_line position word (Some i) = instruction_line position i
code_line position word None = decimal position ++ codes " RAW " ++ hex 8 word ++ line_end

-- from a position on
abbrev pub code_lines : ℕ → List ℕ → List ℕ
code_lines position [] = []
code_lines position (word ∷ words) = code_line position word (instruction_of word) ++ code_lines (position + 1) words

-- ---- constants

-- `"` and `\`
abbrev pub is_quoted : ℕ → Bool
is_quoted b = b == 34 || b == 92

-- printable ASCII
abbrev pub is_printable : ℕ → Bool
is_printable b = nat_le 32 b && nat_le b 126

-- A byte of a string: `"` and `\` have a backslash, and what is not printable is a backslash and three decimal digits.
abbrev pub escaped : ℕ → List ℕ
escaped b =
    if is_quoted b then 92 ∷ b ∷ []
    else if is_printable b then b ∷ []
    else 92 ∷ (48 + b / 100) ∷ (48 + b / 10 % 10) ∷ (48 + b % 10) ∷ []

abbrev pub constant_text : Const → List ℕ
constant_text const.Nil = codes "nil"
constant_text const.False = codes "false"
constant_text const.True = codes "true"
constant_text (const.Int n) = codes "int " ++ signed_decimal n
constant_text (const.Spelled spelling) = codes "float " ++ spelling
constant_text (const.Word word) = codes "word " ++ hex 16 word
constant_text (const.Str text) = codes "str " ++ 34 ∷ flat_map escaped text ++ 34 ∷ []

abbrev pub constant_line : ℕ → Const → List ℕ
constant_line index c = codes "k " ++ decimal index ++ codes " " ++ constant_text c ++ line_end

-- from an index on
abbrev pub constant_lines : ℕ → List Const → List ℕ
constant_lines index [] = []
constant_lines index (c ∷ cs) = constant_line index c ++ constant_lines (index + 1) cs

-- ---- upvalues: where it is found, and its kind

abbrev pub upvalue_line : ℕ → ℕ → ℕ → ℕ → List ℕ
upvalue_line index instack idx kind = codes "u " ++ decimal index ++ codes " " ++ decimal instack ++ codes " " ++ decimal idx ++ codes " " ++ decimal kind ++ line_end

-- from an index on
abbrev pub upvalue_lines : ℕ → List Upval → List ℕ
upvalue_lines index [] = []
upvalue_lines index (u ∷ us) = upvalue_line index (bit u.instack) u.idx u.kind ++ upvalue_lines (index + 1) us

-- ---- functions: the path of an inner one is that of the outer, a point and its index

abbrev pub head_front : List ℕ → ℕ → ℕ → List ℕ
head_front path parameters vararg = codes "function " ++ path ++ codes " params " ++ decimal parameters ++ codes " vararg " ++ decimal vararg

abbrev pub head_line : List ℕ → ℕ → ℕ → ℕ → List ℕ
head_line front registers line_from line_to = front ++ codes " stack " ++ decimal registers ++ codes " lines " ++ decimal line_from ++ codes " " ++ decimal line_to ++ line_end

-- the lines of a function itself
abbrev pub own_lines : List ℕ → ℕ → Bool → ℕ → List ℕ → List Const → List Upval → ℕ → ℕ → List ℕ
own_lines path parameters vararg registers code constants upvalues line_from line_to =
    head_line (head_front path parameters (bit vararg)) registers line_from line_to
    ++ code_lines 0 code ++ constant_lines 0 constants ++ upvalue_lines 0 upvalues

abbrev pub inner_path : List ℕ → ℕ → List ℕ
inner_path path index = path ++ codes "." ++ decimal index

abbrev mutual
  pub listing_at : List ℕ → Function → List ℕ
  listing_at path (function parameters vararg registers code constants upvalues inner line_from line_to) =
      own_lines path parameters vararg registers code constants upvalues line_from line_to ++ inner_listings path 0 inner

  pub inner_listings : List ℕ → ℕ → Functions → List ℕ
  inner_listings path index no_functions = []
  inner_listings path index (more_functions first rest) =
      listing_at (inner_path path index) first ++ inner_listings path (index + 1) rest

-- the main function has the path 0
abbrev pub listing : Function → List ℕ
listing f = listing_at (codes "0") f

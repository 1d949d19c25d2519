-- What the bytes of a chunk of Lua 5.4 read as, from left to right, field by field, or the first field that is wrong, and how.
-- The order of the fields is that of ldump.c, the limits are rules of our own. Each part reads some bytes from the front and
-- gives what they stand for and the bytes behind them.
use Rattle.std.specs.Prelude.{ℕ, zero, suc, ◌+◌, ◌-◌, ◌*◌, ◌%◌, ◌^◌, Bool, true, false, ◌==◌, nat_lt, nat_le, List, [], ◌∷◌, length, take, drop, fold, Option, Some, None, Result, Ok, Err, if◌then◌else◌}
use Rattle.std.specs.Int.{w32, w64, from_le_bytes, cast_signed}
use Rattle.std.specs.List.{prefix_len}
use Rattle.luf_proto.specs.Chunk.{header, most_short}
use Rattle.luf_proto.specs.Function.{Function, function}
use Rattle.luf_proto.specs.FunctionOf.{functions_of}
use Rattle.luf_proto.specs.declared.proto.Const.{Const}
use Rattle.luf_proto.specs.declared.proto.Const.TheVariants as const
use Rattle.luf_proto.specs.declared.proto.Upval.{Upval}
use Rattle.luf_undump.specs.declared.function.Head.{Head}
use Rattle.luf_undump.specs.declared.error.ChunkWhat.{ChunkWhat}
use Rattle.luf_undump.specs.declared.error.ChunkWhat.TheVariants.{BadHeader, Short, BadSize, BadTag, Nested, Trailing}

-- a field that is wrong: how many bytes there are from its first on, and what is wrong with it
pub record Wrong : Type 0 where
  pub left : ℕ
  pub what : ChunkWhat

infixl 10 ◌>>=◌
abbrev pub ◌>>=◌ : {A B : Type 0} → Result A Wrong → (A → Result B Wrong) → Result B Wrong
(Ok x) >>= f = f x
(Err e) >>= f = Err e

-- the field that begins here is wrong
abbrev pub wrong : {A : Type 0} → List ℕ → ChunkWhat → Result A Wrong
wrong bytes what = Err (record { left = length bytes; what = what })

-- ---- single fields

unfoldable pub byte_at : List ℕ → Result (ℕ × List ℕ) Wrong
byte_at [] = wrong [] Short
byte_at (byte ∷ rest) = Ok (byte, rest)

-- a byte that must be this one
unfoldable pub fixed_byte_at : ℕ → List ℕ → Result (List ℕ) Wrong
fixed_byte_at wanted [] = wrong [] Short
fixed_byte_at wanted (byte ∷ rest) = if byte == wanted then Ok rest else wrong (byte ∷ rest) BadHeader

-- bytes that must be these
unfoldable pub fixed_at : List ℕ → List ℕ → Result (List ℕ) Wrong
fixed_at [] bytes = Ok bytes
fixed_at (wanted ∷ others) bytes = do
  rest ← fixed_byte_at wanted bytes
  fixed_at others rest

-- a group of 7 bits that is not the last of its size
abbrev pub is_group : ℕ → Bool
is_group byte = nat_lt byte 128

abbrev pub begins_with_zero : List ℕ → Bool
begins_with_zero [] = false
begins_with_zero (group ∷ groups) = group == 0

-- the number that groups of 7 bits write
abbrev pub value_of_groups : List ℕ → ℕ
value_of_groups groups = fold (λ value group. value * 128 + group) 0 groups

-- a size of which these are the groups but the last: the last has bit 0x80. None but a lone group is 0 at the front
unfoldable pub last_group_at : List ℕ → List ℕ → List ℕ → Result (ℕ × List ℕ) Wrong
last_group_at bytes groups [] = wrong bytes Short
last_group_at bytes groups (last ∷ rest) =
    if begins_with_zero groups then wrong bytes BadSize
    else if nat_lt (value_of_groups groups) (2 ^ 57) then Ok (value_of_groups groups * 128 + last % 128, rest)
    else wrong bytes BadSize

-- a size is below 2 ^ 64
unfoldable pub size_at : List ℕ → Result (ℕ × List ℕ) Wrong
size_at bytes = last_group_at bytes (take (prefix_len is_group bytes) bytes) (drop (prefix_len is_group bytes) bytes)

-- a count, a line or a counter: a size below 2 ^ 31
unfoldable pub count_at : List ℕ → Result (ℕ × List ℕ) Wrong
count_at bytes = do
  n ← size_at bytes
  if nat_lt n.0 (2 ^ 31) then Ok n else wrong bytes BadSize

-- so many bytes, as one field
unfoldable pub run_at : ℕ → List ℕ → Result (List ℕ × List ℕ) Wrong
run_at len bytes = if nat_lt (length bytes) len then wrong bytes Short else Ok (take len bytes, drop len bytes)

-- a number of 4 or 8 bytes
unfoldable pub word_at : List ℕ → Result (ℕ × List ℕ) Wrong
word_at bytes = if nat_lt (length bytes) 4 then wrong bytes Short else Ok (from_le_bytes w32 (take 4 bytes), drop 4 bytes)

unfoldable pub number_at : List ℕ → Result (ℕ × List ℕ) Wrong
number_at bytes = if nat_lt (length bytes) 8 then wrong bytes Short else Ok (from_le_bytes w64 (take 8 bytes), drop 8 bytes)

-- a byte that is 0 or 1
unfoldable pub flag_at : List ℕ → Result (Bool × List ℕ) Wrong
flag_at bytes = do
  b ← byte_at bytes
  if b.0 == 0 then Ok (false, b.1) else if b.0 == 1 then Ok (true, b.1) else wrong bytes BadTag

-- ---- parts

-- a string that may be absent, and that only debugging reads
unfoldable pub debug_string_at : List ℕ → Result (List ℕ) Wrong
debug_string_at bytes = do
  n ← size_at bytes
  s ← run_at (n.0 - 1) n.1
  Ok s.1

-- a short string has this length, or a long one
abbrev pub has_length : Bool → ℕ → Bool
has_length true len = nat_le len most_short
has_length false len = nat_lt most_short len

-- the string of a constant, short or long
unfoldable pub constant_string_at : Bool → List ℕ → Result (Const × List ℕ) Wrong
constant_string_at short bytes = do
  n ← size_at bytes
  s ← if n.0 == 0 then wrong bytes BadSize else if has_length short (n.0 - 1) then run_at (n.0 - 1) n.1 else wrong bytes BadSize
  Ok (const.Str s.0, s.1)

-- what stands behind the tag of a constant
unfoldable pub tagged_at : List ℕ → ℕ → List ℕ → Result (Const × List ℕ) Wrong
tagged_at bytes tag rest =
    if tag == 0 then Ok (const.Nil, rest)
    else if tag == 1 then Ok (const.False, rest)
    else if tag == 17 then Ok (const.True, rest)
    else if tag == 3 then (number_at rest >>= λ n. Ok (const.Int (cast_signed w64 n.0), n.1))
    else if tag == 19 then (number_at rest >>= λ n. Ok (const.Word n.0, n.1))
    else if tag == 4 then constant_string_at true rest
    else if tag == 20 then constant_string_at false rest
    else wrong bytes BadTag

unfoldable pub constant_at : List ℕ → Result (Const × List ℕ) Wrong
constant_at bytes = do
  tag ← byte_at bytes
  tagged_at bytes tag.0 tag.1

unfoldable pub kind_at : List ℕ → Result (ℕ × List ℕ) Wrong
kind_at bytes = do
  kind ← byte_at bytes
  if nat_le kind.0 3 then Ok kind else wrong bytes BadTag

unfoldable pub upvalue_at : List ℕ → Result (Upval × List ℕ) Wrong
upvalue_at bytes = do
  instack ← flag_at bytes
  idx ← byte_at instack.1
  kind ← kind_at idx.1
  Ok (record { instack = instack.0; idx = idx.0; kind = kind.0 }, kind.1)

-- so many of one kind, in order
unfoldable pub many_at : {A : Type 0} → (List ℕ → Result (A × List ℕ) Wrong) → ℕ → List ℕ → Result (List A × List ℕ) Wrong
many_at item_at zero bytes = Ok ([], bytes)
many_at item_at (suc n) bytes = do
  first ← item_at bytes
  others ← many_at item_at n first.1
  Ok (first.0 ∷ others.0, others.1)

-- the number of upvalues, which is that of a byte, and for main the byte before it
unfoldable pub upvalue_count_at : Option ℕ → List ℕ → Result (ℕ × List ℕ) Wrong
upvalue_count_at None bytes = do
  n ← count_at bytes
  if nat_le n.0 255 then Ok n else wrong bytes BadSize
upvalue_count_at (Some wanted) bytes = do
  n ← count_at bytes
  if n.0 == wanted then Ok n else wrong bytes BadSize

-- ---- what only debugging reads: skipped

-- a program counter and its line
unfoldable pub line_at : List ℕ → Result (List ℕ) Wrong
line_at bytes = do
  counter ← count_at bytes
  line ← count_at counter.1
  Ok line.1

-- a local and where it is active
unfoldable pub local_at : List ℕ → Result (List ℕ) Wrong
local_at bytes = do
  rest ← debug_string_at bytes
  line_at rest

unfoldable pub skip_at : (List ℕ → Result (List ℕ) Wrong) → ℕ → List ℕ → Result (List ℕ) Wrong
skip_at item_at zero bytes = Ok bytes
skip_at item_at (suc n) bytes = do
  rest ← item_at bytes
  skip_at item_at n rest

-- distances of lines, each a byte and a field
unfoldable pub distances_at : List ℕ → Result (List ℕ) Wrong
distances_at bytes = do
  n ← count_at bytes
  if nat_lt (length n.1) n.0 then wrong [] Short else Ok (drop n.0 n.1)

unfoldable pub debug_at : List ℕ → Result (List ℕ) Wrong
debug_at bytes = do
  distances ← distances_at bytes
  lines ← count_at distances
  behind_lines ← skip_at line_at lines.0 lines.1
  locals ← count_at behind_lines
  behind_locals ← skip_at local_at locals.0 locals.1
  names ← count_at behind_locals
  skip_at debug_string_at names.0 names.1

-- ---- functions

-- what a function begins with
unfoldable pub head_at : List ℕ → Result (Head × List ℕ) Wrong
head_at bytes = do
  source ← debug_string_at bytes
  line_from ← count_at source
  line_to ← count_at line_from.1
  parameters ← byte_at line_to.1
  vararg ← flag_at parameters.1
  registers ← byte_at vararg.1
  Ok (record { line_from = line_from.0; line_to = line_to.0; parameters = parameters.0; vararg = vararg.0; registers = registers.0 }, registers.1)

-- a function within so many levels, and for main the byte before it
unfoldable pub function_at : ℕ → Option ℕ → List ℕ → Result (Function × List ℕ) Wrong
function_at zero main bytes = wrong bytes Nested
function_at (suc levels) main bytes = do
  head ← head_at bytes
  code_count ← count_at head.1
  code ← many_at word_at code_count.0 code_count.1
  constant_count ← count_at code.1
  constants ← many_at constant_at constant_count.0 constant_count.1
  upvalue_count ← upvalue_count_at main constants.1
  upvalues ← many_at upvalue_at upvalue_count.0 upvalue_count.1
  inner_count ← count_at upvalues.1
  inner ← many_at (function_at levels None) inner_count.0 inner_count.1
  rest ← debug_at inner.1
  Ok (function head.0.parameters head.0.vararg head.0.registers code.0 constants.0 upvalues.0 (functions_of inner.0) head.0.line_from head.0.line_to, rest)

-- main and 200 levels below it
abbrev pub most_levels : ℕ
most_levels = 201

-- all of a chunk: the header, the number of main's upvalues, and main
unfoldable pub chunk_at : List ℕ → Result Function Wrong
chunk_at bytes = do
  behind_header ← fixed_at header bytes
  upvalue_count ← byte_at behind_header
  main ← function_at most_levels (Some upvalue_count.0) upvalue_count.1
  if length main.1 == 0 then Ok main.0 else wrong main.1 Trailing

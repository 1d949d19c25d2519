-- The bytes of a chunk of Lua 5.4 without what only debugging reads: what ldump.c writes with `strip`, at 64 bits, little endian.
use Rattle.std.specs.Prelude.{ℕ, zero, suc, ◌+◌, ◌/◌, ◌%◌, ◌*◌, ◌^◌, ◌<◌, ◌≤◌, All, Bool, true, false, ◌==◌, nat_le, List, [], ◌∷◌, ◌++◌, length, codes, if◌then◌else◌}
use Rattle.std.specs.Int.{w32, w64, cast_unsigned, to_le_bytes}
use Rattle.std.specs.List.{flat_map}
use Rattle.luf_proto.specs.Function.{Function, Functions, function, no_functions, more_functions}
use Rattle.luf_proto.specs.declared.proto.Const.{Const}
use Rattle.luf_proto.specs.declared.proto.Const.TheVariants as const
use Rattle.luf_proto.specs.declared.proto.Upval.{Upval}

-- so many groups of 7 bits of a number, the highest first, without the zeros that it would begin with
unfoldable pub groups : ℕ → ℕ → List ℕ
groups zero n = []
groups (suc k) n = (if n / 2 ^ (7 * k) == 0 then [] else n / 2 ^ (7 * k) % 128 ∷ []) ++ groups k n

-- a size below 2 ^ 64: its groups of 7 bits, the highest first and at least one, of which the last has bit 0x80 (dumpSize)
unfoldable pub size : ℕ → List ℕ
size n = groups 9 (n / 128) ++ (n % 128 + 128) ∷ []

-- a string: the size of its length and 1, and its bytes. One that is absent is the size 0 (dumpString)
abbrev pub string : List ℕ → List ℕ
string s = size (length s + 1) ++ s

-- `\x1bLua`, version 5.4, format 0, the bytes that a conversion of text would change, the sizes of an instruction, an integer
-- and a float, 0x5678 as an integer and 370.5 as a float (dumpHeader)
abbrev pub header : List ℕ
header =
    27 ∷ codes "Lua" ++ 84 ∷ 0 ∷ 25 ∷ 147 ∷ 13 ∷ 10 ∷ 26 ∷ 10 ∷ 4 ∷ 8 ∷ 8 ∷ []
    ++ 120 ∷ 86 ∷ 0 ∷ 0 ∷ 0 ∷ 0 ∷ 0 ∷ 0 ∷ [] ++ 0 ∷ 0 ∷ 0 ∷ 0 ∷ 0 ∷ 40 ∷ 119 ∷ 64 ∷ []

abbrev pub bit : Bool → ℕ
bit false = 0
bit true = 1

-- the longest string of tag 4 (LUAI_MAXSHORTLEN of llimits.h)
abbrev pub most_short : ℕ
most_short = 40

-- a constant: its tag, by the variants of lobject.h, and its value (dumpConstants). A float that is only spelled has no bytes
abbrev pub constant_bytes : Const → List ℕ
constant_bytes const.Nil = 0 ∷ []
constant_bytes const.False = 1 ∷ []
constant_bytes const.True = 17 ∷ []
constant_bytes (const.Int n) = 3 ∷ to_le_bytes w64 (cast_unsigned w64 n)
constant_bytes (const.Word word) = 19 ∷ to_le_bytes w64 word
constant_bytes (const.Str s) = (if nat_le (length s) most_short then 4 else 20) ∷ string s
constant_bytes (const.Spelled spelling) = []

-- an upvalue (dumpUpvalues)
abbrev pub upvalue_bytes : Upval → List ℕ
upvalue_bytes u = bit u.instack ∷ u.idx ∷ u.kind ∷ []

-- an instruction, 4 bytes
abbrev pub word_bytes : ℕ → List ℕ
word_bytes word = to_le_bytes w32 word

-- how many functions there are
abbrev pub count_of : Functions → ℕ
count_of no_functions = 0
count_of (more_functions first rest) = count_of rest + 1

-- no lines, no distances of lines, no locals and no names of upvalues (dumpDebug)
abbrev pub no_debug : List ℕ
no_debug = size 0 ++ size 0 ++ size 0 ++ size 0

-- what a function begins with: no source, its lines, and three bytes
abbrev pub head_bytes : ℕ → ℕ → ℕ → Bool → ℕ → List ℕ
head_bytes line_from line_to parameters vararg registers = size 0 ++ size line_from ++ size line_to ++ parameters ∷ bit vararg ∷ registers ∷ []

-- a list: its length, and the bytes of each element
abbrev pub list_bytes : {A : Type 0} → (A → List ℕ) → List A → List ℕ
list_bytes bytes_of items = size (length items) ++ flat_map bytes_of items

-- a function (dumpFunction)
abbrev mutual
  pub function_bytes : Function → List ℕ
  function_bytes (function parameters vararg registers code constants upvalues inner line_from line_to) =
      head_bytes line_from line_to parameters vararg registers
      ++ list_bytes word_bytes code
      ++ list_bytes constant_bytes constants
      ++ list_bytes upvalue_bytes upvalues
      ++ (size (count_of inner) ++ functions_bytes inner)
      ++ no_debug

  pub functions_bytes : Functions → List ℕ
  functions_bytes no_functions = []
  functions_bytes (more_functions first rest) = function_bytes first ++ functions_bytes rest

-- how many upvalues a function has
abbrev pub upvalue_count : Function → ℕ
upvalue_count (function parameters vararg registers code constants upvalues inner line_from line_to) = length upvalues

-- a chunk: the header, the number of main's upvalues, and main (luaU_dump)
abbrev pub chunk_bytes : Function → List ℕ
chunk_bytes main = header ++ upvalue_count main ∷ [] ++ function_bytes main

-- what a chunk can hold: the upvalues of a function are counted in a byte, other counts and lines are below 2 ^ 31
pub record FitsLevel (code : List ℕ) (constants : List Const) (upvalues : List Upval) (inner : Functions) (line_from line_to : ℕ) : Type 0 where
  pub code_fits : length code < 2 ^ 31
  pub constants_fit : length constants < 2 ^ 31
  pub upvalues_fit : length upvalues ≤ 255
  pub kinds_fit : All (λ (u : Upval). u.kind ≤ 3) upvalues
  pub inner_fit : count_of inner < 2 ^ 31
  pub line_from_fits : line_from < 2 ^ 31
  pub line_to_fits : line_to < 2 ^ 31

abbrev mutual
  pub Fits : Function → Type 0
  Fits (function parameters vararg registers code constants upvalues inner line_from line_to) =
      FitsLevel code constants upvalues inner line_from line_to × AllFit inner

  pub AllFit : Functions → Type 0
  AllFit no_functions = Unit {0}
  AllFit (more_functions first rest) = Fits first × AllFit rest

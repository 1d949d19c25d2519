-- The chunks of Lua 5.4, as ldump.c writes them at 64 bits, little endian, with or without what only debugging reads:
-- "these bytes are this", a case for each part, within limits of our own (counts below 2 ^ 31, 255 upvalues, 200 levels below main).
use Rattle.std.specs.Prelude.{◌≡◌, ℕ, zero, suc, ◌+◌, ◌*◌, ◌%◌, ◌^◌, ◌<◌, ◌≤◌, Bool, false, List, [], ◌∷◌, ◌++◌, length, Option, Some, None}
use Rattle.std.specs.Int.{w32, w64, from_le_bytes, cast_signed}
use Rattle.std.specs.List.{AllByRecursion}
use Rattle.luf_proto.specs.Chunk.{bit, header, most_short}
use Rattle.luf_proto.specs.Function.{Function, function}
use Rattle.luf_proto.specs.FunctionOf.{functions_of}
use Rattle.luf_proto.specs.declared.proto.Const.{Const}
use Rattle.luf_proto.specs.declared.proto.Const.TheVariants as const
use Rattle.luf_proto.specs.declared.proto.Upval.{Upval}
use Rattle.luf_undump.specs.Reading.{begins_with_zero, most_levels, value_of_groups}
use Rattle.luf_undump.specs.declared.function.Head.{Head}

-- a size: groups of 7 bits, the highest first. The last has bit 0x80, the others have not, and none but a lone one is 0 at the front (dumpSize)
pub record IsSizeOf (bytes : List ℕ) (n : ℕ) : Type 0 where
  pub groups : List ℕ
  pub last : ℕ
  pub written : bytes ≡ groups ++ last ∷ []
  pub no_marks : AllByRecursion (λ group. group < 128) groups
  pub mark : 128 ≤ last
  pub no_zero : begins_with_zero groups ≡ false
  pub value : n ≡ value_of_groups groups * 128 + last % 128
  pub within : n < 2 ^ 64

-- a count, a line or a counter (dumpInt)
pub record IsCountOf (bytes : List ℕ) (n : ℕ) : Type 0 where
  pub size : IsSizeOf bytes n
  pub below : n < 2 ^ 31

-- ---- a list: how many there are, and each

pub data AreEach {A : Type 0} (Is : List ℕ → A → Type 0) : List ℕ → List A → Type 0 where
  none : AreEach Is [] []
  more : (first others : List ℕ) (x : A) (xs : List A) → Is first x → AreEach Is others xs → AreEach Is (first ++ others) (x ∷ xs)

pub data IsListOf {A : Type 0} (Is : List ℕ → A → Type 0) : List ℕ → List A → Type 0 where
  counted : (count items : List ℕ) (xs : List A) → IsCountOf count (length xs) → AreEach Is items xs → IsListOf Is (count ++ items) xs

-- ---- what a function holds

-- an instruction, 4 bytes (dumpCode)
pub record IsInstructionOf (bytes : List ℕ) (word : ℕ) : Type 0 where
  pub four : length bytes ≡ 4
  pub value : word ≡ from_le_bytes w32 bytes

-- a constant: its tag, by the variants of lobject.h, and its value. A string has the size of its length and 1 (dumpConstants, dumpString)
pub data IsConstantOf : List ℕ → Const → Type 0 where
  nil : IsConstantOf (0 ∷ []) const.Nil
  constant_false : IsConstantOf (1 ∷ []) const.False
  constant_true : IsConstantOf (17 ∷ []) const.True
  integer : (number : List ℕ) → length number ≡ 8 → IsConstantOf (3 ∷ number) (const.Int (cast_signed w64 (from_le_bytes w64 number)))
  float : (number : List ℕ) → length number ≡ 8 → IsConstantOf (19 ∷ number) (const.Word (from_le_bytes w64 number))
  short_string : (size s : List ℕ) → IsSizeOf size (length s + 1) → length s ≤ most_short → IsConstantOf (4 ∷ size ++ s) (const.Str s)
  long_string : (size s : List ℕ) → IsSizeOf size (length s + 1) → most_short < length s → IsConstantOf (20 ∷ size ++ s) (const.Str s)

-- an upvalue (dumpUpvalues)
pub data IsUpvalueOf : List ℕ → Upval → Type 0 where
  upvalue : (instack : Bool) (idx kind : ℕ) → kind ≤ 3 → IsUpvalueOf (bit instack ∷ idx ∷ kind ∷ []) (record { instack = instack; idx = idx; kind = kind })

-- at most 255 upvalues, and for main as many as the byte before it says
abbrev pub CanHaveUpvalues : Option ℕ → ℕ → Type 0
CanHaveUpvalues None n = n ≤ 255
CanHaveUpvalues (Some wanted) n = n ≡ wanted

-- ---- what only debugging reads: it may be there, and says nothing of the function

-- a string that may be absent, which is the size 0 (dumpString)
pub data IsDebugString : List ℕ → Type 0 where
  absent : (size : List ℕ) → IsSizeOf size 0 → IsDebugString size
  present : (size s : List ℕ) → IsSizeOf size (length s + 1) → IsDebugString (size ++ s)

-- a program counter and its line, or two counters between which a local is active
pub data IsPair : List ℕ → Type 0 where
  pair : (first second : List ℕ) (m n : ℕ) → IsCountOf first m → IsCountOf second n → IsPair (first ++ second)

-- a local
pub data IsDebugLocal : List ℕ → Type 0 where
  local : (name active : List ℕ) → IsDebugString name → IsPair active → IsDebugLocal (name ++ active)

pub data AreSome (Is : List ℕ → Type 0) : ℕ → List ℕ → Type 0 where
  no_more : AreSome Is zero []
  one_more : (n : ℕ) (first others : List ℕ) → Is first → AreSome Is n others → AreSome Is (suc n) (first ++ others)

pub data IsDebugList (Is : List ℕ → Type 0) : List ℕ → Type 0 where
  debug_list : (n : ℕ) (count items : List ℕ) → IsCountOf count n → AreSome Is n items → IsDebugList Is (count ++ items)

-- distances of lines, a byte each
pub data AreDistances : List ℕ → Type 0 where
  line_distances : (count bytes : List ℕ) → IsCountOf count (length bytes) → AreDistances (count ++ bytes)

-- distances of lines, lines, locals, and names of upvalues (dumpDebug)
pub data IsDebugPart : List ℕ → Type 0 where
  debug_part : (distances lines locals names : List ℕ) → AreDistances distances → IsDebugList IsPair lines → IsDebugList IsDebugLocal locals → IsDebugList IsDebugString names
      → IsDebugPart (distances ++ lines ++ locals ++ names)

-- ---- functions

-- what a function begins with: its source, its lines, and three bytes
pub data IsHeadOf : List ℕ → Head → Type 0 where
  begins : (source first last : List ℕ) (line_from line_to parameters registers : ℕ) (vararg : Bool)
      → IsDebugString source → IsCountOf first line_from → IsCountOf last line_to
      → IsHeadOf (source ++ first ++ last ++ parameters ∷ bit vararg ∷ registers ∷ [])
      (record { line_from = line_from; line_to = line_to; parameters = parameters; vararg = vararg; registers = registers })

-- a function, by what the bytes of the functions inside it are, and for main the byte before it (dumpFunction)
pub data IsFunctionAround (IsInside : List ℕ → Function → Type 0) (main : Option ℕ) : List ℕ → Function → Type 0 where
  around : (head code constants upvalues inside debug : List ℕ) (h : Head) (words : List ℕ) (consts : List Const) (upvals : List Upval) (functions : List Function)
      → IsHeadOf head h → IsListOf IsInstructionOf code words → IsListOf IsConstantOf constants consts
      → CanHaveUpvalues main (length upvals) → IsListOf IsUpvalueOf upvalues upvals → IsListOf IsInside inside functions → IsDebugPart debug
      → IsFunctionAround IsInside main (head ++ code ++ constants ++ upvalues ++ inside ++ debug)
      (function h.parameters h.vararg h.registers words consts upvals (functions_of functions) h.line_from h.line_to)

-- a function within so many levels
abbrev pub IsFunctionOf : ℕ → Option ℕ → List ℕ → Function → Type 0
IsFunctionOf zero main bytes f = ⊥
IsFunctionOf (suc levels) main bytes f = IsFunctionAround (IsFunctionOf levels None) main bytes f

-- a chunk: the header, the number of main's upvalues, and main (luaU_dump)
pub data IsChunkOf : List ℕ → Function → Type 0 where
  chunk : (upvalues : ℕ) (main : List ℕ) (f : Function) → IsFunctionOf most_levels (Some upvalues) main f → IsChunkOf (header ++ upvalues ∷ main) f

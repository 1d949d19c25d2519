-- What a function tells of any bytes, and all of a chunk behind its header.
use Rattle.std.proofs.Common.{◌≡◌, ℕ, ◌≤◌, zero, suc, false, List, [], ◌∷◌, length, Option, Some, None, Result, Ok, refl, sym, ap, arith}
use Rattle.luf_proto.specs.Chunk.{Fits, groups, function_bytes, size}
use Rattle.luf_proto.specs.Function.{Function, function, no_functions}
use Rattle.luf_proto.specs.FunctionOf.{functions_of}
use Rattle.luf_proto.specs.declared.proto.Const.{Const}
use Rattle.luf_proto.specs.declared.proto.Upval.{Upval}
use Rattle.luf_undump.specs.Field.{InBytes, InDebug, InFunction, InList, InSize, IsByte, Kind, Then, a_size, some_bytes}
use Rattle.luf_undump.specs.Field as field
use Rattle.luf_undump.specs.FirstWrong.{AreBytes}
use Rattle.luf_undump.specs.Grammar.{IsConstantOf, IsCountOf, IsFunctionOf, IsHeadOf, IsInstructionOf, IsListOf, IsUpvalueOf}
use Rattle.luf_undump.specs.Reading.{◌>>=◌, Wrong, wrong, byte_at, count_at, word_at, constant_at, upvalue_at, many_at, upvalue_count_at, debug_at, head_at, function_at}
use Rattle.luf_undump.specs.declared.error.ChunkWhat.TheVariants.{Short}
use Rattle.luf_undump.specs.declared.function.Head.{Head}
use Rattle.luf_undump.proofs.Complete.{count_complete, function_complete}
use Rattle.luf_undump.proofs.Sound.{Reads, Writes, constant_reads, count_reads, function_reads, head_reads, upvalue_reads, word_reads}
use Rattle.luf_undump.proofs.Sound as sound
use Rattle.luf_undump.proofs.Taken.{count_taken, list_at, list_reads, taken, upvalue_count_is}
use Rattle.luf_undump.proofs.Told.{Ends, Told, Tells, pair, alone, behind, ends_then, ends_many, tells_as, tells_last, tells_many, tells_then}
use Rattle.luf_undump.proofs.Told as told
use Rattle.luf_undump.proofs.ToldFields.{Field, bind_assoc, count_field, count_tells, only_empty, size_are, word_tells}
use Rattle.luf_undump.proofs.ToldFields as fields
use Rattle.luf_undump.proofs.ToldParts.{CanBeAsked, constant_tells, debug_tells, head_tells, upvalue_count_tells, upvalue_tells}
use Rattle.luf_undump.proofs.Written.{count_is, function_is}

-- ---- the functions inside a function

-- their count, and they
inner_at : ℕ → List ℕ → Result (List Function × List ℕ) Wrong
inner_at levels bytes = count_at bytes >>= λ n. many_at (function_at levels None) n.0 n.1

inner_opens : (levels : ℕ) → Ends pair (inner_at levels) []
unfolding inner_at many_at
inner_opens levels = record {
  value = [];
  more = size 0;
  are = size_are 0;
  ends = λ rest. ap (λ y. y >>= λ n. many_at (function_at levels None) n.0 n.1) (count_complete (size 0) rest 0 (count_is 0 (omega arith)));
}

-- the least function
least : Function
least = function 0 false 0 [] [] [] no_functions 0 0

least_fits : Fits least
unfolding least
least_fits = (
  record {
    code_fits = omega arith;
    constants_fit = omega arith;
    upvalues_fit = omega arith;
    kinds_fit = λ k d within. absurd (omega (arith, within));
    inner_fit = omega arith;
    line_from_fits = omega arith;
    line_to_fits = omega arith;
  },
  tt,
)

least_are : AreBytes (function_bytes least)
unfolding least size groups
least_are = omega arith

function_opens : (levels : ℕ) → Ends pair (function_at (suc levels) None) []
unfolding least
function_opens levels = record {
  value = least;
  more = function_bytes least;
  are = least_are;
  ends = λ rest. function_complete (suc levels) None (function_bytes least) rest least (function_is least (suc levels) None (omega arith) least_fits (tt, tt, tt));
}

-- no function may stand inside one at the last level
deepest_told : (bytes : List ℕ) → Field pair count_at bytes → Told pair (InList (IsFunctionOf 0 None) (InFunction 0)) (inner_at 0) (inner_at 1) bytes
unfolding inner_at many_at function_at
deepest_told bytes (fields.whole zero front rest e takes) =
    told.read [] front rest e (λ more. ap (λ y. y >>= λ n. many_at (function_at 0 None) n.0 n.1) (takes more))
    (λ more. ap (λ y. y >>= λ n. many_at (function_at 1 None) n.0 n.1) (takes more))
deepest_told bytes (fields.whole (suc n) front rest e takes) =
    let count : Ends pair count_at front = record { value = suc n; more = []; are = tt; ends = λ behind. takes behind } in
    told.nested n [] front rest e (field.in_first [] a_size field.begins) (count_taken (suc n) front takes) (inner_opens 0)
    (ends_then {form = pair} {then_form = pair} count_at (λ n. many_at (function_at 1 None) n.0 n.1) front count (λ n. ends_many (function_at 1 None) (function_opens 0) n))
    (λ more. ap (λ y. y >>= λ n. many_at (function_at 0 None) n.0 n.1) (takes more))
deepest_told bytes (fields.bad groups last rest e low mark stops) =
    told.size groups last [] rest e (field.in_first [] a_size field.begins) low mark (inner_opens 0) (λ more. ap (λ y. y >>= λ n. many_at (function_at 0 None) n.0 n.1) (stops more))
deepest_told bytes (fields.broken are stops) =
    told.cut [] bytes refl (field.in_first [] a_size field.begins) are (inner_opens 0) (ap (λ y. y >>= λ n. many_at (function_at 0 None) n.0 n.1) stops)

-- what stands behind the functions inside
finish : Head → List ℕ → List Const → List Upval → List Function × List ℕ → Result (Function × List ℕ) Wrong
finish head code constants upvalues inner =
    debug_at inner.1 >>= λ rest. Ok (function head.parameters head.vararg head.registers code constants upvalues (functions_of inner.0) head.line_from head.line_to, rest)

finish_tells : (head : Head) (code : List ℕ) (constants : List Const) (upvalues : List Upval) (inner : List Function)
    → Tells pair InDebug (λ b. finish head code constants upvalues (inner, b)) (λ b. finish head code constants upvalues (inner, b))
unfolding finish
finish_tells head code constants upvalues inner =
    tells_last {form = alone} {then_form = pair} debug_at debug_at _
    (λ rest. function head.parameters head.vararg head.registers code constants upvalues (functions_of inner) head.line_from head.line_to) (λ x rest. refl) debug_tells

-- a list, and what follows
module _ {A : Type 0} {In : List ℕ → Kind → Type 0} (Is : List ℕ → A → Type 0) (count : List ℕ → Result (ℕ × List ℕ) Wrong) (item deeper : List ℕ → Result (A × List ℕ) Wrong)
    (counts : (limit : ℕ) (bytes : List ℕ) → length bytes ≤ limit → Reads sound.behind (Writes IsCountOf) limit [] bytes (count bytes))
    (items : (limit : ℕ) (bytes : List ℕ) → length bytes ≤ limit → Reads sound.behind (Writes Is) limit [] bytes (item bytes)) where
  list_tells : Tells pair InSize count count → Tells pair In item deeper → Tells pair (InList Is In) (list_at count item) (list_at count deeper)
  list_tells n t = tells_then {form = pair} {then_form = pair} IsCountOf count count _ _ (taken IsCountOf count counts) (λ n. tells_many Is item deeper (taken Is item items) t n) n

  list_then : {B : Type 0} {After : List ℕ → Kind → Type 0} (f below : List A × List ℕ → Result (B × List ℕ) Wrong) → Tells pair (InList Is In) (list_at count item) (list_at count deeper)
      → ((xs : List A) → Tells pair After (λ b. f (xs, b)) (λ b. below (xs, b)))
      → Tells pair (Then (IsListOf Is) (InList Is In) (λ x. After)) (λ b. count b >>= λ n. many_at item n.0 n.1 >>= f) (λ b. count b >>= λ n. many_at deeper n.0 n.1 >>= below)
  list_then f below t next =
      tells_as (λ b. sym (bind_assoc (count b) (λ n. many_at item n.0 n.1) f)) (λ b. sym (bind_assoc (count b) (λ n. many_at deeper n.0 n.1) below)) (λ front kind is. is)
      (tells_then {form = pair} {then_form = pair} (IsListOf Is) (list_at count item) (list_at count deeper) f below
      (taken (IsListOf Is) (list_at count item) (list_reads Is count item counts items)) next t)

around_tells : (levels : ℕ) (main : Option ℕ) → CanBeAsked main → Tells pair (InList (IsFunctionOf levels None) (InFunction levels)) (inner_at levels) (inner_at (suc levels))
    → Tells pair (InFunction (suc levels)) (function_at (suc levels) main) (function_at (suc (suc levels)) main)
unfolding function_at finish inner_at
around_tells levels main low inside =
    tells_then {form = pair} {then_form = pair} IsHeadOf head_at head_at _ _ (taken IsHeadOf head_at head_reads) (λ head.
    list_then IsInstructionOf count_at word_at word_at count_reads word_reads _ _ (list_tells IsInstructionOf count_at word_at word_at count_reads word_reads count_tells word_tells) (λ code.
    list_then IsConstantOf count_at constant_at constant_at count_reads constant_reads _ _
    (list_tells IsConstantOf count_at constant_at constant_at count_reads constant_reads count_tells constant_tells) (λ constants.
    list_then IsUpvalueOf (upvalue_count_at main) upvalue_at upvalue_at (upvalue_count_is main) upvalue_reads _ _
    (list_tells IsUpvalueOf (upvalue_count_at main) upvalue_at upvalue_at (upvalue_count_is main) upvalue_reads (upvalue_count_tells main low) upvalue_tells) (λ upvalues.
    list_then (IsFunctionOf levels None) count_at (function_at levels None) (function_at (suc levels) None) count_reads (function_reads levels None)
    (finish head code constants upvalues) (finish head code constants upvalues) inside (finish_tells head code constants upvalues))))) head_tells

inner_tells : (levels : ℕ) → Tells pair (InList (IsFunctionOf levels None) (InFunction levels)) (inner_at levels) (inner_at (suc levels))
unfolding inner_at
inner_tells zero = record { told = λ bytes. deepest_told bytes (count_field bytes); opens = inner_opens 0; opens_deeper = inner_opens 1 }
inner_tells (suc levels) =
    list_tells (IsFunctionOf (suc levels) None) count_at (function_at (suc levels) None) (function_at (suc (suc levels)) None) count_reads (function_reads (suc levels) None) count_tells
    (around_tells levels None tt (inner_tells levels))

function_tells : (levels : ℕ) (main : Option ℕ) → CanBeAsked main → Tells pair (InFunction (suc levels)) (function_at (suc levels) main) (function_at (suc (suc levels)) main)
function_tells levels main low = around_tells levels main low (inner_tells levels)

-- ---- a chunk

-- behind the header: the number of main's upvalues, and main within so many levels
unfoldable pub body_at : ℕ → List ℕ → Result (Function × List ℕ) Wrong
body_at levels bytes = byte_at bytes >>= λ n. function_at levels (Some n.0) n.1

pub body_opens : (levels : ℕ) → Ends pair (body_at (suc levels)) []
unfolding body_at byte_at
body_opens levels =
    let e = (function_tells levels (Some 0) (omega arith)).opens in
    record { value = e.value; more = 0 ∷ e.more; are = (omega arith, e.are); ends = λ rest. e.ends rest }

abbrev pub InBody : ℕ → List ℕ → Kind → Type 0
InBody levels = Then IsByte (InBytes 1) (λ n. InFunction levels)

pub body_told : (levels : ℕ) (bytes : List ℕ) → AreBytes bytes → Told pair (InBody (suc levels)) (body_at (suc levels)) (body_at (suc (suc levels))) bytes
unfolding body_at byte_at
body_told levels [] are = told.short 1 [] [] refl (field.in_first [] (some_bytes 1) field.begins) (omega arith) (only_empty (Ends pair (body_at (suc levels))) (body_opens levels)) (only_empty (λ others. body_at (suc levels) others ≡ wrong others Short) refl)
body_told levels (n ∷ rest) are =
    let low = are.0 in
    behind (n ∷ []) (n ∷ rest) rest refl (λ more. refl) (λ more. refl) (λ front kind is. field.in_second (n ∷ []) front n kind refl is) ((function_tells levels (Some n) (omega (arith, low))).told rest)

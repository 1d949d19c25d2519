-- The bytes that are written of a function are its chunk.
use Rattle.std.proofs.Common.{◌≡◌, ℕ, zero, suc, ◌+◌, ◌*◌, ◌/◌, ◌%◌, ◌^◌, ◌<◌, ◌≤◌, ◌==◌, All, Bool, true, false, if◌then◌else◌, nat_le, fold, List, [], ◌∷◌, ◌++◌, length, Option, Some, None, refl, sym, ap, ◌∙◌, subst, append_assoc, arith}
use Rattle.std.proofs.Math.Facts.{Fits-of_z}
use Rattle.std.proofs.Math.Nat.{div-div-eq-div-mul}
use Rattle.std.proofs.lemmas.Bool.{eqb-true, eqb-false, leb-true, leb-false, ne_eqb}
use Rattle.std.proofs.lemmas.Int.{to_z-of_z}
use Rattle.std.proofs.lemmas.List.{append-nil}
use Rattle.std.proofs.lemmas.Nat.{from_le_bytes-to_le_bytes_4, from_le_bytes-to_le_bytes_8, pow-add}
use Rattle.std.specs.Int.{w64, cast_unsigned, cast_signed, from_le_bytes, to_le_bytes}
use Rattle.std.specs.List.{AllByRecursion, flat_map}
use Rattle.luf_proto.specs.Chunk.{AllFit, Fits, chunk_bytes, constant_bytes, count_of, function_bytes, functions_bytes, groups, head_bytes, header, list_bytes, most_short, no_debug, size, string, upvalue_bytes, upvalue_count, word_bytes}
use Rattle.luf_proto.specs.Function.{Function, Functions, function, no_functions, more_functions}
use Rattle.luf_proto.specs.FunctionOf.{functions_of}
use Rattle.luf_proto.specs.declared.proto.Const.{Const}
use Rattle.luf_proto.specs.declared.proto.Const.TheVariants as const
use Rattle.luf_proto.specs.declared.proto.Upval.{Upval}
use Rattle.luf_undump.specs.Grammar.{AreDistances, AreEach, CanHaveUpvalues, IsChunkOf, IsConstantOf, IsCountOf, IsDebugList, IsDebugPart, IsDebugString, IsFunctionOf, IsInstructionOf, IsListOf, IsSizeOf, IsUpvalueOf}
use Rattle.luf_undump.specs.Grammar as grammar
use Rattle.luf_undump.specs.Readable.{AreReadable, IsReadable, IsReadableConstant}
use Rattle.luf_undump.specs.Reading.{begins_with_zero, most_levels, value_of_groups}

-- ---- sizes

-- the bits from one group on are those from the next on and the group
shifted : (k n : ℕ) → n / 2 ^ (7 * suc k) ≡ n / 2 ^ (7 * k) / 128
shifted k n =
    let seven : 7 * suc k ≡ 7 * k + 7 = omega arith in
    ap (λ e. n / 2 ^ e) seven ∙ ap (λ d. n / d) (pow-add 2 (7 * k) 7) ∙ sym (div-div-eq-div-mul n (2 ^ (7 * k)) 128)

groups_value : (k n : ℕ) → fold (λ value group. value * 128 + group) (n / 2 ^ (7 * k)) (groups k n) ≡ n
unfolding groups
groups_value zero n = omega arith
groups_value (suc k) n = by_test (n / 2 ^ (7 * k) == 0) refl (groups_value k n)
  where
    by_test : (b : Bool) → (n / 2 ^ (7 * k) == 0) ≡ b → fold (λ value group. value * 128 + group) (n / 2 ^ (7 * k)) (groups k n) ≡ n
        → fold (λ value group. value * 128 + group) (n / 2 ^ (7 * suc k)) ((if b then [] else n / 2 ^ (7 * k) % 128 ∷ []) ++ groups k n) ≡ n
    by_test true is so_far =
        let none = eqb-true (n / 2 ^ (7 * k)) 0 is in
        let shift = shifted k n in
        let same : n / 2 ^ (7 * suc k) ≡ n / 2 ^ (7 * k) = omega arith in
        subst (λ v. fold (λ value group. value * 128 + group) v (groups k n) ≡ n) (sym same) so_far
    by_test false is so_far =
        let shift = shifted k n in
        let same : n / 2 ^ (7 * suc k) * 128 + n / 2 ^ (7 * k) % 128 ≡ n / 2 ^ (7 * k) = omega arith in
        subst (λ v. fold (λ value group. value * 128 + group) v (groups k n) ≡ n) (sym same) so_far

pub groups_low : (k n : ℕ) → AllByRecursion (λ group. group < 128) (groups k n)
unfolding groups
groups_low zero n = tt
groups_low (suc k) n = by_test (n / 2 ^ (7 * k) == 0) (groups_low k n)
  where
    by_test : (b : Bool) → AllByRecursion (λ group. group < 128) (groups k n) → AllByRecursion (λ group. group < 128) ((if b then [] else n / 2 ^ (7 * k) % 128 ∷ []) ++ groups k n)
    by_test true low = low
    by_test false low = (omega arith, low)

groups_begin : (k n : ℕ) → n / 2 ^ (7 * k) ≡ 0 → begins_with_zero (groups k n) ≡ false
unfolding groups
groups_begin zero n small = refl
groups_begin (suc k) n small = by_test (n / 2 ^ (7 * k) == 0) refl (groups_begin k n)
  where
    by_test : (b : Bool) → (n / 2 ^ (7 * k) == 0) ≡ b → (n / 2 ^ (7 * k) ≡ 0 → begins_with_zero (groups k n) ≡ false)
        → begins_with_zero ((if b then [] else n / 2 ^ (7 * k) % 128 ∷ []) ++ groups k n) ≡ false
    by_test true is begin = begin (eqb-true (n / 2 ^ (7 * k)) 0 is)
    by_test false is begin =
        let some = eqb-false (n / 2 ^ (7 * k)) 0 is in
        let shift = shifted k n in
        ne_eqb (n / 2 ^ (7 * k) % 128) 0 (λ e. omega arith)

pub size_is : (n : ℕ) → n < 2 ^ 64 → IsSizeOf (size n) n
unfolding size
size_is n within =
    let none : n / 128 / 2 ^ (7 * 9) ≡ 0 = omega arith in
    let value : value_of_groups (groups 9 (n / 128)) ≡ n / 128 = ap (λ v. fold (λ value group. value * 128 + group) v (groups 9 (n / 128))) (sym none) ∙ groups_value 9 (n / 128) in
    record {
      groups = groups 9 (n / 128);
      last = n % 128 + 128;
      written = refl;
      no_marks = groups_low 9 (n / 128);
      mark = omega arith;
      no_zero = groups_begin 9 (n / 128) none;
      value = omega arith;
      within = within;
    }

pub count_is : (n : ℕ) → n < 2 ^ 31 → IsCountOf (size n) n
count_is n low = record { size = size_is n (omega arith); below = low }

-- ---- lists

each_are : {A : Type 0} (Is : List ℕ → A → Type 0) (bytes_of : A → List ℕ) (xs : List A) → AllByRecursion (λ x. Is (bytes_of x) x) xs → AreEach Is (flat_map bytes_of xs) xs
each_are Is bytes_of [] are = grammar.none
each_are Is bytes_of (x ∷ xs) are = grammar.more (bytes_of x) (flat_map bytes_of xs) x xs are.0 (each_are Is bytes_of xs are.1)

list_is : {A : Type 0} (Is : List ℕ → A → Type 0) (bytes_of : A → List ℕ) (xs : List A) → length xs < 2 ^ 31 → AllByRecursion (λ x. Is (bytes_of x) x) xs → IsListOf Is (list_bytes bytes_of xs) xs
list_is Is bytes_of xs few are = grammar.counted (size (length xs)) (flat_map bytes_of xs) xs (count_is (length xs) few) (each_are Is bytes_of xs are)

words_are : (code : List ℕ) → AllByRecursion (λ word. word < 2 ^ 32) code → AllByRecursion (λ word. IsInstructionOf (word_bytes word) word) code
words_are [] low = tt
words_are (word ∷ code) low = (record { four = refl; value = sym (from_le_bytes-to_le_bytes_4 word low.0) }, words_are code low.1)

constant_is : (constant : Const) → IsReadableConstant constant → IsConstantOf (constant_bytes constant) constant
constant_is const.Nil is = grammar.nil
constant_is const.False is = grammar.constant_false
constant_is const.True is = grammar.constant_true
constant_is (const.Int n) is =
    let back : cast_signed w64 (from_le_bytes w64 (to_le_bytes w64 (cast_unsigned w64 n))) ≡ n =
    ap (cast_signed w64) (from_le_bytes-to_le_bytes_8 (cast_unsigned w64 n) ((Fits-of_z is).fits)) ∙ to_z-of_z w64 n is in
    subst (λ m. IsConstantOf (3 ∷ to_le_bytes w64 (cast_unsigned w64 n)) (const.Int m)) back (grammar.integer (to_le_bytes w64 (cast_unsigned w64 n)) refl)
constant_is (const.Word word) is =
    subst (λ v. IsConstantOf (19 ∷ to_le_bytes w64 word) (const.Word v)) (from_le_bytes-to_le_bytes_8 word is) (grammar.float (to_le_bytes w64 word) refl)
constant_is (const.Str s) is = by_test (nat_le (length s) most_short) refl
  where
    by_test : (b : Bool) → nat_le (length s) most_short ≡ b → IsConstantOf ((if b then 4 else 20) ∷ string s) (const.Str s)
    by_test true test = grammar.short_string (size (length s + 1)) s (size_is (length s + 1) is) (leb-true (length s) most_short test)
    by_test false test = grammar.long_string (size (length s + 1)) s (size_is (length s + 1) is) (let high = leb-false (length s) most_short test in omega arith)
constant_is (const.Spelled spelling) is = absurd is

constants_are : (constants : List Const) → AllByRecursion IsReadableConstant constants → AllByRecursion (λ constant. IsConstantOf (constant_bytes constant) constant) constants
constants_are [] are = tt
constants_are (constant ∷ constants) are = (constant_is constant are.0, constants_are constants are.1)

upvalues_are : (upvalues : List Upval) → All (λ (u : Upval). u.kind ≤ 3) upvalues → AllByRecursion (λ u. IsUpvalueOf (upvalue_bytes u) u) upvalues
upvalues_are [] low = tt
upvalues_are (u ∷ upvalues) low =
    (grammar.upvalue u.instack u.idx u.kind (low 0 u (omega arith)), upvalues_are upvalues (λ k d within. low (suc k) d (omega arith)))

-- ---- functions

list_of : Functions → List Function
list_of no_functions = []
list_of (more_functions first rest) = first ∷ list_of rest

list_kept : (fs : Functions) → functions_of (list_of fs) ≡ fs
unfolding list_of
list_kept no_functions = refl
list_kept (more_functions first rest) = ap (more_functions first) (list_kept rest)

counted_same : (fs : Functions) → count_of fs ≡ length (list_of fs)
unfolding list_of
counted_same no_functions = refl
counted_same (more_functions first rest) = let so_far = counted_same rest in omega arith

few_upvalues : (f : Function) → Fits f → upvalue_count f ≤ 255
few_upvalues (function parameters vararg registers code constants upvalues inner line_from line_to) fits = fits.0.upvalues_fit

no_debug_is : IsDebugPart no_debug
no_debug_is =
    let none = count_is 0 (omega arith) in
    let names : IsDebugList IsDebugString (size 0) = subst (IsDebugList IsDebugString) (append-nil (size 0)) (grammar.debug_list 0 (size 0) [] none grammar.no_more) in
    let locals = subst (IsDebugList grammar.IsDebugLocal) (append-nil (size 0)) (grammar.debug_list 0 (size 0) [] none grammar.no_more) in
    let lines = subst (IsDebugList grammar.IsPair) (append-nil (size 0)) (grammar.debug_list 0 (size 0) [] none grammar.no_more) in
    let distances = subst AreDistances (append-nil (size 0)) (grammar.line_distances (size 0) [] none) in
    grammar.debug_part (size 0) (size 0) (size 0) (size 0) distances lines locals names

mutual
  unfolding list_of

  pub function_is : (f : Function) (levels : ℕ) (main : Option ℕ) → CanHaveUpvalues main (upvalue_count f) → Fits f → IsReadable f levels → IsFunctionOf levels main (function_bytes f) f
  function_is (function parameters vararg registers code constants upvalues inner line_from line_to) zero main few fits readable = absurd readable
  function_is (function parameters vararg registers code constants upvalues inner line_from line_to) (suc levels) main few fits readable =
      let inner_count : IsCountOf (size (count_of inner)) (length (list_of inner)) = subst (λ n. IsCountOf (size (count_of inner)) n) (counted_same inner) (count_is (count_of inner) fits.0.inner_fit) in
      subst (λ fs. IsFunctionOf (suc levels) main (function_bytes (function parameters vararg registers code constants upvalues inner line_from line_to)) (function parameters vararg registers code constants upvalues fs line_from line_to))
      (list_kept inner)
      (grammar.around (head_bytes line_from line_to parameters vararg registers) (list_bytes word_bytes code) (list_bytes constant_bytes constants) (list_bytes upvalue_bytes upvalues)
      (size (count_of inner) ++ functions_bytes inner) no_debug
      (record { line_from = line_from; line_to = line_to; parameters = parameters; vararg = vararg; registers = registers }) code constants upvalues (list_of inner)
      (grammar.begins (size 0) (size line_from) (size line_to) line_from line_to parameters registers vararg (grammar.absent (size 0) (size_is 0 (omega arith)))
      (count_is line_from fits.0.line_from_fits) (count_is line_to fits.0.line_to_fits))
      (list_is IsInstructionOf word_bytes code fits.0.code_fits (words_are code readable.0))
      (list_is IsConstantOf constant_bytes constants fits.0.constants_fit (constants_are constants readable.1))
      few
      (list_is IsUpvalueOf upvalue_bytes upvalues (let low = fits.0.upvalues_fit in omega arith) (upvalues_are upvalues fits.0.kinds_fit))
      (grammar.counted (size (count_of inner)) (functions_bytes inner) (list_of inner) inner_count (functions_are inner levels fits.1 readable.2))
      no_debug_is)

  functions_are : (fs : Functions) (levels : ℕ) → AllFit fs → AreReadable fs levels → AreEach (IsFunctionOf levels None) (functions_bytes fs) (list_of fs)
  functions_are no_functions levels fit readable = grammar.none
  functions_are (more_functions first rest) levels fit readable =
      grammar.more (function_bytes first) (functions_bytes rest) first (list_of rest) (function_is first levels None (few_upvalues first fit.0) fit.0 readable.0) (functions_are rest levels fit.1 readable.1)

pub chunk_is : (f : Function) → Fits f → IsReadable f most_levels → IsChunkOf (chunk_bytes f) f
chunk_is f fits readable =
    subst (λ b. IsChunkOf b f) (sym (append_assoc header (upvalue_count f ∷ []) (function_bytes f)))
    (grammar.chunk (upvalue_count f) (function_bytes f) f (function_is f most_levels (Some (upvalue_count f)) refl fits readable))

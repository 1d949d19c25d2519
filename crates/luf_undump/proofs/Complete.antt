-- What is written so is read so.
use Rattle.std.proofs.Common.{◌≡◌, ℕ, zero, suc, ◌+◌, ◌-◌, ◌*◌, ◌%◌, ◌^◌, ◌<◌, ◌≤◌, ◌==◌, Bool, true, false, if◌then◌else◌, nat_lt, nat_le, List, [], ◌∷◌, ◌++◌, length, take, drop, Option, Some, None, Result, Ok, refl, sym, ap, ◌∙◌, append_assoc, length-append, arith}
use Rattle.std.proofs.Math.Seq.{take-append_seam, drop-append_seam}
use Rattle.std.proofs.lemmas.Bool.{eq-eqb, ne_eqb, le-leb, le-ltb, lt-ltb}
use Rattle.std.proofs.lemmas.List.{append-nil}
use Rattle.std.specs.Int.{w64, from_le_bytes}
use Rattle.std.specs.List.{AllByRecursion, prefix_len}
use Rattle.luf_proto.specs.Chunk.{bit, header, most_short}
use Rattle.luf_proto.specs.Function.{Function}
use Rattle.luf_proto.specs.declared.proto.Const.{Const}
use Rattle.luf_proto.specs.declared.proto.Const.TheVariants as const
use Rattle.luf_proto.specs.declared.proto.Upval.{Upval}
use Rattle.luf_undump.specs.Reading.{◌>>=◌, Wrong, byte_at, fixed_byte_at, fixed_at, is_group, begins_with_zero, value_of_groups, last_group_at, size_at, count_at, run_at, word_at, number_at, flag_at, debug_string_at, has_length, constant_string_at, tagged_at, constant_at, kind_at, upvalue_at, many_at, upvalue_count_at, line_at, local_at, skip_at, distances_at, debug_at, head_at, function_at, chunk_at, most_levels}
use Rattle.luf_undump.specs.Grammar.{AreDistances, AreEach, AreSome, CanHaveUpvalues, IsChunkOf, IsConstantOf, IsCountOf, IsDebugList, IsDebugLocal, IsDebugPart, IsDebugString, IsFunctionAround, IsFunctionOf, IsHeadOf, IsInstructionOf, IsListOf, IsPair, IsSizeOf, IsUpvalueOf}
use Rattle.luf_undump.specs.Grammar as grammar
use Rattle.luf_undump.specs.declared.function.Head.{Head}

-- ---- the steps of a reader

module _ {A B : Type 0} where
  -- one part, and what stands behind it
  pub reads_on : (m : Result A Wrong) (f : A → Result B Wrong) (x : A) (y : B) → m ≡ Ok x → f x ≡ Ok y → (m >>= f) ≡ Ok y
  reads_on m f x y is goes = ap (λ r. r >>= f) is ∙ goes

  -- the same where the bytes are written otherwise
  pub reads_at : (read : List ℕ → Result A Wrong) (f : A → Result B Wrong) (bytes same : List ℕ) (x : A) (y : B) → bytes ≡ same → read same ≡ Ok x → f x ≡ Ok y → (read bytes >>= f) ≡ Ok y
  reads_at read f bytes same x y e is goes = reads_on (read bytes) f x y (ap read e ∙ is) goes

pub true_test : {A : Type 0} (b : Bool) (r s : A) → b ≡ true → (if b then r else s) ≡ r
true_test b r s e = rw e refl

pub false_test : {A : Type 0} (b : Bool) (r s : A) → b ≡ false → (if b then r else s) ≡ s
false_test b r s e = rw e refl

-- ---- single fields

pub flag_complete : (b : Bool) (rest : List ℕ) → flag_at (bit b ∷ rest) ≡ Ok (b, rest)
unfolding flag_at byte_at
flag_complete false rest = refl
flag_complete true rest = refl

kind_complete : (kind : ℕ) (rest : List ℕ) → kind ≤ 3 → kind_at (kind ∷ rest) ≡ Ok (kind, rest)
unfolding kind_at byte_at
kind_complete kind rest low = true_test (nat_le kind 3) _ _ (le-leb kind 3 low)

pub fixed_complete : (wanted rest : List ℕ) → fixed_at wanted (wanted ++ rest) ≡ Ok rest
unfolding fixed_at fixed_byte_at
fixed_complete [] rest = refl
fixed_complete (wanted ∷ others) rest = reads_on _ _ (others ++ rest) rest (true_test (wanted == wanted) _ _ (eq-eqb wanted wanted refl)) (fixed_complete others rest)

pub run_complete : (run rest : List ℕ) → run_at (length run) (run ++ rest) ≡ Ok (run, rest)
unfolding run_at
run_complete run rest =
    false_test (nat_lt (length (run ++ rest)) (length run)) _ _ (le-ltb (length (run ++ rest)) (length run) (omega (arith, length-append run rest)))
    ∙ ap (λ (x : List ℕ × List ℕ). Ok x) (rw (take-append_seam run rest, drop-append_seam run rest) refl)

pub word_complete : (bytes rest : List ℕ) (word : ℕ) → IsInstructionOf bytes word → word_at (bytes ++ rest) ≡ Ok (word, rest)
unfolding word_at
word_complete bytes rest word is =
    let front : take 4 (bytes ++ rest) ≡ bytes = ap (λ n. take n (bytes ++ rest)) (sym is.four) ∙ take-append_seam bytes rest in
    let back : drop 4 (bytes ++ rest) ≡ rest = ap (λ n. drop n (bytes ++ rest)) (sym is.four) ∙ drop-append_seam bytes rest in
    false_test (nat_lt (length (bytes ++ rest)) 4) _ _ (le-ltb (length (bytes ++ rest)) 4 (omega (arith, is.four, length-append bytes rest)))
    ∙ ap (λ (x : ℕ × List ℕ). Ok x) (rw (front, back, is.value) refl)

pub number_complete : (bytes rest : List ℕ) → length bytes ≡ 8 → number_at (bytes ++ rest) ≡ Ok (from_le_bytes w64 bytes, rest)
unfolding number_at
number_complete bytes rest eight =
    let front : take 8 (bytes ++ rest) ≡ bytes = ap (λ n. take n (bytes ++ rest)) (sym eight) ∙ take-append_seam bytes rest in
    let back : drop 8 (bytes ++ rest) ≡ rest = ap (λ n. drop n (bytes ++ rest)) (sym eight) ∙ drop-append_seam bytes rest in
    false_test (nat_lt (length (bytes ++ rest)) 8) _ _ (le-ltb (length (bytes ++ rest)) 8 (omega (arith, eight, length-append bytes rest)))
    ∙ ap (λ (x : ℕ × List ℕ). Ok x) (rw (front, back) refl)

-- ---- sizes

pub groups_end : (groups : List ℕ) (last : ℕ) (rest : List ℕ) → AllByRecursion (λ group. group < 128) groups → 128 ≤ last → prefix_len is_group (groups ++ last ∷ rest) ≡ length groups
groups_end [] last rest low mark = false_test (nat_lt last 128) _ _ (le-ltb last 128 mark)
groups_end (group ∷ groups) last rest low mark =
    true_test (nat_lt group 128) _ _ (lt-ltb group 128 low.0) ∙ ap (λ n. 1 + n) (groups_end groups last rest low.1 mark) ∙ one
  where
    one : 1 + length groups ≡ suc (length groups)
    one = omega arith

pub last_group_complete : (bytes groups : List ℕ) (last : ℕ) (rest : List ℕ) → begins_with_zero groups ≡ false → value_of_groups groups < 2 ^ 57
    → last_group_at bytes groups (last ∷ rest) ≡ Ok (value_of_groups groups * 128 + last % 128, rest)
unfolding last_group_at
last_group_complete bytes groups last rest no_zero fits =
    false_test (begins_with_zero groups) _ _ no_zero ∙ true_test (nat_lt (value_of_groups groups) (2 ^ 57)) _ _ (lt-ltb (value_of_groups groups) (2 ^ 57) fits)

pub size_complete : (bytes rest : List ℕ) (n : ℕ) → IsSizeOf bytes n → size_at (bytes ++ rest) ≡ Ok (n, rest)
unfolding size_at
size_complete bytes rest n is =
    let whole : bytes ++ rest ≡ is.groups ++ is.last ∷ rest = ap (λ b. b ++ rest) is.written ∙ append_assoc is.groups (is.last ∷ []) rest in
    let len : prefix_len is_group (bytes ++ rest) ≡ length is.groups = ap (prefix_len is_group) whole ∙ groups_end is.groups is.last rest is.no_marks is.mark in
    let front : take (prefix_len is_group (bytes ++ rest)) (bytes ++ rest) ≡ is.groups = rw (len, whole) (take-append_seam is.groups (is.last ∷ rest)) in
    let back : drop (prefix_len is_group (bytes ++ rest)) (bytes ++ rest) ≡ is.last ∷ rest = rw (len, whole) (drop-append_seam is.groups (is.last ∷ rest)) in
    let value = is.value in
    let below = is.within in
    rw (front, back) (last_group_complete (bytes ++ rest) is.groups is.last rest is.no_zero (omega arith) ∙ ap (λ k. Ok (k, rest)) (sym is.value))

pub count_complete : (bytes rest : List ℕ) (n : ℕ) → IsCountOf bytes n → count_at (bytes ++ rest) ≡ Ok (n, rest)
unfolding count_at
count_complete bytes rest n is = reads_on _ _ (n, rest) (n, rest) (size_complete bytes rest n is.size) (true_test (nat_lt n (2 ^ 31)) _ _ (lt-ltb n (2 ^ 31) is.below))

-- ---- lists

many_complete : {A : Type 0} (Is : List ℕ → A → Type 0) (item_at : List ℕ → Result (A × List ℕ) Wrong)
    → ((bytes rest : List ℕ) (x : A) → Is bytes x → item_at (bytes ++ rest) ≡ Ok (x, rest))
    → (bytes rest : List ℕ) (xs : List A) → AreEach Is bytes xs → many_at item_at (length xs) (bytes ++ rest) ≡ Ok (xs, rest)
unfolding many_at
many_complete Is item_at item bytes rest xs grammar.none = refl
many_complete Is item_at item bytes rest xs (grammar.more first others x ys is are) =
    reads_at item_at _ (first ++ others ++ rest) (first ++ (others ++ rest)) (x, others ++ rest) (x ∷ ys, rest) (append_assoc first others rest) (item first (others ++ rest) x is)
    (reads_on _ _ (ys, rest) (x ∷ ys, rest) (many_complete Is item_at item others rest ys are) refl)

skip_complete : (Is : List ℕ → Type 0) (item_at : List ℕ → Result (List ℕ) Wrong) → ((bytes rest : List ℕ) → Is bytes → item_at (bytes ++ rest) ≡ Ok rest)
    → (n : ℕ) (bytes rest : List ℕ) → AreSome Is n bytes → skip_at item_at n (bytes ++ rest) ≡ Ok rest
unfolding skip_at
skip_complete Is item_at item n bytes rest grammar.no_more = refl
skip_complete Is item_at item n bytes rest (grammar.one_more m first others is are) =
    reads_at item_at _ (first ++ others ++ rest) (first ++ (others ++ rest)) (others ++ rest) rest (append_assoc first others rest) (item first (others ++ rest) is)
    (skip_complete Is item_at item m others rest are)

-- ---- what only debugging reads

debug_string_complete : (bytes rest : List ℕ) → IsDebugString bytes → debug_string_at (bytes ++ rest) ≡ Ok rest
unfolding debug_string_at
debug_string_complete bytes rest (grammar.absent size is) = reads_on _ _ (0, rest) rest (size_complete size rest 0 is) (reads_on _ _ ([], rest) rest (run_complete [] rest) refl)
debug_string_complete bytes rest (grammar.present size s is) =
    let len : length s + 1 - 1 ≡ length s = omega arith in
    reads_at size_at _ (size ++ s ++ rest) (size ++ (s ++ rest)) (length s + 1, s ++ rest) rest (append_assoc size s rest) (size_complete size (s ++ rest) (length s + 1) is)
    (reads_on _ _ (s, rest) rest (ap (λ n. run_at n (s ++ rest)) len ∙ run_complete s rest) refl)

pair_complete : (bytes rest : List ℕ) → IsPair bytes → line_at (bytes ++ rest) ≡ Ok rest
unfolding line_at
pair_complete bytes rest (grammar.pair first second m n is_first is_second) =
    reads_at count_at _ (first ++ second ++ rest) (first ++ (second ++ rest)) (m, second ++ rest) rest (append_assoc first second rest) (count_complete first (second ++ rest) m is_first)
    (reads_on _ _ (n, rest) rest (count_complete second rest n is_second) refl)

local_complete : (bytes rest : List ℕ) → IsDebugLocal bytes → local_at (bytes ++ rest) ≡ Ok rest
unfolding local_at
local_complete bytes rest (grammar.local name active named is) =
    reads_at debug_string_at _ (name ++ active ++ rest) (name ++ (active ++ rest)) (active ++ rest) rest (append_assoc name active rest) (debug_string_complete name (active ++ rest) named)
    (pair_complete active rest is)

distances_complete : (bytes rest : List ℕ) → AreDistances bytes → distances_at (bytes ++ rest) ≡ Ok rest
unfolding distances_at
distances_complete all rest (grammar.line_distances count bytes is) =
    reads_at count_at _ (count ++ bytes ++ rest) (count ++ (bytes ++ rest)) (length bytes, bytes ++ rest) rest (append_assoc count bytes rest) (count_complete count (bytes ++ rest) (length bytes) is)
    (false_test (nat_lt (length (bytes ++ rest)) (length bytes)) _ _ (le-ltb (length (bytes ++ rest)) (length bytes) (omega (arith, length-append bytes rest)))
    ∙ ap (λ b. Ok b) (drop-append_seam bytes rest))

module _ {B : Type 0} (Is : List ℕ → Type 0) (item_at : List ℕ → Result (List ℕ) Wrong) (item : (bytes rest : List ℕ) → Is bytes → item_at (bytes ++ rest) ≡ Ok rest) where
  skipped_on : (bytes rest : List ℕ) (f : List ℕ → Result B Wrong) (y : B) → IsDebugList Is bytes → f rest ≡ Ok y → (count_at (bytes ++ rest) >>= λ n. skip_at item_at n.0 n.1 >>= f) ≡ Ok y
  skipped_on bytes rest f y (grammar.debug_list n count items is are) goes =
      reads_at count_at _ (count ++ items ++ rest) (count ++ (items ++ rest)) (n, items ++ rest) y (append_assoc count items rest) (count_complete count (items ++ rest) n is)
      (reads_on _ f rest y (skip_complete Is item_at item n items rest are) goes)

skipped_last : (bytes rest : List ℕ) → IsDebugList IsDebugString bytes → (count_at (bytes ++ rest) >>= λ n. skip_at debug_string_at n.0 n.1) ≡ Ok rest
skipped_last bytes rest (grammar.debug_list n count items is are) =
    reads_at count_at _ (count ++ items ++ rest) (count ++ (items ++ rest)) (n, items ++ rest) rest (append_assoc count items rest) (count_complete count (items ++ rest) n is)
    (skip_complete IsDebugString debug_string_at debug_string_complete n items rest are)

debug_complete : (bytes rest : List ℕ) → IsDebugPart bytes → debug_at (bytes ++ rest) ≡ Ok rest
unfolding debug_at
debug_complete bytes rest (grammar.debug_part distances lines locals names are are_lines are_locals are_names) =
    let whole : distances ++ lines ++ locals ++ names ++ rest ≡ distances ++ (lines ++ (locals ++ (names ++ rest))) = simp append_assoc in
    reads_at distances_at _ _ (distances ++ (lines ++ (locals ++ (names ++ rest)))) (lines ++ (locals ++ (names ++ rest))) rest whole (distances_complete distances (lines ++ (locals ++ (names ++ rest))) are)
    (skipped_on IsPair line_at pair_complete lines (locals ++ (names ++ rest)) _ rest are_lines
    (skipped_on IsDebugLocal local_at local_complete locals (names ++ rest) _ rest are_locals
    (skipped_last names rest are_names)))

-- ---- what a function holds

constant_string_complete : (short : Bool) (size s rest : List ℕ) → IsSizeOf size (length s + 1) → has_length short (length s) ≡ true → constant_string_at short (size ++ s ++ rest) ≡ Ok (const.Str s, rest)
unfolding constant_string_at
constant_string_complete short size s rest is fits =
    let len : length s + 1 - 1 ≡ length s = omega arith in
    let some : length s + 1 ≡ 0 → ⊥ = λ e. omega arith in
    reads_at size_at _ (size ++ s ++ rest) (size ++ (s ++ rest)) (length s + 1, s ++ rest) (const.Str s, rest) (append_assoc size s rest) (size_complete size (s ++ rest) (length s + 1) is)
    (reads_on _ _ (s, rest) (const.Str s, rest)
    (false_test (length s + 1 == 0) _ _ (ne_eqb (length s + 1) 0 some)
    ∙ true_test (has_length short (length s + 1 - 1)) _ _ (ap (has_length short) len ∙ fits)
    ∙ ap (λ n. run_at n (s ++ rest)) len ∙ run_complete s rest) refl)

constant_complete : (bytes rest : List ℕ) (constant : Const) → IsConstantOf bytes constant → constant_at (bytes ++ rest) ≡ Ok (constant, rest)
unfolding constant_at byte_at tagged_at
constant_complete bytes rest constant grammar.nil = refl
constant_complete bytes rest constant grammar.constant_false = refl
constant_complete bytes rest constant grammar.constant_true = refl
constant_complete bytes rest constant (grammar.integer number eight) = reads_on _ _ (from_le_bytes w64 number, rest) _ (number_complete number rest eight) refl
constant_complete bytes rest constant (grammar.float number eight) = reads_on _ _ (from_le_bytes w64 number, rest) _ (number_complete number rest eight) refl
constant_complete bytes rest constant (grammar.short_string size s is low) = constant_string_complete true size s rest is (le-leb (length s) most_short low)
constant_complete bytes rest constant (grammar.long_string size s is high) = constant_string_complete false size s rest is (lt-ltb most_short (length s) high)

upvalue_complete : (bytes rest : List ℕ) (u : Upval) → IsUpvalueOf bytes u → upvalue_at (bytes ++ rest) ≡ Ok (u, rest)
unfolding upvalue_at byte_at
upvalue_complete bytes rest u (grammar.upvalue instack idx kind low) =
    reads_on _ _ (instack, idx ∷ kind ∷ rest) _ (flag_complete instack (idx ∷ kind ∷ rest)) (reads_on _ _ (kind, rest) _ (kind_complete kind rest low) refl)

pub upvalue_count_complete : (main : Option ℕ) (count rest : List ℕ) (n : ℕ) → IsCountOf count n → CanHaveUpvalues main n → upvalue_count_at main (count ++ rest) ≡ Ok (n, rest)
unfolding upvalue_count_at
upvalue_count_complete None count rest n is few = reads_on _ _ (n, rest) _ (count_complete count rest n is) (true_test (nat_le n 255) _ _ (le-leb n 255 few))
upvalue_count_complete (Some wanted) count rest n is same = reads_on _ _ (n, rest) _ (count_complete count rest n is) (true_test (n == wanted) _ _ (eq-eqb n wanted same))

-- ---- functions

head_complete : (bytes rest : List ℕ) (h : Head) → IsHeadOf bytes h → head_at (bytes ++ rest) ≡ Ok (h, rest)
unfolding head_at byte_at
head_complete bytes rest h (grammar.begins source first last line_from line_to parameters registers vararg is_source is_first is_last) =
    let three = parameters ∷ bit vararg ∷ registers ∷ rest in
    let whole : source ++ first ++ last ++ parameters ∷ bit vararg ∷ registers ∷ [] ++ rest ≡ source ++ (first ++ (last ++ parameters ∷ bit vararg ∷ registers ∷ rest)) = simp append_assoc in
    reads_at debug_string_at _ _ (source ++ (first ++ (last ++ three))) (first ++ (last ++ three)) _ whole (debug_string_complete source (first ++ (last ++ three)) is_source)
    (reads_on _ _ (line_from, last ++ three) _ (count_complete first (last ++ three) line_from is_first)
    (reads_on _ _ (line_to, three) _ (count_complete last three line_to is_last)
    (reads_on _ _ (vararg, registers ∷ rest) _ (flag_complete vararg (registers ∷ rest)) refl)))

listed_on : {A B : Type 0} (Is : List ℕ → A → Type 0) (item_at : List ℕ → Result (A × List ℕ) Wrong) → ((bytes rest : List ℕ) (x : A) → Is bytes x → item_at (bytes ++ rest) ≡ Ok (x, rest))
    → (bytes rest : List ℕ) (xs : List A) (f : List A × List ℕ → Result B Wrong) (y : B) → IsListOf Is bytes xs → f (xs, rest) ≡ Ok y
    → (count_at (bytes ++ rest) >>= λ n. many_at item_at n.0 n.1 >>= f) ≡ Ok y
listed_on Is item_at item bytes rest xs f y (grammar.counted count items ys is are) goes =
    reads_at count_at _ (count ++ items ++ rest) (count ++ (items ++ rest)) (length ys, items ++ rest) y (append_assoc count items rest) (count_complete count (items ++ rest) (length ys) is)
    (reads_on _ f (ys, rest) y (many_complete Is item_at item items rest ys are) goes)

upvalues_on : {B : Type 0} (main : Option ℕ) (bytes rest : List ℕ) (xs : List Upval) (f : List Upval × List ℕ → Result B Wrong) (y : B) → IsListOf IsUpvalueOf bytes xs → CanHaveUpvalues main (length xs)
    → f (xs, rest) ≡ Ok y → (upvalue_count_at main (bytes ++ rest) >>= λ n. many_at upvalue_at n.0 n.1 >>= f) ≡ Ok y
upvalues_on main bytes rest xs f y (grammar.counted count items ys is are) few goes =
    reads_at (upvalue_count_at main) _ (count ++ items ++ rest) (count ++ (items ++ rest)) (length ys, items ++ rest) y (append_assoc count items rest)
    (upvalue_count_complete main count (items ++ rest) (length ys) is few)
    (reads_on _ f (ys, rest) y (many_complete IsUpvalueOf upvalue_at upvalue_complete items rest ys are) goes)

around_complete : (levels : ℕ) (main : Option ℕ) (bytes rest : List ℕ) (f : Function)
    → ((inside back : List ℕ) (g : Function) → IsFunctionOf levels None inside g → function_at levels None (inside ++ back) ≡ Ok (g, back))
    → IsFunctionAround (IsFunctionOf levels None) main bytes f → function_at (suc levels) main (bytes ++ rest) ≡ Ok (f, rest)
unfolding function_at
around_complete levels main bytes rest f within
    (grammar.around head code constants upvalues inside debug h words consts upvals functions is_head is_code are_constants few are_upvalues are_inside is_debug) =
    let whole : head ++ code ++ constants ++ upvalues ++ inside ++ debug ++ rest ≡ head ++ (code ++ (constants ++ (upvalues ++ (inside ++ (debug ++ rest))))) = simp append_assoc in
    reads_at head_at _ _ (head ++ (code ++ (constants ++ (upvalues ++ (inside ++ (debug ++ rest)))))) (h, code ++ (constants ++ (upvalues ++ (inside ++ (debug ++ rest))))) _ whole
    (head_complete head (code ++ (constants ++ (upvalues ++ (inside ++ (debug ++ rest))))) h is_head)
    (listed_on IsInstructionOf word_at word_complete code (constants ++ (upvalues ++ (inside ++ (debug ++ rest)))) words _ _ is_code
    (listed_on IsConstantOf constant_at constant_complete constants (upvalues ++ (inside ++ (debug ++ rest))) consts _ _ are_constants
    (upvalues_on main upvalues (inside ++ (debug ++ rest)) upvals _ _ are_upvalues few
    (listed_on (IsFunctionOf levels None) (function_at levels None) within inside (debug ++ rest) functions _ _ are_inside
    (reads_on _ _ rest _ (debug_complete debug rest is_debug) refl)))))

pub function_complete : (levels : ℕ) (main : Option ℕ) (bytes rest : List ℕ) (f : Function) → IsFunctionOf levels main bytes f → function_at levels main (bytes ++ rest) ≡ Ok (f, rest)
function_complete zero main bytes rest f is = absurd is
function_complete (suc levels) main bytes rest f is = around_complete levels main bytes rest f (function_complete levels None) is

pub chunk_complete : (bytes : List ℕ) (f : Function) → IsChunkOf bytes f → chunk_at bytes ≡ Ok f
unfolding chunk_at byte_at
chunk_complete bytes f (grammar.chunk upvalues main g is) =
    reads_on _ _ (upvalues ∷ main) _ (fixed_complete header (upvalues ∷ main))
    (reads_at (function_at most_levels (Some upvalues)) _ main (main ++ []) (g, []) _ (sym (append-nil main)) (function_complete most_levels (Some upvalues) main [] g is) refl)

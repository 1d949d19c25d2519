-- What each part of a function tells of any bytes.
use Rattle.std.proofs.Common.{◌≡◌, ℕ, zero, suc, ◌+◌, ◌-◌, ◌^◌, ◌<◌, ◌≤◌, ◌==◌, Bool, true, false, if◌then◌else◌, nat_lt, nat_le, List, [], ◌∷◌, ◌++◌, length, take, drop, Option, Some, None, Result, Ok, Err, refl, sym, ap, ◌∙◌, subst, append_assoc, take-append-drop, length-append, arith}
use Rattle.std.proofs.Math.Seq.{drop-append_seam}
use Rattle.std.proofs.lemmas.Bool.{eqb-true, eqb-false, ltb-true, ltb-false, le-ltb, lt-ltb}
use Rattle.std.proofs.lemmas.List.{append-nil, length-take-le}
use Rattle.luf_proto.specs.Chunk.{size}
use Rattle.luf_proto.specs.declared.proto.Const.{Const}
use Rattle.luf_proto.specs.declared.proto.Const.TheVariants as const
use Rattle.std.specs.Int.{w64, cast_signed}
use Rattle.luf_undump.specs.Field.{InBytes, InConstant, InDebug, InHead, InList, InLocal, InMany, InPair, InSize, InString, InUpvalue, IsByte, IsFlag, Kind, Such, Then, some_bytes}
use Rattle.luf_undump.specs.Field as field
use Rattle.luf_undump.specs.Grammar.{AreDistances, IsCountOf, IsDebugList, IsDebugLocal, IsDebugString, IsPair, IsSizeOf}
use Rattle.luf_undump.specs.Reading.{◌>>=◌, Wrong, wrong, byte_at, size_at, count_at, run_at, number_at, flag_at, debug_string_at, has_length, constant_string_at, tagged_at, constant_at, kind_at, upvalue_at, upvalue_count_at, line_at, local_at, skip_at, distances_at, debug_at, head_at}
use Rattle.luf_undump.specs.declared.error.ChunkWhat.TheVariants.{Short, BadSize}
use Rattle.luf_undump.proofs.Complete.{true_test, false_test, size_complete, upvalue_count_complete}
use Rattle.luf_undump.proofs.Sound.{Reads, Skips, Writes, andthen, debug_string_reads, distances_reads, done, either, itself, local_reads, pair_reads, refuses, size_reads}
use Rattle.luf_undump.proofs.Sound as sound
use Rattle.luf_undump.proofs.Taken.{byte_taken, count_taken, flag_taken, size_taken, skip_list_at, skip_list_reads, skipped, taken}
use Rattle.luf_undump.proofs.Told.{Takes, Ends, Told, Tells, pair, alone, behind, nothing, tells_as, tells_last, tells_skip, tells_then}
use Rattle.luf_undump.proofs.Told as told
use Rattle.luf_undump.proofs.ToldFields.{Decided, bind_assoc, byte_tells, count_tells, field_tells, flag_tells, kind_tells, number_tells, only_empty, run_tells, size_are, size_tells, sized_field, zeros, zeros_are, zeros_length}
use Rattle.luf_undump.proofs.ToldFields as fields
use Rattle.luf_undump.proofs.Written.{count_is, size_is}

-- ---- the number of upvalues

abbrev small_count : List ℕ → ℕ × List ℕ → Result (ℕ × List ℕ) Wrong
small_count bytes n = if nat_lt n.0 (2 ^ 31) then Ok n else wrong bytes BadSize

abbrev few_of : Option ℕ → List ℕ → ℕ × List ℕ → Result (ℕ × List ℕ) Wrong
few_of None bytes n = if nat_le n.0 255 then Ok n else wrong bytes BadSize
few_of (Some wanted) bytes n = if n.0 == wanted then Ok n else wrong bytes BadSize

is_few : Option ℕ → ℕ → Bool
is_few None n = nat_le n 255
is_few (Some wanted) n = n == wanted

few_test : (main : Option ℕ) (bytes : List ℕ) (n : ℕ × List ℕ) → few_of main bytes n ≡ (if is_few main n.0 then Ok n else wrong bytes BadSize)
unfolding is_few
few_test None bytes n = refl
few_test (Some wanted) bytes n = refl

count_test : (main : Option ℕ) (bytes : List ℕ) → upvalue_count_at main bytes ≡ (size_at bytes >>= λ n. small_count bytes n >>= few_of main bytes)
unfolding upvalue_count_at count_at
count_test None bytes = bind_assoc (size_at bytes) (small_count bytes) (few_of None bytes)
count_test (Some wanted) bytes = bind_assoc (size_at bytes) (small_count bytes) (few_of (Some wanted) bytes)

count_decided : (main : Option ℕ) (n : ℕ) → Decided pair (λ bytes n. small_count bytes n >>= few_of main bytes) n
count_decided main n = by_test (nat_lt n (2 ^ 31)) (is_few main n) refl refl
  where
    by_test : (low few : Bool) → nat_lt n (2 ^ 31) ≡ low → is_few main n ≡ few → Decided pair (λ bytes n. small_count bytes n >>= few_of main bytes) n
    by_test true true is_low is = fields.taken n (λ bytes rest. ap (λ y. y >>= few_of main bytes) (true_test (nat_lt n (2 ^ 31)) _ _ is_low) ∙ few_test main bytes (n, rest) ∙ true_test (is_few main n) _ _ is)
    by_test true false is_low is = fields.turned_down (λ bytes rest. ap (λ y. y >>= few_of main bytes) (true_test (nat_lt n (2 ^ 31)) _ _ is_low) ∙ few_test main bytes (n, rest) ∙ false_test (is_few main n) _ _ is)
    by_test false few is_low is = fields.turned_down (λ bytes rest. ap (λ y. y >>= few_of main bytes) (false_test (nat_lt n (2 ^ 31)) _ _ is_low))

-- a number that main can be asked for
abbrev pub CanBeAsked : Option ℕ → Type 0
CanBeAsked None = Unit {0}
CanBeAsked (Some wanted) = wanted < 2 ^ 31

count_opens : (main : Option ℕ) → CanBeAsked main → Ends pair (upvalue_count_at main) []
count_opens None low = record { value = 0; more = size 0; are = size_are 0; ends = λ rest. upvalue_count_complete None (size 0) rest 0 (count_is 0 (omega arith)) (omega arith) }
count_opens (Some wanted) low = record { value = wanted; more = size wanted; are = size_are wanted; ends = λ rest. upvalue_count_complete (Some wanted) (size wanted) rest wanted (count_is wanted low) refl }

pub upvalue_count_tells : (main : Option ℕ) → CanBeAsked main → Tells pair InSize (upvalue_count_at main) (upvalue_count_at main)
upvalue_count_tells main low =
    field_tells (upvalue_count_at main) (count_opens main low)
    (sized_field {form = pair} (upvalue_count_at main) (λ bytes n. small_count bytes n >>= few_of main bytes) (count_test main) (count_decided main))

-- ---- what only debugging reads

debug_string_tells : Tells alone InString debug_string_at debug_string_at
unfolding debug_string_at
debug_string_tells =
    tells_then {form = pair} {then_form = alone} IsSizeOf size_at size_at _ _ size_taken (λ n.
    tells_last {form = pair} {then_form = alone} (run_at (n - 1)) (run_at (n - 1)) _ (λ s. tt) (λ s rest. refl) (run_tells (n - 1))) size_tells

line_tells : Tells alone InPair line_at line_at
unfolding line_at
line_tells =
    tells_then {form = pair} {then_form = alone} IsCountOf count_at count_at _ _ count_taken (λ m.
    tells_last {form = pair} {then_form = alone} count_at count_at _ (λ n. tt) (λ n rest. refl) count_tells) count_tells

local_tells : Tells alone InLocal local_at local_at
unfolding local_at
local_tells =
    tells_then {form = alone} {then_form = alone} (Such IsDebugString) debug_string_at debug_string_at _ _ (skipped debug_string_at debug_string_reads) (λ name. line_tells) debug_string_tells

-- so many distances, each a field
abbrev so_many : ℕ → List ℕ → Result (List ℕ) Wrong
so_many n bytes = if nat_lt (length bytes) n then wrong [] Short else Ok (drop n bytes)

so_many_take : (n : ℕ) (run rest : List ℕ) → length run ≡ n → so_many n (run ++ rest) ≡ Ok rest
so_many_take n run rest same =
    false_test (nat_lt (length (run ++ rest)) n) _ _ (le-ltb (length (run ++ rest)) n (omega (arith, same, length-append run rest)))
    ∙ ap (λ b. Ok b) (ap (λ k. drop k (run ++ rest)) (sym same) ∙ drop-append_seam run rest)

so_many_ends : (n : ℕ) (bytes : List ℕ) → length bytes ≤ n → Ends alone (so_many n) bytes
so_many_ends n bytes le =
    let pad = zeros (n - length bytes) in
    let whole : length (bytes ++ pad) ≡ n = omega (arith, length-append bytes pad, zeros_length (n - length bytes), le) in
    record { value = tt; more = pad; are = zeros_are (n - length bytes); ends = λ rest. ap (so_many n) (sym (append_assoc bytes pad rest)) ∙ so_many_take n (bytes ++ pad) rest whole }

so_many_in : (n : ℕ) (bytes : List ℕ) → length bytes < n → InMany IsByte (InBytes 1) n bytes (some_bytes 1)
so_many_in zero bytes few = absurd (omega (arith, few))
so_many_in (suc n) [] few = field.in_first [] (some_bytes 1) field.begins
so_many_in (suc n) (byte ∷ bytes) few = field.in_second (byte ∷ []) bytes byte (some_bytes 1) refl (so_many_in n bytes (omega (arith, few)))

so_many_told : (n : ℕ) (bytes : List ℕ) → Told alone (InMany IsByte (InBytes 1) n) (so_many n) (so_many n) bytes
so_many_told n bytes = by_test (nat_lt (length bytes) n) refl
  where
    by_test : (b : Bool) → nat_lt (length bytes) n ≡ b → Told alone (InMany IsByte (InBytes 1) n) (so_many n) (so_many n) bytes
    by_test true is =
        let few = ltb-true (length bytes) n is in
        let no_bytes : Ends alone (so_many n) (bytes ++ []) = subst (Ends alone (so_many n)) (sym (append-nil bytes)) (so_many_ends n bytes (omega (arith, few))) in
        let at_end : so_many n (bytes ++ []) ≡ wrong [] Short =
        true_test (nat_lt (length (bytes ++ [])) n) _ _ (lt-ltb (length (bytes ++ [])) n (omega (arith, few, length-append bytes []))) in
        told.short 1 bytes [] (sym (append-nil bytes)) (so_many_in n bytes few) (omega arith) (only_empty (λ others. Ends alone (so_many n) (bytes ++ others)) no_bytes)
        (only_empty (λ others. so_many n (bytes ++ others) ≡ wrong others Short) at_end)
    by_test false is =
        let enough = length-take-le n bytes (ltb-false (length bytes) n is) in
        told.read tt (take n bytes) (drop n bytes) (sym (take-append-drop n bytes)) (λ more. so_many_take n (take n bytes) more enough) (λ more. so_many_take n (take n bytes) more enough)

distances_tells : Tells alone (InList IsByte (InBytes 1)) distances_at distances_at
unfolding distances_at
distances_tells =
    tells_then {form = pair} {then_form = alone} IsCountOf count_at count_at _ _ count_taken
    (λ n. record { told = so_many_told n; opens = so_many_ends n [] (omega arith); opens_deeper = so_many_ends n [] (omega arith) }) count_tells

-- a list of which nothing is kept, and what follows
skip_list_tells : {In : List ℕ → Kind → Type 0} (Is : List ℕ → Type 0) (item : List ℕ → Result (List ℕ) Wrong) → ((x : Unit {0}) (front : List ℕ) → Takes alone item x front → Is front)
    → Tells alone In item item → Tells alone (InList (Such Is) In) (skip_list_at item) (skip_list_at item)
skip_list_tells Is item is t = tells_then {form = pair} {then_form = alone} IsCountOf count_at count_at _ _ count_taken (λ n. tells_skip Is item is t n) count_tells

skip_list_then : {In After : List ℕ → Kind → Type 0} (Is : List ℕ → Type 0) (item f : List ℕ → Result (List ℕ) Wrong)
    → ((limit : ℕ) (bytes : List ℕ) → length bytes ≤ limit → Reads itself (Skips Is) limit [] bytes (item bytes)) → Tells alone In item item → Tells alone After f f
    → Tells alone (Then (Such (IsDebugList Is)) (InList (Such Is) In) (λ x. After)) (λ b. count_at b >>= λ n. skip_at item n.0 n.1 >>= f) (λ b. count_at b >>= λ n. skip_at item n.0 n.1 >>= f)
skip_list_then Is item f reads t next =
    tells_as (λ b. sym (bind_assoc (count_at b) (λ n. skip_at item n.0 n.1) f)) (λ b. sym (bind_assoc (count_at b) (λ n. skip_at item n.0 n.1) f)) (λ front kind is. is)
    (tells_then {form = alone} {then_form = alone} (Such (IsDebugList Is)) (skip_list_at item) (skip_list_at item) f f (skipped (skip_list_at item) (skip_list_reads Is item reads)) (λ x. next)
    (skip_list_tells Is item (skipped item reads) t))

pub debug_tells : Tells alone InDebug debug_at debug_at
unfolding debug_at
debug_tells =
    tells_then {form = alone} {then_form = alone} (Such AreDistances) distances_at distances_at _ _ (skipped distances_at distances_reads) (λ distances.
    skip_list_then IsPair line_at _ pair_reads line_tells
    (skip_list_then IsDebugLocal local_at _ local_reads local_tells
    (skip_list_tells IsDebugString debug_string_at (skipped debug_string_at debug_string_reads) debug_string_tells))) distances_tells

-- ---- constants

-- the length of a constant's string
abbrev fitting : Bool → List ℕ → ℕ × List ℕ → Result (ℕ × List ℕ) Wrong
fitting short bytes n = if n.0 == 0 then wrong bytes BadSize else if has_length short (n.0 - 1) then Ok (n.0 - 1, n.1) else wrong bytes BadSize

abbrev length_at : Bool → List ℕ → Result (ℕ × List ℕ) Wrong
length_at short bytes = size_at bytes >>= fitting short bytes

abbrev string_of : ℕ × List ℕ → Result (Const × List ℕ) Wrong
string_of n = run_at n.0 n.1 >>= λ s. Ok (const.Str s.0, s.1)

string_split : (short : Bool) (bytes : List ℕ) → constant_string_at short bytes ≡ (length_at short bytes >>= string_of)
unfolding constant_string_at
string_split short bytes = by_size (size_at bytes)
  where
    by_tests : (zero fits : Bool) (n : ℕ × List ℕ)
        → ((if zero then wrong bytes BadSize else if fits then run_at (n.0 - 1) n.1 else wrong bytes BadSize) >>= λ s. Ok (const.Str s.0, s.1))
        ≡ ((if zero then wrong bytes BadSize else if fits then Ok (n.0 - 1, n.1) else wrong bytes BadSize) >>= string_of)
    by_tests true fits n = refl
    by_tests false true n = refl
    by_tests false false n = refl

    by_size : (r : Result (ℕ × List ℕ) Wrong)
        → (r >>= λ n. (if n.0 == 0 then wrong bytes BadSize else if has_length short (n.0 - 1) then run_at (n.0 - 1) n.1 else wrong bytes BadSize) >>= λ s. Ok (const.Str s.0, s.1))
        ≡ ((r >>= fitting short bytes) >>= string_of)
    by_size (Ok n) = by_tests (n.0 == 0) (has_length short (n.0 - 1)) n
    by_size (Err e) = refl

length_decided : (short : Bool) (n : ℕ) → Decided pair (fitting short) n
length_decided short n = by_test (n == 0) (has_length short (n - 1)) refl refl
  where
    by_test : (zero fits : Bool) → (n == 0) ≡ zero → has_length short (n - 1) ≡ fits → Decided pair (fitting short) n
    by_test true fits is_zero is = fields.turned_down (λ bytes rest. true_test (n == 0) _ _ is_zero)
    by_test false true is_zero is = fields.taken (n - 1) (λ bytes rest. false_test (n == 0) _ _ is_zero ∙ true_test (has_length short (n - 1)) _ _ is)
    by_test false false is_zero is = fields.turned_down (λ bytes rest. false_test (n == 0) _ _ is_zero ∙ false_test (has_length short (n - 1)) _ _ is)

length_opens : (short : Bool) → Ends pair (length_at short) []
length_opens true = record { value = 0; more = size 1; are = size_are 1; ends = λ rest. ap (λ y. y >>= fitting true (size 1 ++ rest)) (size_complete (size 1) rest 1 (size_is 1 (omega arith))) }
length_opens false = record { value = 41; more = size 42; are = size_are 42; ends = λ rest. ap (λ y. y >>= fitting false (size 42 ++ rest)) (size_complete (size 42) rest 42 (size_is 42 (omega arith))) }

length_tells : (short : Bool) → Tells pair InSize (length_at short) (length_at short)
length_tells short = field_tells (length_at short) (length_opens short) (sized_field {form = pair} (length_at short) (fitting short) (λ bytes. refl) (length_decided short))

length_reads : (short : Bool) (limit : ℕ) (bytes : List ℕ) → length bytes ≤ limit → Reads sound.behind (Writes (λ front n. IsSizeOf front (n + 1))) limit [] bytes (length_at short bytes)
length_reads short limit bytes le =
    andthen limit [] bytes (size_at bytes) _ le (size_reads limit bytes le) (λ n front within is.
    either (n.0 == 0) limit front n.1 (λ _. refuses limit front n.1 bytes BadSize le)
    (λ some. either (has_length short (n.0 - 1)) limit front n.1
    (λ _. let positive = eqb-false n.0 0 some in let same : n.0 ≡ n.0 - 1 + 1 = omega (arith, positive) in done limit front n.1 (n.0 - 1, n.1) refl (subst (λ k. IsSizeOf front k) same is))
    (λ _. refuses limit front n.1 bytes BadSize le)))

constant_string_tells : (short : Bool) → Tells pair InString (constant_string_at short) (constant_string_at short)
constant_string_tells short =
    tells_as (string_split short) (string_split short) as_string
    (tells_then {form = pair} {then_form = pair} (λ front n. IsSizeOf front (n + 1)) (length_at short) (length_at short) string_of string_of (taken (λ front n. IsSizeOf front (n + 1)) (length_at short) (length_reads short)) (λ n.
    tells_last {form = pair} {then_form = pair} (run_at n) (run_at n) _ (λ s. const.Str s) (λ s rest. refl) (run_tells n)) (length_tells short))
  where
    as_string : (front : List ℕ) (kind : Kind) → Then (λ front n. IsSizeOf front (n + 1)) InSize (λ n. InBytes n) front kind → InString front kind
    as_string front kind (field.in_first same_front same_kind is) = field.in_first front kind is
    as_string front kind (field.in_second first back n same_kind is next) =
        let same : n ≡ n + 1 - 1 = omega arith in field.in_second first back (n + 1) kind is (subst (λ m. InBytes m back kind) same next)

constant_opens : Ends pair constant_at []
unfolding constant_at byte_at tagged_at
constant_opens = record { value = const.Nil; more = 0 ∷ []; are = (omega arith, tt); ends = λ rest. refl }

constant_zero : Ends pair constant_at (0 ∷ [])
unfolding constant_at byte_at tagged_at
constant_zero = record { value = const.Nil; more = []; are = tt; ends = λ rest. refl }

-- a constant of this tag, by what stands behind it
tagged_told : {In : List ℕ → Kind → Type 0} {r : List ℕ → Result (Const × List ℕ) Wrong} (tag byte : ℕ) (rest : List ℕ) → (byte == tag) ≡ true
    → ((more : List ℕ) → constant_at (tag ∷ more) ≡ r more) → ((front : List ℕ) (kind : Kind) → In front kind → InConstant (tag ∷ front) kind)
    → Tells pair In r r → Told pair InConstant constant_at constant_at (byte ∷ rest)
tagged_told tag byte rest is same fields t =
    subst (λ b. Told pair InConstant constant_at constant_at (b ∷ rest)) (sym (eqb-true byte tag is)) (behind (tag ∷ []) (tag ∷ rest) rest refl same same fields (t.told rest))

constant_told : (bytes : List ℕ) → Told pair InConstant constant_at constant_at bytes
unfolding constant_at byte_at tagged_at
constant_told [] = told.short 1 [] [] refl field.tag (omega arith) (only_empty (Ends pair constant_at) constant_opens) (only_empty (λ others. constant_at others ≡ wrong others Short) refl)
constant_told (tag ∷ rest) = by_test (tag == 0) (tag == 1) (tag == 17) (tag == 3) (tag == 19) (tag == 4) (tag == 20) refl refl refl refl refl refl refl
  where
    by_test : (zero one true_tag integer float short long : Bool) → (tag == 0) ≡ zero → (tag == 1) ≡ one → (tag == 17) ≡ true_tag → (tag == 3) ≡ integer → (tag == 19) ≡ float → (tag == 4) ≡ short → (tag == 20) ≡ long
        → Told pair InConstant constant_at constant_at (tag ∷ rest)
    by_test true one true_tag integer float short long e0 e1 e17 e3 e19 e4 e20 = tagged_told 0 tag rest e0 (λ more. refl) (λ front kind none. absurd none) (nothing {then_form = pair} {In = λ front kind. ⊥} const.Nil)
    by_test false true true_tag integer float short long e0 e1 e17 e3 e19 e4 e20 = tagged_told 1 tag rest e1 (λ more. refl) (λ front kind none. absurd none) (nothing {then_form = pair} {In = λ front kind. ⊥} const.False)
    by_test false false true integer float short long e0 e1 e17 e3 e19 e4 e20 = tagged_told 17 tag rest e17 (λ more. refl) (λ front kind none. absurd none) (nothing {then_form = pair} {In = λ front kind. ⊥} const.True)
    by_test false false false true float short long e0 e1 e17 e3 e19 e4 e20 =
        tagged_told 3 tag rest e3 (λ more. refl) field.integer (tells_last {form = pair} {then_form = pair} number_at number_at _ (λ n. const.Int (cast_signed w64 n)) (λ n rest. refl) number_tells)
    by_test false false false false true short long e0 e1 e17 e3 e19 e4 e20 =
        tagged_told 19 tag rest e19 (λ more. refl) field.float (tells_last {form = pair} {then_form = pair} number_at number_at _ (λ n. const.Word n) (λ n rest. refl) number_tells)
    by_test false false false false false true long e0 e1 e17 e3 e19 e4 e20 = tagged_told 4 tag rest e4 (λ more. refl) field.short_string (constant_string_tells true)
    by_test false false false false false false true e0 e1 e17 e3 e19 e4 e20 = tagged_told 20 tag rest e20 (λ more. refl) field.long_string (constant_string_tells false)
    by_test false false false false false false false e0 e1 e17 e3 e19 e4 e20 =
        told.tag tag [] rest refl field.tag constant_zero
        (λ more. false_test (tag == 0) _ _ e0 ∙ false_test (tag == 1) _ _ e1 ∙ false_test (tag == 17) _ _ e17 ∙ false_test (tag == 3) _ _ e3 ∙ false_test (tag == 19) _ _ e19
        ∙ false_test (tag == 4) _ _ e4 ∙ false_test (tag == 20) _ _ e20)

pub constant_tells : Tells pair InConstant constant_at constant_at
constant_tells = record { told = constant_told; opens = constant_opens; opens_deeper = constant_opens }

-- ---- upvalues, and what a function begins with

pub upvalue_tells : Tells pair InUpvalue upvalue_at upvalue_at
unfolding upvalue_at
upvalue_tells =
    tells_then {form = pair} {then_form = pair} IsFlag flag_at flag_at _ _ flag_taken (λ instack.
    tells_then {form = pair} {then_form = pair} IsByte byte_at byte_at _ _ byte_taken (λ idx.
    tells_last {form = pair} {then_form = pair} kind_at kind_at _ (λ kind. record { instack = instack; idx = idx; kind = kind }) (λ kind rest. refl) kind_tells) byte_tells) flag_tells

pub head_tells : Tells pair InHead head_at head_at
unfolding head_at
head_tells =
    tells_then {form = alone} {then_form = pair} (Such IsDebugString) debug_string_at debug_string_at _ _ (skipped debug_string_at debug_string_reads) (λ source.
    tells_then {form = pair} {then_form = pair} IsCountOf count_at count_at _ _ count_taken (λ line_from.
    tells_then {form = pair} {then_form = pair} IsCountOf count_at count_at _ _ count_taken (λ line_to.
    tells_then {form = pair} {then_form = pair} IsByte byte_at byte_at _ _ byte_taken (λ parameters.
    tells_then {form = pair} {then_form = pair} IsFlag flag_at flag_at _ _ flag_taken (λ vararg.
    tells_last {form = pair} {then_form = pair} byte_at byte_at _
    (λ registers. record { line_from = line_from; line_to = line_to; parameters = parameters; vararg = vararg; registers = registers }) (λ registers rest. refl) byte_tells)
    flag_tells) byte_tells) count_tells) count_tells) debug_string_tells

-- What a part of the reader gives is written in front of the bytes that are left, and a field that is wrong begins among the bytes.
use Rattle.std.proofs.Common.{◌≡◌, ℕ, zero, suc, ◌+◌, ◌-◌, ◌*◌, ◌%◌, ◌^◌, ◌<◌, ◌≤◌, ◌==◌, Bool, true, false, if◌then◌else◌, nat_lt, nat_le, List, [], ◌∷◌, ◌++◌, length, take, drop, Option, Some, None, Result, Ok, Err, refl, sym, ap, ◌∙◌, subst, append_assoc, take-append-drop, length-append, arith}
use Rattle.std.proofs.lemmas.Bool.{eqb-true, eqb-false, leb-true, ltb-true, ltb-false}
use Rattle.std.proofs.lemmas.List.{append-nil, length-take-le}
use Rattle.std.specs.Int.{w32, w64, from_le_bytes}
use Rattle.std.specs.List.{AllByRecursion, prefix_len}
use Rattle.luf_proto.specs.Chunk.{bit, header, most_short}
use Rattle.luf_proto.specs.Function.{Function}
use Rattle.luf_proto.specs.declared.proto.Const.TheVariants as const
use Rattle.luf_undump.specs.Reading.{◌>>=◌, Wrong, wrong, byte_at, fixed_byte_at, fixed_at, is_group, begins_with_zero, value_of_groups, last_group_at, size_at, count_at, run_at, word_at, number_at, flag_at, debug_string_at, has_length, constant_string_at, tagged_at, constant_at, kind_at, upvalue_at, many_at, upvalue_count_at, line_at, local_at, skip_at, distances_at, debug_at, head_at, function_at, chunk_at, most_levels}
use Rattle.luf_undump.specs.Grammar.{AreDistances, AreEach, AreSome, CanHaveUpvalues, IsChunkOf, IsConstantOf, IsCountOf, IsDebugList, IsDebugLocal, IsDebugPart, IsDebugString, IsFunctionAround, IsFunctionOf, IsHeadOf, IsInstructionOf, IsListOf, IsPair, IsSizeOf, IsUpvalueOf}
use Rattle.luf_undump.specs.Grammar as grammar
use Rattle.luf_undump.specs.declared.error.ChunkWhat.{ChunkWhat}
use Rattle.luf_undump.specs.declared.error.ChunkWhat.TheVariants.{BadHeader, Short, BadSize, BadTag, Nested, Trailing}

-- behind what was read so far: the value is written in what was read, up to the rest, and a wrong field is among the last `limit` bytes
pub record Reads {A : Type 0} (rest : A → List ℕ) (Is : List ℕ → A → Type 0) (limit : ℕ) (so_far bytes : List ℕ) (r : Result A Wrong) : Type 0 where
  pub sound : (x : A) → r ≡ Ok x → (front : List ℕ) × (bytes ≡ front ++ rest x) × Is (so_far ++ front) x
  pub within : (e : Wrong) → r ≡ Err e → e.left ≤ limit

module _ {A : Type 0} {rest : A → List ℕ} {Is : List ℕ → A → Type 0} where
  pub gives : (limit : ℕ) (so_far bytes front : List ℕ) (x : A) → bytes ≡ front ++ rest x → Is (so_far ++ front) x → Reads rest Is limit so_far bytes (Ok x)
  gives limit so_far bytes front x e is = record {
    sound = λ y h. let same : x ≡ y = cc in subst (λ z. (front : List ℕ) × (bytes ≡ front ++ rest z) × Is (so_far ++ front) z) same (front, e, is);
    within = λ w h. absurd cc;
  }

  pub done : (limit : ℕ) (so_far bytes : List ℕ) (x : A) → bytes ≡ rest x → Is so_far x → Reads rest Is limit so_far bytes (Ok x)
  done limit so_far bytes x e is = gives limit so_far bytes [] x e (subst (λ s. Is s x) (sym (append-nil so_far)) is)

  pub refuses : (limit : ℕ) (so_far bytes at : List ℕ) (what : ChunkWhat) → length at ≤ limit → Reads rest Is limit so_far bytes (wrong at what)
  refuses limit so_far bytes at what le = record {
    sound = λ y h. absurd cc;
    within = λ w h. let same : length at ≡ w.left = cc in omega (arith, same, le);
  }

  pub either : {r s : Result A Wrong} (b : Bool) (limit : ℕ) (so_far bytes : List ℕ) → (b ≡ true → Reads rest Is limit so_far bytes r) → (b ≡ false → Reads rest Is limit so_far bytes s)
      → Reads rest Is limit so_far bytes (if b then r else s)
  either true limit so_far bytes t f = t refl
  either false limit so_far bytes t f = f refl

  -- the value is seen as a part of a whole
  pub under : {Part : List ℕ → A → Type 0} (limit : ℕ) (so_far bytes : List ℕ) (r : Result A Wrong) → Reads rest Part limit [] bytes r
      → ((x : A) (front : List ℕ) → Part front x → Is (so_far ++ front) x) → Reads rest Is limit so_far bytes r
  under limit so_far bytes r part is = record { sound = λ x h. let s = part.sound x h in (s.0, s.1, is x s.0 s.2); within = part.within }

module _ {A B : Type 0} {rest : A → List ℕ} {Is : List ℕ → A → Type 0} {next : B → List ℕ} {Whole : List ℕ → B → Type 0} where
  -- one part, and what stands behind it
  pub andthen : (limit : ℕ) (so_far bytes : List ℕ) (m : Result A Wrong) (f : A → Result B Wrong) → length bytes ≤ limit → Reads rest Is limit [] bytes m
      → ((x : A) (front : List ℕ) → length (rest x) ≤ limit → Is front x → Reads next Whole limit (so_far ++ front) (rest x) (f x))
      → Reads next Whole limit so_far bytes (m >>= f)
  andthen limit so_far bytes (Ok x) f le part k =
      let s = part.sound x refl in
      let len : length bytes ≡ length s.0 + length (rest x) = ap length s.1 ∙ length-append s.0 (rest x) in
      let behind = k x s.0 (omega (arith, len, le)) s.2 in
      record {
        sound = λ y h. let t = behind.sound y h in
            (s.0 ++ t.0, s.1 ∙ ap (λ b. s.0 ++ b) t.1 ∙ sym (append_assoc s.0 t.0 (next y)), subst (λ b. Whole b y) (append_assoc so_far s.0 t.0) t.2);
        within = behind.within;
      }
  andthen limit so_far bytes (Err e) f le part k = record {
    sound = λ y h. absurd cc;
    within = λ w h. let same : e ≡ w = cc in subst (λ w. w.left ≤ limit) same (part.within e refl);
  }

  -- the last part, and what its value is turned into
  pub andlast : (limit : ℕ) (so_far bytes : List ℕ) (m : Result A Wrong) (g : A → B) → length bytes ≤ limit → Reads rest Is limit [] bytes m
      → ((x : A) → rest x ≡ next (g x)) → ((x : A) (front : List ℕ) → Is front x → Whole (so_far ++ front) (g x))
      → Reads next Whole limit so_far bytes (m >>= λ x. Ok (g x))
  andlast limit so_far bytes m g le part same is =
      andthen limit so_far bytes m (λ x. Ok (g x)) le part (λ x front within h. done limit (so_far ++ front) (rest x) (g x) (same x) (is x front h))

module _ {A B : Type 0} {rest : A → List ℕ} {next : B → List ℕ} {Whole : List ℕ → B → Type 0} where
  -- one part of which the bytes are told by its value
  pub andthen_told : (limit : ℕ) (so_far bytes : List ℕ) (m : Result A Wrong) (f : A → Result B Wrong) (told : A → List ℕ) → length bytes ≤ limit
      → Reads rest (λ front x. front ≡ told x) limit [] bytes m
      → ((x : A) → length (rest x) ≤ limit → Reads next Whole limit (so_far ++ told x) (rest x) (f x))
      → Reads next Whole limit so_far bytes (m >>= f)
  andthen_told limit so_far bytes m f told le part k =
      andthen limit so_far bytes m f le part (λ x front within is. subst (λ b. Reads next Whole limit (so_far ++ b) (rest x) (f x)) (sym is) (k x within))

-- ---- single fields

-- the bytes behind a value
abbrev pub behind : {A : Type 0} → A × List ℕ → List ℕ
behind x = x.1

-- the bytes in front write the value
abbrev pub Writes : {A : Type 0} → (List ℕ → A → Type 0) → List ℕ → A × List ℕ → Type 0
Writes Is front x = Is front x.0

-- the bytes in front are such
abbrev pub Skips : (List ℕ → Type 0) → List ℕ → List ℕ → Type 0
Skips Is front rest = Is front

abbrev pub itself : List ℕ → List ℕ
itself bytes = bytes

pub byte_reads : (limit : ℕ) (bytes : List ℕ) → length bytes ≤ limit → Reads behind (λ front x. front ≡ x.0 ∷ []) limit [] bytes (byte_at bytes)
unfolding byte_at
byte_reads limit [] le = refuses limit [] [] [] Short le
byte_reads limit (byte ∷ rest) le = gives limit [] (byte ∷ rest) (byte ∷ []) (byte, rest) refl refl

pub flag_reads : (limit : ℕ) (bytes : List ℕ) → length bytes ≤ limit → Reads behind (λ front x. front ≡ bit x.0 ∷ []) limit [] bytes (flag_at bytes)
unfolding flag_at
flag_reads limit bytes le =
    andthen limit [] bytes (byte_at bytes) _ le (byte_reads limit bytes le) (λ x front within is.
    either (x.0 == 0) limit front x.1 (λ zero. done limit front x.1 (false, x.1) refl (is ∙ ap (λ b. b ∷ []) (eqb-true x.0 0 zero)))
    (λ _. either (x.0 == 1) limit front x.1 (λ one. done limit front x.1 (true, x.1) refl (is ∙ ap (λ b. b ∷ []) (eqb-true x.0 1 one))) (λ _. refuses limit front x.1 bytes BadTag le)))

pub kind_reads : (limit : ℕ) (bytes : List ℕ) → length bytes ≤ limit → Reads behind (λ front x. (front ≡ x.0 ∷ []) × (x.0 ≤ 3)) limit [] bytes (kind_at bytes)
unfolding kind_at
kind_reads limit bytes le =
    andthen limit [] bytes (byte_at bytes) _ le (byte_reads limit bytes le) (λ x front within is.
    either (nat_le x.0 3) limit front x.1 (λ low. done limit front x.1 x refl (is, leb-true x.0 3 low)) (λ _. refuses limit front x.1 bytes BadTag le))

fixed_byte_reads : (wanted limit : ℕ) (bytes : List ℕ) → length bytes ≤ limit → Reads itself (λ front rest. front ≡ wanted ∷ []) limit [] bytes (fixed_byte_at wanted bytes)
unfolding fixed_byte_at
fixed_byte_reads wanted limit [] le = refuses limit [] [] [] Short le
fixed_byte_reads wanted limit (byte ∷ rest) le =
    either (byte == wanted) limit [] (byte ∷ rest) (λ same. gives limit [] (byte ∷ rest) (byte ∷ []) rest refl (ap (λ b. b ∷ []) (eqb-true byte wanted same)))
    (λ _. refuses limit [] (byte ∷ rest) (byte ∷ rest) BadHeader le)

pub fixed_reads : (wanted : List ℕ) (limit : ℕ) (bytes : List ℕ) → length bytes ≤ limit → Reads itself (λ front rest. front ≡ wanted) limit [] bytes (fixed_at wanted bytes)
unfolding fixed_at
fixed_reads [] limit bytes le = done limit [] bytes bytes refl refl
fixed_reads (wanted ∷ others) limit bytes le =
    andthen_told limit [] bytes (fixed_byte_at wanted bytes) _ (λ _. wanted ∷ []) le (fixed_byte_reads wanted limit bytes le) (λ rest within.
    under limit (wanted ∷ []) rest (fixed_at others rest) (fixed_reads others limit rest within) (λ x front is. ap (λ b. wanted ∷ b) is))

run_reads : (len limit : ℕ) (bytes : List ℕ) → length bytes ≤ limit → Reads behind (λ front x. (front ≡ x.0) × (length front ≡ len)) limit [] bytes (run_at len bytes)
unfolding run_at
run_reads len limit bytes le =
    either (nat_lt (length bytes) len) limit [] bytes (λ _. refuses limit [] bytes bytes Short le)
    (λ enough. gives limit [] bytes (take len bytes) (take len bytes, drop len bytes) (sym (take-append-drop len bytes)) (refl, length-take-le len bytes (ltb-false (length bytes) len enough)))

pub word_reads : (limit : ℕ) (bytes : List ℕ) → length bytes ≤ limit → Reads behind (Writes IsInstructionOf) limit [] bytes (word_at bytes)
unfolding word_at
word_reads limit bytes le =
    either (nat_lt (length bytes) 4) limit [] bytes (λ _. refuses limit [] bytes bytes Short le)
    (λ enough. gives limit [] bytes (take 4 bytes) (from_le_bytes w32 (take 4 bytes), drop 4 bytes) (sym (take-append-drop 4 bytes))
    (record { four = length-take-le 4 bytes (ltb-false (length bytes) 4 enough); value = refl }))

number_reads : (limit : ℕ) (bytes : List ℕ) → length bytes ≤ limit → Reads behind (λ front x. (length front ≡ 8) × (x.0 ≡ from_le_bytes w64 front)) limit [] bytes (number_at bytes)
unfolding number_at
number_reads limit bytes le =
    either (nat_lt (length bytes) 8) limit [] bytes (λ _. refuses limit [] bytes bytes Short le)
    (λ enough. gives limit [] bytes (take 8 bytes) (from_le_bytes w64 (take 8 bytes), drop 8 bytes) (sym (take-append-drop 8 bytes))
    (length-take-le 8 bytes (ltb-false (length bytes) 8 enough), refl))

-- ---- sizes

-- the groups in front, and the byte behind them
pub record Grouped (bytes : List ℕ) (n : ℕ) : Type 0 where
  pub low : AllByRecursion (λ group. group < 128) (take n bytes)
  pub mark : (last : ℕ) (rest : List ℕ) → drop n bytes ≡ last ∷ rest → 128 ≤ last

pub grouped : (bytes : List ℕ) → Grouped bytes (prefix_len is_group bytes)
grouped [] = record { low = tt; mark = λ last rest h. absurd cc }
grouped (byte ∷ bytes) = by_test (nat_lt byte 128) refl (grouped bytes)
  where
    by_test : (b : Bool) → nat_lt byte 128 ≡ b → Grouped bytes (prefix_len is_group bytes) → Grouped (byte ∷ bytes) (if b then 1 + prefix_len is_group bytes else 0)
    by_test true is others =
        let one : suc (prefix_len is_group bytes) ≡ 1 + prefix_len is_group bytes = omega arith in
        subst (λ n. Grouped (byte ∷ bytes) n) one (record { low = (ltb-true byte 128 is, others.low); mark = others.mark })
    by_test false is others = record { low = tt; mark = λ last rest h. let same : byte ≡ last = cc in let high = ltb-false byte 128 is in omega arith }

last_group_reads : (limit : ℕ) (bytes groups rest : List ℕ) → length bytes ≤ limit → bytes ≡ groups ++ rest → AllByRecursion (λ group. group < 128) groups
    → ((last : ℕ) (after : List ℕ) → rest ≡ last ∷ after → 128 ≤ last) → Reads behind (Writes IsSizeOf) limit [] bytes (last_group_at bytes groups rest)
unfolding last_group_at
last_group_reads limit bytes groups [] le whole low mark = refuses limit [] bytes bytes Short le
last_group_reads limit bytes groups (last ∷ rest) le whole low mark =
    either (begins_with_zero groups) limit [] bytes (λ _. refuses limit [] bytes bytes BadSize le)
    (λ no_zero. either (nat_lt (value_of_groups groups) (2 ^ 57)) limit [] bytes
    (λ fits. let below = ltb-true (value_of_groups groups) (2 ^ 57) fits in
    gives limit [] bytes (groups ++ last ∷ []) (value_of_groups groups * 128 + last % 128, rest) (whole ∙ sym (append_assoc groups (last ∷ []) rest))
    (record {
      groups = groups;
      last = last;
      written = refl;
      no_marks = low;
      mark = mark last rest refl;
      no_zero = no_zero;
      value = refl;
      within = omega arith;
    }))
    (λ _. refuses limit [] bytes bytes BadSize le))

pub size_reads : (limit : ℕ) (bytes : List ℕ) → length bytes ≤ limit → Reads behind (Writes IsSizeOf) limit [] bytes (size_at bytes)
unfolding size_at
size_reads limit bytes le =
    let n = prefix_len is_group bytes in
    let split = grouped bytes in
    last_group_reads limit bytes (take n bytes) (drop n bytes) le (sym (take-append-drop n bytes)) split.low split.mark

pub count_reads : (limit : ℕ) (bytes : List ℕ) → length bytes ≤ limit → Reads behind (Writes IsCountOf) limit [] bytes (count_at bytes)
unfolding count_at
count_reads limit bytes le =
    andthen limit [] bytes (size_at bytes) _ le (size_reads limit bytes le) (λ n front within is.
    either (nat_lt n.0 (2 ^ 31)) limit front n.1 (λ low. done limit front n.1 n refl (record { size = is; below = ltb-true n.0 (2 ^ 31) low })) (λ _. refuses limit front n.1 bytes BadSize le))

-- ---- lists

pub many_reads : {A : Type 0} (Is : List ℕ → A → Type 0) (item_at : List ℕ → Result (A × List ℕ) Wrong) (limit : ℕ)
    → ((bytes : List ℕ) → length bytes ≤ limit → Reads behind (Writes Is) limit [] bytes (item_at bytes))
    → (n : ℕ) (bytes : List ℕ) → length bytes ≤ limit → Reads behind (λ front x. AreEach Is front x.0 × (length x.0 ≡ n)) limit [] bytes (many_at item_at n bytes)
unfolding many_at
many_reads Is item_at limit item zero bytes le = done limit [] bytes ([], bytes) refl (grammar.none, refl)
many_reads Is item_at limit item (suc n) bytes le =
    andthen limit [] bytes (item_at bytes) _ le (item bytes le) (λ first front within is.
    andlast limit front first.1 (many_at item_at n first.1) _ within (many_reads Is item_at limit item n first.1 within) (λ others. refl)
    (λ others rest are. (grammar.more front rest first.0 others.0 is are.0, ap suc are.1)))

pub skip_reads : (Is : List ℕ → Type 0) (item_at : List ℕ → Result (List ℕ) Wrong) (limit : ℕ)
    → ((bytes : List ℕ) → length bytes ≤ limit → Reads itself (Skips Is) limit [] bytes (item_at bytes))
    → (n : ℕ) (bytes : List ℕ) → length bytes ≤ limit → Reads itself (Skips (AreSome Is n)) limit [] bytes (skip_at item_at n bytes)
unfolding skip_at
skip_reads Is item_at limit item zero bytes le = done limit [] bytes bytes refl grammar.no_more
skip_reads Is item_at limit item (suc n) bytes le =
    andthen limit [] bytes (item_at bytes) _ le (item bytes le) (λ rest front within is.
    under limit front rest (skip_at item_at n rest) (skip_reads Is item_at limit item n rest within) (λ others back are. grammar.one_more n front back is are))

-- ---- what only debugging reads

pub debug_string_reads : (limit : ℕ) (bytes : List ℕ) → length bytes ≤ limit → Reads itself (Skips IsDebugString) limit [] bytes (debug_string_at bytes)
unfolding debug_string_at
debug_string_reads limit bytes le =
    andthen limit [] bytes (size_at bytes) _ le (size_reads limit bytes le) (λ n front within is.
    andlast limit front n.1 (run_at (n.0 - 1) n.1) _ within (run_reads (n.0 - 1) limit n.1 within) (λ s. refl) (λ s run ran. of_size n.0 front run is ran.1))
  where
    of_size : (n : ℕ) (size s : List ℕ) → IsSizeOf size n → length s ≡ n - 1 → IsDebugString (size ++ s)
    of_size zero size [] is len = subst IsDebugString (sym (append-nil size)) (grammar.absent size is)
    of_size zero size (x ∷ s) is len = absurd (omega (arith, len))
    of_size (suc n) size s is len = grammar.present size s (subst (λ k. IsSizeOf size k) (omega (arith, len)) is)

pub pair_reads : (limit : ℕ) (bytes : List ℕ) → length bytes ≤ limit → Reads itself (Skips IsPair) limit [] bytes (line_at bytes)
unfolding line_at
pair_reads limit bytes le =
    andthen limit [] bytes (count_at bytes) _ le (count_reads limit bytes le) (λ m first within is_first.
    andlast limit first m.1 (count_at m.1) _ within (count_reads limit m.1 within) (λ n. refl) (λ n second is_second. grammar.pair first second m.0 n.0 is_first is_second))

pub local_reads : (limit : ℕ) (bytes : List ℕ) → length bytes ≤ limit → Reads itself (Skips IsDebugLocal) limit [] bytes (local_at bytes)
unfolding local_at
local_reads limit bytes le =
    andthen limit [] bytes (debug_string_at bytes) _ le (debug_string_reads limit bytes le) (λ rest name within named.
    under limit name rest (line_at rest) (pair_reads limit rest within) (λ _ active is. grammar.local name active named is))

pub distances_reads : (limit : ℕ) (bytes : List ℕ) → length bytes ≤ limit → Reads itself (Skips AreDistances) limit [] bytes (distances_at bytes)
unfolding distances_at
distances_reads limit bytes le =
    andthen limit [] bytes (count_at bytes) _ le (count_reads limit bytes le) (λ n count within is.
    either (nat_lt (length n.1) n.0) limit count n.1 (λ _. refuses limit count n.1 [] Short (omega arith))
    (λ enough. gives limit count n.1 (take n.0 n.1) (drop n.0 n.1) (sym (take-append-drop n.0 n.1))
    (grammar.line_distances count (take n.0 n.1) (subst (λ k. IsCountOf count k) (sym (length-take-le n.0 n.1 (ltb-false (length n.1) n.0 enough))) is))))

-- a list of which nothing is kept, in front of what follows
module _ {B : Type 0} {next : B → List ℕ} {Whole : List ℕ → B → Type 0} (Is : List ℕ → Type 0) (item_at : List ℕ → Result (List ℕ) Wrong) (limit : ℕ)
    (item : (bytes : List ℕ) → length bytes ≤ limit → Reads itself (Skips Is) limit [] bytes (item_at bytes)) where
  skipped_then : (so_far bytes : List ℕ) (f : List ℕ → Result B Wrong) → length bytes ≤ limit
      → ((front rest : List ℕ) → length rest ≤ limit → IsDebugList Is front → Reads next Whole limit (so_far ++ front) rest (f rest))
      → Reads next Whole limit so_far bytes (count_at bytes >>= λ n. skip_at item_at n.0 n.1 >>= f)
  skipped_then so_far bytes f le k =
      andthen limit so_far bytes (count_at bytes) _ le (count_reads limit bytes le) (λ n count within is.
      andthen limit (so_far ++ count) n.1 (skip_at item_at n.0 n.1) _ within (skip_reads Is item_at limit item n.0 n.1 within) (λ rest items inside are.
      subst (λ b. Reads next Whole limit b rest (f rest)) (sym (append_assoc so_far count items)) (k (count ++ items) rest inside (grammar.debug_list n.0 count items is are))))

pub debug_reads : (limit : ℕ) (bytes : List ℕ) → length bytes ≤ limit → Reads itself (Skips IsDebugPart) limit [] bytes (debug_at bytes)
unfolding debug_at
debug_reads limit bytes le =
    andthen limit [] bytes (distances_at bytes) _ le (distances_reads limit bytes le) (λ rest distances within are.
    skipped_then IsPair line_at limit (pair_reads limit) distances rest _ within (λ lines behind_lines in_lines are_lines.
    skipped_then IsDebugLocal local_at limit (local_reads limit) (distances ++ lines) behind_lines _ in_lines (λ locals behind_locals in_locals are_locals.
    andthen limit (distances ++ lines ++ locals) behind_locals (count_at behind_locals) _ in_locals (count_reads limit behind_locals in_locals) (λ n count inside is.
    under limit (distances ++ lines ++ locals ++ count) n.1 (skip_at debug_string_at n.0 n.1) (skip_reads IsDebugString debug_string_at limit (debug_string_reads limit) n.0 n.1 inside)
    (λ _ names are_names.
    subst IsDebugPart (sym (append_assoc (distances ++ lines ++ locals) count names))
    (grammar.debug_part distances lines locals (count ++ names) are are_lines are_locals (grammar.debug_list n.0 count names is are_names)))))))

-- ---- what a function holds

constant_string_reads : (short : Bool) (limit : ℕ) (bytes : List ℕ) → length bytes ≤ limit
    → Reads behind (λ front x. (size s : List ℕ) × (front ≡ size ++ s) × IsSizeOf size (length s + 1) × (has_length short (length s) ≡ true) × (x.0 ≡ const.Str s)) limit [] bytes
    (constant_string_at short bytes)
unfolding constant_string_at
constant_string_reads short limit bytes le =
    andthen limit [] bytes (size_at bytes) _ le (size_reads limit bytes le) (λ n size within is.
    andthen {Is = λ front s. (front ≡ s.0) × (length front + 1 ≡ n.0) × (has_length short (length front) ≡ true)} limit size n.1 _ _ within
    (either (n.0 == 0) limit [] n.1 (λ _. refuses limit [] n.1 bytes BadSize le)
    (λ some. either (has_length short (n.0 - 1)) limit [] n.1 (λ fits. under limit [] n.1 (run_at (n.0 - 1) n.1) (run_reads (n.0 - 1) limit n.1 within)
    (λ s front ran. let positive = eqb-false n.0 0 some in (ran.0, omega (arith, ran.1), subst (λ k. has_length short k ≡ true) (sym ran.1) fits)))
    (λ _. refuses limit [] n.1 bytes BadSize le)))
    (λ s front within told. done limit (size ++ front) s.1 (const.Str s.0, s.1) refl
    (size, front, refl, subst (λ k. IsSizeOf size k) (sym told.1) is, told.2, ap const.Str (sym told.0))))

tagged_reads : (limit : ℕ) (bytes : List ℕ) (tag : ℕ) (rest : List ℕ) → length bytes ≤ limit → length rest ≤ limit
    → Reads behind (Writes IsConstantOf) limit (tag ∷ []) rest (tagged_at bytes tag rest)
unfolding tagged_at
tagged_reads limit bytes tag rest le within =
    either (tag == 0) limit (tag ∷ []) rest (λ t. done limit (tag ∷ []) rest (const.Nil, rest) refl (rw (eqb-true tag 0 t) grammar.nil)) (λ _.
    either (tag == 1) limit (tag ∷ []) rest (λ t. done limit (tag ∷ []) rest (const.False, rest) refl (rw (eqb-true tag 1 t) grammar.constant_false)) (λ _.
    either (tag == 17) limit (tag ∷ []) rest (λ t. done limit (tag ∷ []) rest (const.True, rest) refl (rw (eqb-true tag 17 t) grammar.constant_true)) (λ _.
    either (tag == 3) limit (tag ∷ []) rest (λ t. andlast limit (tag ∷ []) rest (number_at rest) _ within (number_reads limit rest within) (λ n. refl)
    (λ n number is. rw (eqb-true tag 3 t, is.1) (grammar.integer number is.0))) (λ _.
    either (tag == 19) limit (tag ∷ []) rest (λ t. andlast limit (tag ∷ []) rest (number_at rest) _ within (number_reads limit rest within) (λ n. refl)
    (λ n number is. rw (eqb-true tag 19 t, is.1) (grammar.float number is.0))) (λ _.
    either (tag == 4) limit (tag ∷ []) rest (λ t. under limit (tag ∷ []) rest (constant_string_at true rest) (constant_string_reads true limit rest within)
    (λ x front is. rw (eqb-true tag 4 t, is.2, is.5) (grammar.short_string is.0 is.1 is.3 (leb-true (length is.1) most_short is.4)))) (λ _.
    either (tag == 20) limit (tag ∷ []) rest (λ t. under limit (tag ∷ []) rest (constant_string_at false rest) (constant_string_reads false limit rest within)
    (λ x front is. rw (eqb-true tag 20 t, is.2, is.5) (grammar.long_string is.0 is.1 is.3 (ltb-true most_short (length is.1) is.4)))) (λ _.
    refuses limit (tag ∷ []) rest bytes BadTag le)))))))

pub constant_reads : (limit : ℕ) (bytes : List ℕ) → length bytes ≤ limit → Reads behind (Writes IsConstantOf) limit [] bytes (constant_at bytes)
unfolding constant_at
constant_reads limit bytes le =
    andthen_told limit [] bytes (byte_at bytes) _ (λ x. x.0 ∷ []) le (byte_reads limit bytes le) (λ tag within. tagged_reads limit bytes tag.0 tag.1 le within)

pub upvalue_reads : (limit : ℕ) (bytes : List ℕ) → length bytes ≤ limit → Reads behind (Writes IsUpvalueOf) limit [] bytes (upvalue_at bytes)
unfolding upvalue_at
upvalue_reads limit bytes le =
    andthen_told limit [] bytes (flag_at bytes) _ (λ x. bit x.0 ∷ []) le (flag_reads limit bytes le) (λ instack in_flag.
    andthen_told limit (bit instack.0 ∷ []) instack.1 (byte_at instack.1) _ (λ x. x.0 ∷ []) in_flag (byte_reads limit instack.1 in_flag) (λ idx in_idx.
    andlast limit (bit instack.0 ∷ idx.0 ∷ []) idx.1 (kind_at idx.1) _ in_idx (kind_reads limit idx.1 in_idx) (λ kind. refl)
    (λ kind front is. rw is.0 (grammar.upvalue instack.0 idx.0 kind.0 is.1))))

pub upvalue_count_reads : (main : Option ℕ) (limit : ℕ) (bytes : List ℕ) → length bytes ≤ limit
    → Reads behind (λ front x. IsCountOf front x.0 × CanHaveUpvalues main x.0) limit [] bytes (upvalue_count_at main bytes)
unfolding upvalue_count_at
upvalue_count_reads None limit bytes le =
    andthen limit [] bytes (count_at bytes) _ le (count_reads limit bytes le) (λ n front within is.
    either (nat_le n.0 255) limit front n.1 (λ few. done limit front n.1 n refl (is, leb-true n.0 255 few)) (λ _. refuses limit front n.1 bytes BadSize le))
upvalue_count_reads (Some wanted) limit bytes le =
    andthen limit [] bytes (count_at bytes) _ le (count_reads limit bytes le) (λ n front within is.
    either (n.0 == wanted) limit front n.1 (λ same. done limit front n.1 n refl (is, eqb-true n.0 wanted same)) (λ _. refuses limit front n.1 bytes BadSize le))

-- ---- functions

three_bytes : (front : List ℕ) (a b c : ℕ) → front ++ a ∷ [] ++ b ∷ [] ++ c ∷ [] ≡ front ++ a ∷ b ∷ c ∷ []
three_bytes front a b c = simp append_assoc

pub head_reads : (limit : ℕ) (bytes : List ℕ) → length bytes ≤ limit → Reads behind (Writes IsHeadOf) limit [] bytes (head_at bytes)
unfolding head_at
head_reads limit bytes le =
    andthen limit [] bytes (debug_string_at bytes) _ le (debug_string_reads limit bytes le) (λ rest source in_source is_source.
    andthen limit source rest (count_at rest) _ in_source (count_reads limit rest in_source) (λ from first in_first is_first.
    andthen limit (source ++ first) from.1 (count_at from.1) _ in_first (count_reads limit from.1 in_first) (λ to last in_last is_last.
    andthen_told limit (source ++ first ++ last) to.1 (byte_at to.1) _ (λ x. x.0 ∷ []) in_last (byte_reads limit to.1 in_last) (λ parameters in_parameters.
    andthen_told limit (source ++ first ++ last ++ parameters.0 ∷ []) parameters.1 (flag_at parameters.1) _ (λ x. bit x.0 ∷ []) in_parameters (flag_reads limit parameters.1 in_parameters) (λ vararg in_vararg.
    andlast limit (source ++ first ++ last ++ parameters.0 ∷ [] ++ bit vararg.0 ∷ []) vararg.1 (byte_at vararg.1) _ in_vararg (byte_reads limit vararg.1 in_vararg) (λ registers. refl)
    (λ registers front is. rw (is, three_bytes (source ++ first ++ last) parameters.0 (bit vararg.0) registers.0)
    (grammar.begins source first last from.0 to.0 parameters.0 registers.0 vararg.0 is_source is_first is_last)))))))

-- a list that is kept, in front of what follows
module _ {A B : Type 0} {next : B → List ℕ} {Whole : List ℕ → B → Type 0} (Is : List ℕ → A → Type 0) (item_at : List ℕ → Result (A × List ℕ) Wrong) (limit : ℕ)
    (item : (bytes : List ℕ) → length bytes ≤ limit → Reads behind (Writes Is) limit [] bytes (item_at bytes)) where
  listed_from : (so_far count rest : List ℕ) (n : ℕ) (f : List A × List ℕ → Result B Wrong) → IsCountOf count n → length rest ≤ limit
      → ((front : List ℕ) (xs : List A × List ℕ) → length xs.1 ≤ limit → length xs.0 ≡ n → IsListOf Is front xs.0 → Reads next Whole limit (so_far ++ front) xs.1 (f xs))
      → Reads next Whole limit (so_far ++ count) rest (many_at item_at n rest >>= f)
  listed_from so_far count rest n f is within k =
      andthen limit (so_far ++ count) rest (many_at item_at n rest) _ within (many_reads Is item_at limit item n rest within) (λ xs items inside are.
      subst (λ b. Reads next Whole limit b xs.1 (f xs)) (sym (append_assoc so_far count items))
      (k (count ++ items) xs inside are.1 (grammar.counted count items xs.0 (subst (λ k. IsCountOf count k) (sym are.1) is) are.0)))

  listed_then : (so_far bytes : List ℕ) (f : List A × List ℕ → Result B Wrong) → length bytes ≤ limit
      → ((front : List ℕ) (xs : List A × List ℕ) → length xs.1 ≤ limit → IsListOf Is front xs.0 → Reads next Whole limit (so_far ++ front) xs.1 (f xs))
      → Reads next Whole limit so_far bytes (count_at bytes >>= λ n. many_at item_at n.0 n.1 >>= f)
  listed_then so_far bytes f le k =
      andthen limit so_far bytes (count_at bytes) _ le (count_reads limit bytes le) (λ n count within is.
      listed_from so_far count n.1 n.0 f is within (λ front xs inside len are. k front xs inside are))

pub function_reads : (levels : ℕ) (main : Option ℕ) (limit : ℕ) (bytes : List ℕ) → length bytes ≤ limit
    → Reads behind (Writes (IsFunctionOf levels main)) limit [] bytes (function_at levels main bytes)
unfolding function_at
function_reads zero main limit bytes le = refuses limit [] bytes bytes Nested le
function_reads (suc levels) main limit bytes le =
    andthen limit [] bytes (head_at bytes) _ le (head_reads limit bytes le) (λ h head in_head is_head.
    listed_then IsInstructionOf word_at limit (word_reads limit) head h.1 _ in_head (λ code words in_code is_code.
    listed_then IsConstantOf constant_at limit (constant_reads limit) (head ++ code) words.1 _ in_code (λ constants consts in_constants are_constants.
    andthen limit (head ++ code ++ constants) consts.1 (upvalue_count_at main consts.1) _ in_constants (upvalue_count_reads main limit consts.1 in_constants) (λ n count in_count is_count.
    listed_from IsUpvalueOf upvalue_at limit (upvalue_reads limit) (head ++ code ++ constants) count n.1 n.0 _ is_count.0 in_count (λ upvalues upvals in_upvalues len are_upvalues.
    listed_then (IsFunctionOf levels None) (function_at levels None) limit (function_reads levels None limit) (head ++ code ++ constants ++ upvalues) upvals.1 _ in_upvalues (λ inside functions in_inside are_inside.
    andlast limit (head ++ code ++ constants ++ upvalues ++ inside) functions.1 (debug_at functions.1) _ in_inside (debug_reads limit functions.1 in_inside) (λ rest. refl)
    (λ rest debug is_debug.
    grammar.around head code constants upvalues inside debug h.0 words.0 consts.0 upvals.0 functions.0 is_head is_code are_constants
    (subst (λ k. CanHaveUpvalues main k) (sym len) is_count.1) are_upvalues are_inside is_debug)))))))

-- the function of a chunk, which all the bytes are
chunk_reads : (bytes : List ℕ) → Reads (λ f. []) IsChunkOf (length bytes) [] bytes (chunk_at bytes)
unfolding chunk_at
chunk_reads bytes =
    let limit = length bytes in
    let le : limit ≤ limit = omega arith in
    andthen_told limit [] bytes (fixed_at header bytes) _ (λ _. header) le (fixed_reads header limit bytes le) (λ rest in_header.
    andthen_told limit header rest (byte_at rest) _ (λ x. x.0 ∷ []) in_header (byte_reads limit rest in_header) (λ upvalues in_count.
    andthen limit (header ++ upvalues.0 ∷ []) upvalues.1 (function_at most_levels (Some upvalues.0) upvalues.1) _ in_count (function_reads most_levels (Some upvalues.0) limit upvalues.1 in_count)
    (λ main front inside is.
    either (length main.1 == 0) limit (header ++ upvalues.0 ∷ [] ++ front) main.1
    (λ all. done limit (header ++ upvalues.0 ∷ [] ++ front) main.1 main.0 (empty main.1 (eqb-true (length main.1) 0 all))
    (grammar.chunk upvalues.0 front main.0 is))
    (λ _. refuses limit (header ++ upvalues.0 ∷ [] ++ front) main.1 main.1 Trailing inside))))
  where
    empty : (xs : List ℕ) → length xs ≡ 0 → xs ≡ []
    empty [] e = refl
    empty (x ∷ xs) e = absurd (omega (arith, e))

pub chunk_sound : (bytes : List ℕ) (f : Function) → chunk_at bytes ≡ Ok f → IsChunkOf bytes f
chunk_sound bytes f h = let s = (chunk_reads bytes).sound f h in subst (λ b. IsChunkOf b f) (sym (s.1 ∙ append-nil s.0)) s.2

pub refused_within : (bytes : List ℕ) (e : Wrong) → chunk_at bytes ≡ Err e → e.left ≤ length bytes
refused_within bytes e h = (chunk_reads bytes).within e h

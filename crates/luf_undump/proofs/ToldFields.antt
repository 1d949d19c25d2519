-- What each single field of a chunk tells of any bytes.
use Rattle.std.proofs.Common.{◌≡◌, ℕ, zero, suc, ◌+◌, ◌-◌, ◌*◌, ◌/◌, ◌%◌, ◌^◌, ◌<◌, ◌≤◌, ◌==◌, Bool, true, false, if◌then◌else◌, nat_lt, nat_le, List, [], ◌∷◌, ◌++◌, length, take, drop, Result, Ok, Err, refl, sym, ap, ◌∙◌, subst, append_assoc, take-append-drop, length-append, arith}
use Rattle.std.proofs.Math.Seq.{take-append_seam, drop-append_seam, drop-length}
use Rattle.std.proofs.lemmas.Bool.{ltb-true, ltb-false, lt-ltb}
use Rattle.std.proofs.lemmas.List.{append-nil, length-take-le}
use Rattle.std.specs.Int.{w32, w64, from_le_bytes}
use Rattle.std.specs.List.{prefix_len}
use Rattle.luf_proto.specs.Chunk.{groups, size}
use Rattle.luf_undump.specs.Field.{InBytes, InSize}
use Rattle.luf_undump.specs.Field as field
use Rattle.luf_undump.specs.FirstWrong.{AreBytes, AreGroups}
use Rattle.luf_undump.specs.Reading.{◌>>=◌, Wrong, wrong, byte_at, is_group, begins_with_zero, value_of_groups, last_group_at, size_at, count_at, run_at, word_at, number_at, flag_at, kind_at}
use Rattle.luf_undump.specs.declared.error.ChunkWhat.TheVariants.{Short, BadSize}
use Rattle.luf_undump.proofs.Complete.{true_test, false_test, word_complete, number_complete, run_complete, groups_end, last_group_complete, size_complete, count_complete}
use Rattle.luf_undump.proofs.Sound.{grouped}
use Rattle.luf_undump.proofs.Told.{Takes, Ends, Told, Tells, pair, bytes_join}
use Rattle.luf_undump.proofs.Told as told
use Rattle.luf_undump.proofs.Written.{count_is, groups_low, size_is}

-- ---- bytes

pub only_empty : (P : List ℕ → Type 0) → P [] → (others : List ℕ) → length others ≤ 0 → P others
only_empty P is [] le = is
only_empty P is (x ∷ others) le = absurd (omega (arith, le))

byte_opens : Ends pair byte_at []
unfolding byte_at
byte_opens = record { value = 0; more = 0 ∷ []; are = (omega arith, tt); ends = λ rest. refl }

byte_told : (bytes : List ℕ) → Told pair (InBytes 1) byte_at byte_at bytes
unfolding byte_at
byte_told [] = told.short 1 [] [] refl field.begins (omega arith) (only_empty (Ends pair byte_at) byte_opens) (only_empty (λ others. byte_at others ≡ wrong others Short) refl)
byte_told (byte ∷ rest) = told.read byte (byte ∷ []) rest refl (λ more. refl) (λ more. refl)

pub byte_tells : Tells pair (InBytes 1) byte_at byte_at
byte_tells = record { told = byte_told; opens = byte_opens; opens_deeper = byte_opens }

flag_opens : Ends pair flag_at []
unfolding flag_at byte_at
flag_opens = record { value = false; more = 0 ∷ []; are = (omega arith, tt); ends = λ rest. refl }

flag_zero : Ends pair flag_at (0 ∷ [])
unfolding flag_at byte_at
flag_zero = record { value = false; more = []; are = tt; ends = λ rest. refl }

flag_told : (bytes : List ℕ) → Told pair (InBytes 1) flag_at flag_at bytes
unfolding flag_at byte_at
flag_told [] = told.short 1 [] [] refl field.begins (omega arith) (only_empty (Ends pair flag_at) flag_opens) (only_empty (λ others. flag_at others ≡ wrong others Short) refl)
flag_told (byte ∷ rest) = by_test (byte == 0) (byte == 1) refl refl
  where
    by_test : (zero one : Bool) → (byte == 0) ≡ zero → (byte == 1) ≡ one → Told pair (InBytes 1) flag_at flag_at (byte ∷ rest)
    by_test true one is_zero is_one = told.read false (byte ∷ []) rest refl (λ more. true_test (byte == 0) _ _ is_zero) (λ more. true_test (byte == 0) _ _ is_zero)
    by_test false true is_zero is_one =
        told.read true (byte ∷ []) rest refl (λ more. false_test (byte == 0) _ _ is_zero ∙ true_test (byte == 1) _ _ is_one)
        (λ more. false_test (byte == 0) _ _ is_zero ∙ true_test (byte == 1) _ _ is_one)
    by_test false false is_zero is_one =
        told.tag byte [] rest refl field.begins flag_zero (λ more. false_test (byte == 0) _ _ is_zero ∙ false_test (byte == 1) _ _ is_one)

pub flag_tells : Tells pair (InBytes 1) flag_at flag_at
flag_tells = record { told = flag_told; opens = flag_opens; opens_deeper = flag_opens }

kind_opens : Ends pair kind_at []
unfolding kind_at byte_at
kind_opens = record { value = 0; more = 0 ∷ []; are = (omega arith, tt); ends = λ rest. refl }

kind_zero : Ends pair kind_at (0 ∷ [])
unfolding kind_at byte_at
kind_zero = record { value = 0; more = []; are = tt; ends = λ rest. refl }

kind_told : (bytes : List ℕ) → Told pair (InBytes 1) kind_at kind_at bytes
unfolding kind_at byte_at
kind_told [] = told.short 1 [] [] refl field.begins (omega arith) (only_empty (Ends pair kind_at) kind_opens) (only_empty (λ others. kind_at others ≡ wrong others Short) refl)
kind_told (byte ∷ rest) = by_test (nat_le byte 3) refl
  where
    by_test : (low : Bool) → nat_le byte 3 ≡ low → Told pair (InBytes 1) kind_at kind_at (byte ∷ rest)
    by_test true is = told.read byte (byte ∷ []) rest refl (λ more. true_test (nat_le byte 3) _ _ is) (λ more. true_test (nat_le byte 3) _ _ is)
    by_test false is = told.tag byte [] rest refl field.begins kind_zero (λ more. false_test (nat_le byte 3) _ _ is)

pub kind_tells : Tells pair (InBytes 1) kind_at kind_at
kind_tells = record { told = kind_told; opens = kind_opens; opens_deeper = kind_opens }

-- ---- so many bytes

pub zeros : ℕ → List ℕ
zeros zero = []
zeros (suc n) = 0 ∷ zeros n

pub zeros_length : (n : ℕ) → length (zeros n) ≡ n
unfolding zeros
zeros_length zero = refl
zeros_length (suc n) = ap suc (zeros_length n)

pub zeros_are : (n : ℕ) → AreBytes (zeros n)
unfolding zeros
zeros_are zero = tt
zeros_are (suc n) = (omega arith, zeros_are n)

module _ {A : Type 0} (len : ℕ) (r : List ℕ → Result (A × List ℕ) Wrong) (value : List ℕ → A)
    (takes : (run rest : List ℕ) → length run ≡ len → r (run ++ rest) ≡ Ok (value run, rest))
    (stops : (bytes : List ℕ) → length bytes < len → r bytes ≡ wrong bytes Short) where
  exact_ends : (bytes : List ℕ) → length bytes ≤ len → Ends pair r bytes
  exact_ends bytes le =
      let pad = zeros (len - length bytes) in
      let whole : length (bytes ++ pad) ≡ len = omega (arith, length-append bytes pad, zeros_length (len - length bytes), le) in
      record {
        value = value (bytes ++ pad);
        more = pad;
        are = zeros_are (len - length bytes);
        ends = λ rest. ap r (sym (append_assoc bytes pad rest)) ∙ takes (bytes ++ pad) rest whole;
      }

  exact_told : (bytes : List ℕ) → Told pair (InBytes len) r r bytes
  exact_told bytes = by_test (nat_lt (length bytes) len) refl
    where
      by_test : (b : Bool) → nat_lt (length bytes) len ≡ b → Told pair (InBytes len) r r bytes
      by_test true is =
          let few = ltb-true (length bytes) len is in
          told.short len [] bytes refl field.begins few (λ others le. exact_ends others (omega (arith, few, le))) (λ others le. stops others (omega (arith, few, le)))
      by_test false is =
          let enough = length-take-le len bytes (ltb-false (length bytes) len is) in
          told.read (value (take len bytes)) (take len bytes) (drop len bytes) (sym (take-append-drop len bytes))
          (λ more. takes (take len bytes) more enough) (λ more. takes (take len bytes) more enough)

  pub exact_tells : Tells pair (InBytes len) r r
  exact_tells = record { told = exact_told; opens = exact_ends [] (omega arith); opens_deeper = exact_ends [] (omega arith) }

pub word_tells : Tells pair (InBytes 4) word_at word_at
unfolding word_at
word_tells =
    exact_tells 4 word_at (from_le_bytes w32) (λ run rest four. word_complete run rest (from_le_bytes w32 run) (record { four = four; value = refl }))
    (λ bytes few. true_test (nat_lt (length bytes) 4) _ _ (lt-ltb (length bytes) 4 few))

pub number_tells : Tells pair (InBytes 8) number_at number_at
unfolding number_at
number_tells =
    exact_tells 8 number_at (from_le_bytes w64) (λ run rest eight. number_complete run rest eight)
    (λ bytes few. true_test (nat_lt (length bytes) 8) _ _ (lt-ltb (length bytes) 8 few))

pub run_tells : (len : ℕ) → Tells pair (InBytes len) (run_at len) (run_at len)
unfolding run_at
run_tells len =
    exact_tells len (run_at len) (λ run. run) (λ run rest same. ap (λ n. run_at n (run ++ rest)) (sym same) ∙ run_complete run rest)
    (λ bytes few. true_test (nat_lt (length bytes) len) _ _ (lt-ltb (length bytes) len few))

-- ---- sizes

groups_are : (groups : List ℕ) → AreGroups groups → AreBytes groups
groups_are [] low = tt
groups_are (group ∷ groups) low = let first = low.0 in (omega (arith, first), groups_are groups low.1)

pub size_are : (n : ℕ) → AreBytes (size n)
unfolding size
size_are n = bytes_join (groups 9 (n / 128)) ((n % 128 + 128) ∷ []) (groups_are (groups 9 (n / 128)) (groups_low 9 (n / 128))) (omega arith, tt)

-- what a field that is a size tells: it is whole, it is bad whatever stands behind it, or the bytes end in it
pub data Field {A B : Type 0} (form : A → List ℕ → B) (r : List ℕ → Result B Wrong) (bytes : List ℕ) : Type 0 where
  whole : (x : A) (front rest : List ℕ) → bytes ≡ front ++ rest → Takes form r x front → Field form r bytes
  bad : (groups : List ℕ) (last : ℕ) (rest : List ℕ) → bytes ≡ (groups ++ last ∷ []) ++ rest → AreGroups groups → 128 ≤ last
      → ((more : List ℕ) → r ((groups ++ last ∷ []) ++ more) ≡ wrong ((groups ++ last ∷ []) ++ more) BadSize) → Field form r bytes
  broken : AreGroups bytes → r bytes ≡ wrong bytes Short → Field form r bytes

module _ {A B : Type 0} {form : A → List ℕ → B} (r : List ℕ → Result B Wrong) (opens : Ends form r []) where
  field_told : (bytes : List ℕ) → Field form r bytes → Told form InSize r r bytes
  field_told bytes (whole x front rest e takes) = told.read x front rest e takes takes
  field_told bytes (bad groups last rest e low mark stops) = told.size groups last [] rest e field.begins low mark opens stops
  field_told bytes (broken are stops) = told.cut [] bytes refl field.begins are opens stops

  pub field_tells : ((bytes : List ℕ) → Field form r bytes) → Tells form InSize r r
  field_tells fields = record { told = λ bytes. field_told bytes (fields bytes); opens = opens; opens_deeper = opens }

-- what becomes of a number that a size writes
pub data Decided {A B : Type 0} (form : A → List ℕ → B) (test : List ℕ → ℕ × List ℕ → Result B Wrong) (n : ℕ) : Type 0 where
  taken : (x : A) → ((bytes rest : List ℕ) → test bytes (n, rest) ≡ Ok (form x rest)) → Decided form test n
  turned_down : ((bytes rest : List ℕ) → test bytes (n, rest) ≡ wrong bytes BadSize) → Decided form test n

size_whole : (groups : List ℕ) (last : ℕ) (more : List ℕ) → AreGroups groups → 128 ≤ last
    → size_at ((groups ++ last ∷ []) ++ more) ≡ last_group_at ((groups ++ last ∷ []) ++ more) groups (last ∷ more)
unfolding size_at
size_whole groups last more low mark =
    let bytes = (groups ++ last ∷ []) ++ more in
    let all : bytes ≡ groups ++ (last ∷ more) = append_assoc groups (last ∷ []) more in
    let len : prefix_len is_group bytes ≡ length groups = ap (prefix_len is_group) all ∙ groups_end groups last more low mark in
    let front : take (prefix_len is_group bytes) bytes ≡ groups = rw (len, all) (take-append_seam groups (last ∷ more)) in
    let back : drop (prefix_len is_group bytes) bytes ≡ last ∷ more = rw (len, all) (drop-append_seam groups (last ∷ more)) in
    rw (front, back) refl

groups_alone : (bytes : List ℕ) → AreGroups bytes → prefix_len is_group bytes ≡ length bytes
groups_alone [] low = refl
groups_alone (byte ∷ bytes) low =
    let one : 1 + length bytes ≡ suc (length bytes) = omega arith in
    true_test (nat_lt byte 128) _ _ (lt-ltb byte 128 low.0) ∙ ap (λ n. 1 + n) (groups_alone bytes low.1) ∙ one

size_cut : (bytes : List ℕ) → AreGroups bytes → size_at bytes ≡ wrong bytes Short
unfolding size_at last_group_at
size_cut bytes low =
    let len = groups_alone bytes low in
    let back : drop (prefix_len is_group bytes) bytes ≡ [] = ap (λ n. drop n bytes) len ∙ drop-length bytes in
    rw back refl

module _ {A B : Type 0} {form : A → List ℕ → B} (r : List ℕ → Result B Wrong) (test : List ℕ → ℕ × List ℕ → Result B Wrong)
    (is_sized : (bytes : List ℕ) → r bytes ≡ (size_at bytes >>= test bytes)) (decided : (n : ℕ) → Decided form test n) where
  bad_size : (bytes groups : List ℕ) (last : ℕ) (rest : List ℕ) → bytes ≡ groups ++ (last ∷ rest) → AreGroups groups → 128 ≤ last
      → ((more : List ℕ) → (size_at ((groups ++ last ∷ []) ++ more) >>= test ((groups ++ last ∷ []) ++ more)) ≡ wrong ((groups ++ last ∷ []) ++ more) BadSize) → Field form r bytes
  bad_size bytes groups last rest e low mark stops =
      bad groups last rest (e ∙ sym (append_assoc groups (last ∷ []) rest)) low mark
      (λ more. is_sized ((groups ++ last ∷ []) ++ more) ∙ stops more)

  whole_size : (bytes groups : List ℕ) (last : ℕ) (rest : List ℕ) → bytes ≡ groups ++ (last ∷ rest) → AreGroups groups → 128 ≤ last
      → (n : ℕ) → ((more : List ℕ) → size_at ((groups ++ last ∷ []) ++ more) ≡ Ok (n, more)) → Decided form test n → Field form r bytes
  whole_size bytes groups last rest e low mark n reads (taken x takes) =
      whole x (groups ++ last ∷ []) rest (e ∙ sym (append_assoc groups (last ∷ []) rest))
      (λ more. is_sized ((groups ++ last ∷ []) ++ more) ∙ ap (λ y. y >>= test ((groups ++ last ∷ []) ++ more)) (reads more) ∙ takes ((groups ++ last ∷ []) ++ more) more)
  whole_size bytes groups last rest e low mark n reads (turned_down stops) =
      bad_size bytes groups last rest e low mark
      (λ more. ap (λ y. y >>= test ((groups ++ last ∷ []) ++ more)) (reads more) ∙ stops ((groups ++ last ∷ []) ++ more) more)

  marked : (bytes groups : List ℕ) (last : ℕ) (rest : List ℕ) → bytes ≡ groups ++ (last ∷ rest) → AreGroups groups → 128 ≤ last
      → (zero fits : Bool) → begins_with_zero groups ≡ zero → nat_lt (value_of_groups groups) (2 ^ 57) ≡ fits → Field form r bytes
  unfolding last_group_at
  marked bytes groups last rest e low mark true fits is_zero is_fit =
      bad_size bytes groups last rest e low mark
      (λ more. ap (λ y. y >>= test ((groups ++ last ∷ []) ++ more)) (size_whole groups last more low mark ∙ true_test (begins_with_zero groups) _ _ is_zero))
  marked bytes groups last rest e low mark false true is_zero is_fit =
      whole_size bytes groups last rest e low mark (value_of_groups groups * 128 + last % 128)
      (λ more. size_whole groups last more low mark ∙ last_group_complete ((groups ++ last ∷ []) ++ more) groups last more is_zero (ltb-true (value_of_groups groups) (2 ^ 57) is_fit))
      (decided (value_of_groups groups * 128 + last % 128))
  marked bytes groups last rest e low mark false false is_zero is_fit =
      bad_size bytes groups last rest e low mark
      (λ more. ap (λ y. y >>= test ((groups ++ last ∷ []) ++ more))
      (size_whole groups last more low mark ∙ false_test (begins_with_zero groups) _ _ is_zero ∙ false_test (nat_lt (value_of_groups groups) (2 ^ 57)) _ _ is_fit))

  split : (bytes groups rest : List ℕ) → bytes ≡ groups ++ rest → AreGroups groups → ((last : ℕ) (after : List ℕ) → rest ≡ last ∷ after → 128 ≤ last) → Field form r bytes
  split bytes groups [] e low mark =
      let are = subst AreGroups (sym (e ∙ append-nil groups)) low in
      broken are (is_sized bytes ∙ ap (λ y. y >>= test bytes) (size_cut bytes are))
  split bytes groups (last ∷ rest) e low mark = marked bytes groups last rest e low (mark last rest refl) (begins_with_zero groups) _ refl refl

  pub sized_field : (bytes : List ℕ) → Field form r bytes
  sized_field bytes =
      let n = prefix_len is_group bytes in
      split bytes (take n bytes) (drop n bytes) (sym (take-append-drop n bytes)) (grouped bytes).low (grouped bytes).mark

bind_ok : {B : Type 0} (r : Result B Wrong) → r ≡ (r >>= λ x. Ok x)
bind_ok (Ok x) = refl
bind_ok (Err e) = refl

pub bind_assoc : {A B C : Type 0} (r : Result A Wrong) (f : A → Result B Wrong) (g : B → Result C Wrong) → ((r >>= f) >>= g) ≡ (r >>= λ x. f x >>= g)
bind_assoc (Ok x) f g = refl
bind_assoc (Err e) f g = refl

pub size_tells : Tells pair InSize size_at size_at
size_tells =
    field_tells size_at (record { value = 0; more = size 0; are = size_are 0; ends = λ rest. size_complete (size 0) rest 0 (size_is 0 (omega arith)) })
    (sized_field {form = pair} size_at (λ bytes n. Ok n) (λ bytes. bind_ok (size_at bytes)) (λ n. taken n (λ bytes rest. refl)))

pub count_opens : Ends pair count_at []
count_opens = record { value = 0; more = size 0; are = size_are 0; ends = λ rest. count_complete (size 0) rest 0 (count_is 0 (omega arith)) }

pub count_field : (bytes : List ℕ) → Field pair count_at bytes
unfolding count_at
count_field =
    sized_field {form = pair} count_at (λ bytes n. if nat_lt n.0 (2 ^ 31) then Ok n else wrong bytes BadSize) (λ bytes. refl) (λ n. by_test n (nat_lt n (2 ^ 31)) refl)
  where
    by_test : (n : ℕ) (b : Bool) → nat_lt n (2 ^ 31) ≡ b → Decided pair (λ bytes n. if nat_lt n.0 (2 ^ 31) then Ok n else wrong bytes BadSize) n
    by_test n true is = taken n (λ bytes rest. true_test (nat_lt n (2 ^ 31)) _ _ is)
    by_test n false is = turned_down (λ bytes rest. false_test (nat_lt n (2 ^ 31)) _ _ is)

pub count_tells : Tells pair InSize count_at count_at
count_tells = field_tells count_at count_opens count_field

-- `escape_at` finds each escape, and what it finds is one.
use Rattle.std.proofs.Common.{◌≡◌, ℕ, suc, ◌+◌, ◌*◌, ◌<◌, ◌≤◌, ◌^◌, ◌⊎◌, Bool, true, false, cond, eqb, leb, ltb, ◌&&◌, List, [], ◌∷◌, ◌++◌, length, get_or, take, drop, Option, Some, None, refl, sym, ap, subst, ◌∙◌, arith, inl, inr, append_assoc}
use Rattle.std.specs.Prelude.{codes, IsTrue, slice_index, option_map}
use Rattle.std.specs.List.{AllByRecursion, prefix_len}
use Rattle.std.proofs.lemmas.Bool.{eqb-true, lt-ltb, ltb-true, leb-true, cases_lt, false≢true}
use Rattle.std.proofs.lemmas.Bool.Decides.{nat_tests}
use Rattle.luf_str.specs.declared.escapes.Meaning.{Meaning}
use Rattle.luf_str.specs.declared.escapes.Meaning.TheVariants.{Byte, Code, Nothing}
use Rattle.std.specs.Str.Parse.{digits_value}
use Rattle.std.specs.Char.{digit_value}
use Rattle.luf_byte.specs.Class.{is_line_byte, is_whitespace, is_digit, is_hex_digit}
use Rattle.luf_byte.specs.Front.{NoneAtFront}
use Rattle.luf_byte.specs.LineEnd.{IsLineEndBefore, line_end_length}
use Rattle.luf_str.specs.Escape.{IsEscape, NoEscape, letter_value}
use Rattle.luf_str.specs.Escape as rule
use Rattle.luf_str.specs.Meaning.{bytes_of}
use Rattle.luf_str.specs.inner.Reading.{hexadecimal_at, decimal_at, code_at, letter_at, escape_at}
use Rattle.luf_str.proofs.Leading.{prefix_len-whole, all_leading, none_after, line_end-reads, line_byte_cases, first_line_byte, line_end_length-is}
use Rattle.std.proofs.lemmas.List.Sums.{prefix_len-le-length}
use Rattle.std.proofs.lemmas.List.{take_at, get_or_at, length-append, get_or_past, take_more, length-take-le}

-- the escape of n bytes and this value is read at the front
abbrev pub Reads : List ℕ → ℕ → List ℕ → Type 0
Reads text n value = (m : Meaning) × (escape_at text ≡ Some (n, m)) × (bytes_of m ≡ value)

-- a table's row
row : (P : ℕ → ℕ → Type 0) (c byte k v : ℕ) (others : Option ℕ) → P k v → (others ≡ Some byte → P c byte) → cond (eqb c k) (Some v) others ≡ Some byte → P c byte
row P c byte k v others here there =
    elim (eqb c k) as (λ t. eqb c k ≡ t → cond t (Some v) others ≡ Some byte → P c byte) [
      | true ↦ λ yes e. let vs : v ≡ byte = cc in subst (λ x. P x byte) (sym (eqb-true c k yes)) (subst (λ y. P k y) vs here)
      | false ↦ λ no e. there e
    ] refl

-- what holds of each escape of one letter or sign
pub for_letters : (P : ℕ → ℕ → Type 0) → P 97 7 → P 98 8 → P 102 12 → P 110 10 → P 114 13 → P 116 9 → P 118 11 → P 92 92 → P 34 34 → P 39 39
    → (c byte : ℕ) → letter_value c ≡ Some byte → P c byte
for_letters P a b f n r t v backslash double single c byte =
    row P c byte 97 7 _ a (row P c byte 98 8 _ b (row P c byte 102 12 _ f (row P c byte 110 10 _ n (row P c byte 114 13 _ r (row P c byte 116 9 _ t (row P c byte 118 11 _ v (row P c byte 92 92 _ backslash (row P c byte 34 34 _ double (row P c byte 39 39 _ single (λ e. absurd cc))))))))))

letter_reads : (c byte : ℕ) (next : List ℕ) → letter_value c ≡ Some byte → escape_at (c ∷ next) ≡ Some (1, Byte byte)
unfolding letter_at
letter_reads c byte next h = for_letters (λ c byte. escape_at (c ∷ next) ≡ Some (1, Byte byte)) refl refl refl refl refl refl refl refl refl refl c byte h

at_line_byte : (a : ℕ) (text : List ℕ) → is_line_byte a ≡ true → escape_at (a ∷ text) ≡ Some (line_end_length (a ∷ text), Byte 10)
at_line_byte a text h =
    elim (line_byte_cases a h) [
      | inl e ↦ subst (λ b. escape_at (b ∷ text) ≡ Some (line_end_length (b ∷ text), Byte 10)) (sym e) refl
      | inr e ↦ subst (λ b. escape_at (b ∷ text) ≡ Some (line_end_length (b ∷ text), Byte 10)) (sym e) refl
    ]

line_reads : (line next : List ℕ) → IsLineEndBefore line next → escape_at (line ++ next) ≡ Some (length line, Byte 10)
line_reads [] next h = absurd h
line_reads (a ∷ line) next h = at_line_byte a (line ++ next) (first_line_byte a line next h) ∙ ap (λ n. Some (n, Byte 10)) (line_end_length-is (a ∷ line) next h)

at_digit : (a : ℕ) (text : List ℕ) → is_digit a ≡ true → escape_at (a ∷ text) ≡ decimal_at (a ∷ text)
at_digit a text h =
    let x : eqb a 120 ≡ false = grind (arith, nat_tests) in
    let z : eqb a 122 ≡ false = grind (arith, nat_tests) in
    let u : eqb a 117 ≡ false = grind (arith, nat_tests) in
    rw (x, z, u, h) refl

-- no digit stands at the front
no_digit : (next : List ℕ) → NoneAtFront is_digit next → is_digit (get_or next 0 0) ≡ false
no_digit [] h = refl
no_digit (b ∷ next) h = h

decimal_reads : (digits next : List ℕ) → 1 ≤ length digits → length digits ≤ 3 → AllByRecursion (λ b. IsTrue (is_digit b)) digits → (length digits < 3 → NoneAtFront is_digit next) → digits_value 10 digits ≤ 255
    → escape_at (digits ++ next) ≡ Some (length digits, Byte (digits_value 10 digits))
unfolding decimal_at
decimal_reads [] next some most all none small = absurd (omega arith)
decimal_reads (a ∷ []) next some most all none small =
    at_digit a next all.0 ∙ rw (no_digit next (none (omega arith))) (ap (λ n. Some (1, Byte n)) (omega arith))
decimal_reads (a ∷ b ∷ []) next some most all none small =
    at_digit a (b ∷ next) all.0 ∙ rw (all.1.0, no_digit next (none (omega arith))) (ap (λ n. Some (2, Byte n)) (omega arith))
decimal_reads (a ∷ b ∷ c ∷ []) next some most all none small =
    let n-is : digits_value 10 (a ∷ b ∷ c ∷ []) ≡ 100 * (digit_value a) + 10 * (digit_value b) + (digit_value c) = omega arith in
    let fits : leb (100 * (digit_value a) + 10 * (digit_value b) + (digit_value c)) 255 ≡ true = grind (arith, nat_tests) in
    at_digit a (b ∷ c ∷ next) all.0 ∙ rw (all.1.0, all.1.1.0, fits) (ap (λ n. Some (3, Byte n)) (sym n-is))
decimal_reads (a ∷ b ∷ c ∷ d ∷ digits) next some most all none small = absurd (omega arith)

code_reads : (digits next : List ℕ) → 1 ≤ length digits → AllByRecursion (λ b. IsTrue (is_hex_digit b)) digits → digits_value 16 digits < 2 ^ 31
    → escape_at (117 ∷ 123 ∷ ((digits ++ 125 ∷ []) ++ next)) ≡ Some (3 + length digits, Code (digits_value 16 digits))
unfolding code_at
code_reads digits next some all small =
    let count : prefix_len is_hex_digit (digits ++ 125 ∷ next) ≡ length digits = prefix_len-whole is_hex_digit digits (125 ∷ next) all refl in
    let front : take (length digits) (digits ++ 125 ∷ next) ≡ digits = take_at digits (125 ∷ next) _ refl in
    let close : get_or (digits ++ 125 ∷ next) (length digits) 0 ≡ 125 = get_or_at digits 125 next 0 _ refl in
    let more : ltb 0 (length digits) ≡ true = lt-ltb _ _ some in
    let fits : ltb (digits_value 16 digits) (2 ^ 31) ≡ true = lt-ltb _ _ small in
    rw (append_assoc, count, front, close, more, fits) refl

pub complete : {escape next value : List ℕ} → IsEscape escape next value → Reads (escape ++ next) (length escape) value
unfolding hexadecimal_at
complete (rule.letter c byte next h) = (Byte byte, letter_reads c byte next h, refl)
complete (rule.line_end line next h) = (Byte 10, line_reads line next h, refl)
complete (rule.skip spaces next all none) = (Nothing, rw (prefix_len-whole is_whitespace spaces next all none) (ap (λ n. Some (n, Nothing)) (omega arith)), refl)
complete (rule.hexadecimal high low next h l) = (Byte (16 * digit_value high + digit_value low), rw (h, l) refl, refl)
complete (rule.decimal digits next some most all none small) = (Byte (digits_value 10 digits), decimal_reads digits next some most all none small, refl)
complete (rule.code digits next some all small) =
    let closed : length (digits ++ codes "}") ≡ length digits + 1 = length-append digits (125 ∷ []) in
    (Code (digits_value 16 digits), code_reads digits next some all small ∙ ap (λ n. Some (n, Code (digits_value 16 digits))) (omega arith), refl)

-- which way a test went
chosen : {A : Type 0} (b : Bool) (x y z : A) → cond b x y ≡ z → ((b ≡ true) × (x ≡ z)) ⊎ ((b ≡ false) × (y ≡ z))
chosen true x y z e = inl (refl, e)
chosen false x y z e = inr (refl, e)

-- what is read is an escape, within the text
abbrev pub IsRead : List ℕ → ℕ → Meaning → Type 0
IsRead text n m = (n ≤ length text) × IsEscape (take n text) (drop n text) (bytes_of m)

abbrev pub found : ℕ → Meaning → Option (ℕ × Meaning)
found n m = Some (n, m)

-- the meaning that a reading gave
same_read : (text : List ℕ) (n : ℕ) (m : Meaning) (k : ℕ) (w : Meaning) → IsRead text k w → found k w ≡ found n m → IsRead text n m
same_read text n m k w h e = let pairs : ◌≡◌ {A = ℕ × Meaning} (k, w) (n, m) = cc in subst (λ (p : ℕ × Meaning). IsRead text p.0 p.1) pairs h

-- a test that did not fail
passed : (b : Bool) (x y : ℕ × Meaning) → cond b (Some x) None ≡ Some y → (b ≡ true) × (Some x ≡ Some y)
passed true x y e = (refl, e)
passed false x y e = absurd cc

not_found : (p : ℕ × Meaning) → ◌≡◌ {A = Option (ℕ × Meaning)} None (Some p) → ⊥
not_found p e = absurd cc

both : (x y : Bool) → (x && y) ≡ true → (x ≡ true) × (y ≡ true)
both true true h = (refl, refl)
both true false h = absurd cc
both false y h = absurd cc

hexadecimal_sound : (text : List ℕ) (n : ℕ) (m : Meaning) → hexadecimal_at (120 ∷ text) ≡ Some (n, m) → IsRead (120 ∷ text) n m
unfolding hexadecimal_at
hexadecimal_sound [] n m e = absurd cc
hexadecimal_sound (high ∷ []) n m e = let p = passed _ _ _ e in let q = both _ _ p.0 in absurd (false≢true q.1)
hexadecimal_sound (high ∷ low ∷ text) n m e =
    let p = passed _ _ _ e in
    let digits = both _ _ p.0 in
    same_read (120 ∷ high ∷ low ∷ text) n m 3 (Byte (16 * digit_value high + digit_value low)) (omega arith, rule.hexadecimal high low text digits.0 digits.1) p.1

decimal_escape : (digits next : List ℕ) (value : ℕ) → digits_value 10 digits ≡ value → 1 ≤ length digits → length digits ≤ 3 → AllByRecursion (λ b. IsTrue (is_digit b)) digits → (length digits < 3 → NoneAtFront is_digit next) → value ≤ 255
    → IsEscape digits next (value ∷ [])
decimal_escape digits next value e some most all none small = subst (λ v. IsEscape digits next (v ∷ [])) e (rule.decimal digits next some most all none (omega arith))

two_small : (a b : ℕ) → is_digit a ≡ true → is_digit b ≡ true → 10 * (digit_value a) + (digit_value b) ≤ 99
two_small a b g h = let x : digit_value a ≤ 9 = grind (arith, nat_tests) in let y : digit_value b ≤ 9 = grind (arith, nat_tests) in omega arith

-- what two digits or three are read as
abbrev rest_of_decimal : ℕ → ℕ → List ℕ → Option (ℕ × Meaning)
rest_of_decimal a b text = let first = digit_value a in let second = digit_value b in let third = digit_value (slice_index text 0) in
    cond (is_digit (slice_index text 0))
    (cond (leb (100 * first + 10 * second + third) 255) (Some (3, Byte (100 * first + 10 * second + third))) None)
    (Some (2, Byte (10 * first + second)))

decimal_sound_two : (a b : ℕ) (text : List ℕ) (n : ℕ) (m : Meaning) → is_digit a ≡ true → is_digit b ≡ true → rest_of_decimal a b text ≡ Some (n, m) → IsRead (a ∷ b ∷ text) n m
decimal_sound_two a b [] n m g h e =
    let small = two_small a b g h in
    same_read (a ∷ b ∷ []) n m 2 (Byte (10 * (digit_value a) + (digit_value b))) (omega arith, decimal_escape (a ∷ b ∷ []) [] _ (omega arith) (omega arith) (omega arith) (g, (h, tt)) (λ _. tt) (omega arith)) e
decimal_sound_two a b (c ∷ text) n m g h e =
    elim (chosen (is_digit c) _ _ _ e) [
      | inl three ↦ let p = passed _ _ _ three.1 in
          same_read (a ∷ b ∷ c ∷ text) n m 3 (Byte (100 * (digit_value a) + 10 * (digit_value b) + (digit_value c))) (omega arith, decimal_escape (a ∷ b ∷ c ∷ []) text _ (omega arith) (omega arith) (omega arith) (g, (h, (three.0, tt))) (λ lt. absurd (omega arith)) (leb-true _ _ p.0)) p.1
      | inr two ↦ let small = two_small a b g h in
          same_read (a ∷ b ∷ c ∷ text) n m 2 (Byte (10 * (digit_value a) + (digit_value b))) (omega arith, decimal_escape (a ∷ b ∷ []) (c ∷ text) _ (omega arith) (omega arith) (omega arith) (g, (h, tt)) (λ _. two.0) (omega arith)) two.1
    ]

decimal_sound : (a : ℕ) (text : List ℕ) (n : ℕ) (m : Meaning) → is_digit a ≡ true → decimal_at (a ∷ text) ≡ Some (n, m) → IsRead (a ∷ text) n m
unfolding decimal_at
decimal_sound a [] n m h e =
    let small : digit_value a ≤ 9 = grind (arith, nat_tests) in
    same_read (a ∷ []) n m 1 (Byte (digit_value a)) (omega arith, decimal_escape (a ∷ []) [] (digit_value a) (omega arith) (omega arith) (omega arith) (h, tt) (λ _. tt) (omega arith)) e
decimal_sound a (b ∷ text) n m h e =
    elim (chosen (is_digit b) _ _ _ e) [
      | inl two ↦ decimal_sound_two a b text n m h two.0 two.1
      | inr one ↦ let small : digit_value a ≤ 9 = grind (arith, nat_tests) in
          same_read (a ∷ b ∷ text) n m 1 (Byte (digit_value a)) (omega arith, decimal_escape (a ∷ []) (b ∷ text) (digit_value a) (omega arith) (omega arith) (omega arith) (h, tt) (λ _. one.0) (omega arith)) one.1
    ]

code_sound : (text : List ℕ) (n : ℕ) (m : Meaning) → code_at (117 ∷ text) ≡ Some (n, m) → IsRead (117 ∷ text) n m
unfolding code_at
code_sound [] n m e = absurd cc
code_sound (b ∷ text) n m e =
    let count : ℕ = prefix_len is_hex_digit text in
    let number : ℕ = digits_value 16 (take count text) in
    let p = passed _ _ _ e in
    let brace : (eqb b 123 ≡ true) × ((ltb 0 count && (ltb number (2 ^ 31) && eqb (get_or text count 0) 125)) ≡ true) = both _ _ p.0 in
    let some : (ltb 0 count ≡ true) × ((ltb number (2 ^ 31) && eqb (get_or text count 0) 125) ≡ true) = both _ _ brace.1 in
    let fits : (ltb number (2 ^ 31) ≡ true) × (eqb (get_or text count 0) 125 ≡ true) = both _ _ some.1 in
    let is_brace : b ≡ 123 = eqb-true b 123 brace.0 in
    let at_close : get_or text count 0 ≡ 125 = eqb-true _ _ fits.1 in
    let inside : count < length text = elim (cases_lt count (length text)) [ inl lt ↦ lt | inr le ↦ absurd (omega (arith, get_or_past text count 0 le)) ] in
    let front : take (count + 1) text ≡ take count text ++ 125 ∷ [] = take_more text count 0 inside ∙ ap (λ x. take count text ++ x ∷ []) at_close in
    let long : length (take count text) ≡ count = length-take-le count text (omega arith) in
    let three : 3 + count ≡ suc (suc (count + 1)) = omega arith in
    let read : IsRead (117 ∷ 123 ∷ text) (3 + count) (Code number) = rw (three, front) (omega arith, rule.code (take count text) (drop (count + 1) text) (omega (arith, ltb-true _ _ some.0)) (all_leading is_hex_digit text) (ltb-true _ _ fits.0)) in
    same_read (117 ∷ b ∷ text) n m (3 + count) (Code number) (subst (λ x. IsRead (117 ∷ x ∷ text) (3 + count) (Code number)) (sym is_brace) read) p.1

letter_sound : (c : ℕ) (text : List ℕ) (n : ℕ) (m : Meaning) → letter_at (c ∷ text) ≡ Some (n, m) → IsRead (c ∷ text) n m
unfolding letter_at
letter_sound c text n m =
    elim (letter_value c) as (λ (o : Option ℕ). letter_value c ≡ o → option_map {U = ℕ × Meaning} (λ b. (1, Byte b)) o ≡ Some (n, m) → IsRead (c ∷ text) n m) [
      | None ↦ λ no e. absurd (not_found (n, m) e)
      | (Some b) ↦ λ yes e. same_read (c ∷ text) n m 1 (Byte b) (omega arith, rule.letter c b text yes) e
    ] refl

skip_sound : (text : List ℕ) → IsRead (122 ∷ text) (1 + prefix_len is_whitespace text) Nothing
skip_sound text =
    let e : 1 + prefix_len is_whitespace text ≡ suc (prefix_len is_whitespace text) = omega arith in
    rw e (omega (arith, prefix_len-le-length is_whitespace text), rule.skip (take (prefix_len is_whitespace text) text) (drop (prefix_len is_whitespace text) text) (all_leading is_whitespace text) (none_after is_whitespace text))

line_sound : (a : ℕ) (text : List ℕ) → is_line_byte a ≡ true → IsRead (a ∷ text) (line_end_length (a ∷ text)) (Byte 10)
line_sound a text h = let r = line_end-reads a text h in (r.0, rule.line_end _ _ r.1)

pub sound : (text : List ℕ) (n : ℕ) (m : Meaning) → escape_at text ≡ Some (n, m) → IsRead text n m
unfolding letter_at
sound [] n m e = absurd cc
sound (c ∷ text) n m e =
    elim (chosen (eqb c 120) _ _ _ e) [
      | inl x ↦ subst (λ a. IsRead (a ∷ text) n m) (sym (eqb-true c 120 x.0)) (hexadecimal_sound text n m (subst (λ a. hexadecimal_at (a ∷ text) ≡ Some (n, m)) (eqb-true c 120 x.0) x.1))
      | inr x ↦ elim (chosen (eqb c 122) _ _ _ x.1) [
        | inl z ↦ subst (λ a. IsRead (a ∷ text) n m) (sym (eqb-true c 122 z.0)) (same_read (122 ∷ text) n m _ _ (skip_sound text) z.1)
        | inr z ↦ elim (chosen (eqb c 117) _ _ _ z.1) [
          | inl u ↦ subst (λ a. IsRead (a ∷ text) n m) (sym (eqb-true c 117 u.0)) (code_sound text n m (subst (λ a. code_at (a ∷ text) ≡ Some (n, m)) (eqb-true c 117 u.0) u.1))
          | inr u ↦ elim (chosen (is_digit c) _ _ _ u.1) [
            | inl d ↦ decimal_sound c text n m d.0 d.1
            | inr d ↦ elim (chosen (is_line_byte c) _ _ _ d.1) [
              | inl l ↦ same_read (c ∷ text) n m _ _ (line_sound c text l.0) l.1
              | inr l ↦ letter_sound c text n m l.1
            ]
          ]
        ]
      ]
    ]

pub none_reads : (text : List ℕ) → escape_at text ≡ None → NoEscape text
none_reads text none escape next value e rules =
    let r = complete rules in
    absurd (not_found (length escape, r.0) (sym none ∙ ap escape_at e ∙ r.1))

-- The first piece of a text where neither a string, a comment nor a numeral begins.
use Rattle.std.proofs.Common.{◌≡◌, ℕ, ◌<◌, ◌≤◌, ◌⊎◌, Bool, true, false, cond, eqb, List, [], ◌∷◌, length, get_or, take, refl, sym, ap, ◌∙◌, subst, arith, inl, inr}
use Rattle.std.specs.List.{list_all, prefix_len}
use Rattle.std.proofs.lemmas.Bool.{or_left, or_cases, eqb-true, false≢true}
use Rattle.std.proofs.lemmas.Bool.Decides.{nat_tests}
use Rattle.std.proofs.lemmas.List.{length-take, length-take-le}
use Rattle.std.proofs.lemmas.List.Sums.{prefix_len-le-length}
use Rattle.luf_byte.specs.Class.{is_line_byte, is_letter, is_word_byte, is_blank, is_digit}
use Rattle.luf_str.specs.Bytes.{is_quote}
use Rattle.luf_byte.specs.Front.{begins}
use Rattle.luf_lex.specs.Word.{word_spelling}
use Rattle.luf_lex.specs.Sign.{sign_spelling, StartsWith}
use Rattle.luf_lex.specs.Spelling.{Spells}
use Rattle.luf_byte.specs.LineEnd.{IsLineEnd, is_line_pair, line_end_length}
use Rattle.luf_lex.specs.First.{IsFirst, HasNone, is_tried, group_of}
use Rattle.luf_lex.specs.declared.group.Group.TheVariants.{Other}
use Rattle.luf_lex.specs.declared.token.Word.{Word as Keyword}
use Rattle.luf_lex.specs.declared.token.Word.TheVariants.{And}
use Rattle.luf_lex.specs.declared.token.Sign.{Sign as Mark}
use Rattle.luf_lex.specs.declared.token.Sign.TheVariants.{Plus}
use Rattle.luf_lex.specs.declared.token.Tok.TheVariants.{Name, Word, Sign}
use Rattle.luf_lex.specs.declared.token.Kind.{Kind}
use Rattle.luf_lex.specs.declared.token.Kind.TheVariants.{Token, Blank, LineEnd}
use Rattle.luf_lex.proofs.RunLemmas.{passing_front, front_passes, begins_take, all_weaker, begins_weaker, begins_apart, run_some}

-- bytes of one class are not of another
pub blank_is_no_word : (b : ℕ) → is_blank b ≡ true → is_word_byte b ≡ true → ⊥
blank_is_no_word b h w = grind (arith, nat_tests)

pub letter_is_word : (b : ℕ) → is_letter b ≡ true → is_word_byte b ≡ true
letter_is_word b h = or_left _ _ h

pub letter_is_no_blank : (b : ℕ) → is_letter b ≡ true → is_blank b ≡ true → ⊥
letter_is_no_blank b l s = blank_is_no_word b s (letter_is_word b l)

pub letter_is_no_line : (b : ℕ) → is_letter b ≡ true → is_line_byte b ≡ true → ⊥
letter_is_no_line b h w = grind (arith, nat_tests)

pub blank_is_no_line : (b : ℕ) → is_blank b ≡ true → is_line_byte b ≡ true → ⊥
blank_is_no_line b h w = grind (arith, nat_tests)

pub word_letters : (w : Keyword) → list_all is_letter (word_spelling w) ≡ true
word_letters And = refl
word_letters _ = refl

pub word_begins : (w : Keyword) → begins is_letter (word_spelling w) ≡ true
word_begins And = refl
word_begins _ = refl

-- what no sign begins with
pub sign_no_word : (s : Mark) → begins is_word_byte (sign_spelling s) ≡ false
sign_no_word Plus = refl
sign_no_word _ = refl

pub sign_no_blank : (s : Mark) → begins is_blank (sign_spelling s) ≡ false
sign_no_blank Plus = refl
sign_no_blank _ = refl

pub sign_no_line : (s : Mark) → begins is_line_byte (sign_spelling s) ≡ false
sign_no_line Plus = refl
sign_no_line _ = refl

pub sign_apart : (p : ℕ → Bool) (s : Mark) (text : List ℕ) → begins p (sign_spelling s) ≡ false → sign_spelling s ≡ text → begins p text ≡ true → ⊥
sign_apart p s text apart e h = false≢true (sym apart ∙ ap (begins p) e ∙ h)

pub line_end_begins : (p : ℕ → Bool) (text : List ℕ) → p 10 ≡ false → p 13 ≡ false → IsLineEnd text → begins p text ≡ true → ⊥
line_end_begins p text lf cr (inl e) g = false≢true (sym lf ∙ subst (λ t. begins p t ≡ true) e g)
line_end_begins p text lf cr (inr (inl e)) g = false≢true (sym cr ∙ subst (λ t. begins p t ≡ true) e g)
line_end_begins p text lf cr (inr (inr (inl e))) g = false≢true (sym lf ∙ subst (λ t. begins p t ≡ true) e g)
line_end_begins p text lf cr (inr (inr (inr e))) g = false≢true (sym cr ∙ subst (λ t. begins p t ≡ true) e g)

pub line_end_is_line : (text : List ℕ) → IsLineEnd text → begins is_line_byte text ≡ true
line_end_is_line text (inl e) = subst (λ t. begins is_line_byte t ≡ true) (sym e) refl
line_end_is_line text (inr (inl e)) = subst (λ t. begins is_line_byte t ≡ true) (sym e) refl
line_end_is_line text (inr (inr (inl e))) = subst (λ t. begins is_line_byte t ≡ true) (sym e) refl
line_end_is_line text (inr (inr (inr e))) = subst (λ t. begins is_line_byte t ≡ true) (sym e) refl

pub keyword_letter : (text : List ℕ) (w : Keyword) → word_spelling w ≡ text → begins is_letter text ≡ true
keyword_letter text w e = subst (λ t. begins is_letter t ≡ true) e (word_begins w)

-- of the kinds that are tried, what is spelled with a letter first has letters and digits alone
pub word_spelled : (kind : Kind) (text : List ℕ) → is_tried Other kind ≡ true → Spells kind text → begins is_word_byte text ≡ true → list_all is_word_byte text ≡ true
word_spelled (Token Name) text tried h g = h.each
word_spelled (Token (Word w)) text tried h g = subst (λ t. list_all is_word_byte t ≡ true) h (all_weaker is_letter is_word_byte letter_is_word (word_spelling w) (word_letters w))
word_spelled (Token (Sign s)) text tried h g = absurd (sign_apart is_word_byte s text (sign_no_word s) h g)
word_spelled Blank text tried h g = absurd (begins_apart is_blank is_word_byte blank_is_no_word text h.first g)
word_spelled LineEnd text tried h g = absurd (line_end_begins is_word_byte text refl refl h g)
word_spelled _ text tried h g = absurd (false≢true tried)

-- with a blank first, blanks alone
blank_spelled : (kind : Kind) (text : List ℕ) → is_tried Other kind ≡ true → Spells kind text → begins is_blank text ≡ true → list_all is_blank text ≡ true
blank_spelled (Token Name) text tried h g = absurd (begins_apart is_letter is_blank letter_is_no_blank text h.first g)
blank_spelled (Token (Word w)) text tried h g = absurd (begins_apart is_letter is_blank letter_is_no_blank text (keyword_letter text w h) g)
blank_spelled (Token (Sign s)) text tried h g = absurd (sign_apart is_blank s text (sign_no_blank s) h g)
blank_spelled Blank text tried h g = h.each
blank_spelled LineEnd text tried h g = absurd (line_end_begins is_blank text refl refl h g)
blank_spelled _ text tried h g = absurd (false≢true tried)

-- with a byte of a line end first, a line end
line_spelled : (kind : Kind) (text : List ℕ) → is_tried Other kind ≡ true → Spells kind text → begins is_line_byte text ≡ true → IsLineEnd text
line_spelled (Token Name) text tried h g = absurd (begins_apart is_letter is_line_byte letter_is_no_line text h.first g)
line_spelled (Token (Word w)) text tried h g = absurd (begins_apart is_letter is_line_byte letter_is_no_line text (keyword_letter text w h) g)
line_spelled (Token (Sign s)) text tried h g = absurd (sign_apart is_line_byte s text (sign_no_line s) h g)
line_spelled Blank text tried h g = absurd (begins_apart is_blank is_line_byte blank_is_no_line text h.first g)
line_spelled LineEnd text tried h g = h
line_spelled _ text tried h g = absurd (false≢true tried)

-- with any other byte first, a sign
sign_spelled : (kind : Kind) (text : List ℕ) → is_tried Other kind ≡ true → Spells kind text → begins is_letter text ≡ false → begins is_blank text ≡ false → begins is_line_byte text ≡ false → (s : Mark) × (sign_spelling s ≡ text)
sign_spelled (Token Name) text tried h l b e = absurd (false≢true (sym l ∙ h.first))
sign_spelled (Token (Word w)) text tried h l b e = absurd (false≢true (sym l ∙ keyword_letter text w h))
sign_spelled (Token (Sign s)) text tried h l b e = (s, h)
sign_spelled Blank text tried h l b e = absurd (false≢true (sym b ∙ h.first))
sign_spelled LineEnd text tried h l b e = absurd (false≢true (sym e ∙ line_end_is_line text h))
sign_spelled _ text tried h l b e = absurd (false≢true tried)

-- what begins with a letter, a blank or a line end is of this group
front_group : (b : ℕ) (rest : List ℕ) → is_quote b ≡ false → eqb b 91 ≡ false → eqb b 45 ≡ false → is_digit b ≡ false → eqb b 46 ≡ false → group_of (b ∷ rest) ≡ Other
front_group b rest quote bracket dash digit point = rw (quote, bracket, dash, digit, point) refl

pub letter_group : (text : List ℕ) → begins is_letter text ≡ true → group_of text ≡ Other
letter_group [] h = absurd (false≢true h)
letter_group (b ∷ rest) h = front_group b rest (grind (arith, nat_tests)) (grind (arith, nat_tests)) (grind (arith, nat_tests)) (grind (arith, nat_tests)) (grind (arith, nat_tests))

pub blank_group : (text : List ℕ) → begins is_blank text ≡ true → group_of text ≡ Other
blank_group [] h = absurd (false≢true h)
blank_group (b ∷ rest) h = front_group b rest (grind (arith, nat_tests)) (grind (arith, nat_tests)) (grind (arith, nat_tests)) (grind (arith, nat_tests)) (grind (arith, nat_tests))

pub line_group : (text : List ℕ) → begins is_line_byte text ≡ true → group_of text ≡ Other
line_group [] h = absurd (false≢true h)
line_group (b ∷ rest) h = front_group b rest (grind (arith, nat_tests)) (grind (arith, nat_tests)) (grind (arith, nat_tests)) (grind (arith, nat_tests)) (grind (arith, nat_tests))

-- a first piece of this group
pub plain_first : (text : List ℕ) (kind : Kind) (n : ℕ) → group_of text ≡ Other → is_tried Other kind ≡ true → 0 < n → n ≤ length text → Spells kind (take n text)
    → ((other : Kind) (m : ℕ) → is_tried Other other ≡ true → n < m → m ≤ length text → Spells other (take m text) → ⊥) → IsFirst text kind n
plain_first text kind n group tried some within spelled longest = record {
  some = some;
  within = within;
  tried = ap (λ g. is_tried g kind) group ∙ tried;
  spelled = spelled;
  longest = λ _ other m t. longest other m (ap (λ g. is_tried g other) (sym group) ∙ t);
  numeral = λ numeric. cc;
  long = λ commented. cc;
}

-- a run of bytes of one class is the first piece, where what is spelled with such a byte first has no others
pub run_first : (p : ℕ → Bool) → ((other : Kind) (t : List ℕ) → is_tried Other other ≡ true → Spells other t → begins p t ≡ true → list_all p t ≡ true) → (text : List ℕ) (kind : Kind) (n : ℕ)
    → group_of text ≡ Other → is_tried Other kind ≡ true → begins p text ≡ true → n ≡ prefix_len p text → Spells kind (take n text) → IsFirst text kind n
run_first p closed text kind n group tried first run spelled =
    plain_first text kind n group tried (omega (arith, run_some p text first)) (omega (arith, prefix_len-le-length p text)) spelled
    (λ other m t more within s.
    let each : list_all p (take m text) ≡ true = closed other (take m text) t s (begins_take p text m (omega arith) ∙ first) in
    omega (arith, passing_front p text m within each))

letter_begins_word : (text : List ℕ) → begins is_letter text ≡ true → begins is_word_byte text ≡ true
letter_begins_word text h = begins_weaker is_letter is_word_byte letter_is_word text h

pub keyword_first : (text : List ℕ) (n : ℕ) (w : Keyword) → group_of text ≡ Other → begins is_letter text ≡ true → n ≡ prefix_len is_word_byte text → word_spelling w ≡ take n text → IsFirst text (Token (Word w)) n
keyword_first text n w group first run is = run_first is_word_byte word_spelled text (Token (Word w)) n group refl (letter_begins_word text first) run is

pub name_first : (text : List ℕ) (n : ℕ) → group_of text ≡ Other → begins is_letter text ≡ true → n ≡ prefix_len is_word_byte text → ((w : Keyword) → word_spelling w ≡ take n text → ⊥) → IsFirst text (Token Name) n
name_first text n group first run none =
    let word = letter_begins_word text first in
    run_first is_word_byte word_spelled text (Token Name) n group refl word run (record {
      first = begins_take is_letter text n (omega (arith, run, run_some is_word_byte text word)) ∙ first;
      each = subst (λ i. list_all is_word_byte (take i text) ≡ true) (sym run) (front_passes is_word_byte text);
      no_keyword = none;
    })

pub blank_first : (text : List ℕ) (n : ℕ) → group_of text ≡ Other → begins is_blank text ≡ true → n ≡ prefix_len is_blank text → IsFirst text Blank n
blank_first text n group first run =
    run_first is_blank blank_spelled text Blank n group refl first run (record {
      first = begins_take is_blank text n (omega (arith, run, run_some is_blank text first)) ∙ first;
      each = subst (λ i. list_all is_blank (take i text) ≡ true) (sym run) (front_passes is_blank text);
    })

-- ---- line ends

line_end_size : (line : List ℕ) → IsLineEnd line → (0 < length line) × (length line ≤ 2)
line_end_size line (inl e) = (omega (arith, ap length e), omega (arith, ap length e))
line_end_size line (inr (inl e)) = (omega (arith, ap length e), omega (arith, ap length e))
line_end_size line (inr (inr (inl e))) = (omega (arith, ap length e), omega (arith, ap length e))
line_end_size line (inr (inr (inr e))) = (omega (arith, ap length e), omega (arith, ap length e))

lone_line_end : (b : ℕ) → is_line_byte b ≡ true → IsLineEnd (b ∷ [])
lone_line_end b h = elim (or_cases (eqb b 10) (eqb b 13) h) [
  | inl e ↦ inl (ap (λ x. x ∷ []) (eqb-true b 10 e))
  | inr e ↦ inr (inl (ap (λ x. x ∷ []) (eqb-true b 13 e)))
]

pair_line_end : (a b : ℕ) → is_line_pair a b ≡ true → IsLineEnd (a ∷ b ∷ [])
pair_line_end a b h =
    let first : is_line_byte a ≡ true = grind (arith, nat_tests) in
    let second : is_line_byte b ≡ true = grind (arith, nat_tests) in
    by_bytes (or_cases (eqb a 10) (eqb a 13) first) (or_cases (eqb b 10) (eqb b 13) second)
  where
    by_bytes : (eqb a 10 ≡ true) ⊎ (eqb a 13 ≡ true) → (eqb b 10 ≡ true) ⊎ (eqb b 13 ≡ true) → IsLineEnd (a ∷ b ∷ [])
    by_bytes (inl x) (inl y) = absurd (grind (arith, nat_tests))
    by_bytes (inl x) (inr y) = inr (inr (inl (ap (λ c. c ∷ b ∷ []) (eqb-true a 10 x) ∙ ap (λ c. 10 ∷ c ∷ []) (eqb-true b 13 y))))
    by_bytes (inr x) (inl y) = inr (inr (inr (ap (λ c. c ∷ b ∷ []) (eqb-true a 13 x) ∙ ap (λ c. 13 ∷ c ∷ []) (eqb-true b 10 y))))
    by_bytes (inr x) (inr y) = absurd (grind (arith, nat_tests))

line_end_pair : (a b : ℕ) → IsLineEnd (a ∷ b ∷ []) → is_line_pair a b ≡ true
line_end_pair a b (inl e) = absurd (omega (arith, ap length e))
line_end_pair a b (inr (inl e)) = absurd (omega (arith, ap length e))
line_end_pair a b (inr (inr (inl e))) = ap (λ t. is_line_pair (get_or t 0 0) (get_or t 1 0)) e
line_end_pair a b (inr (inr (inr e))) = ap (λ t. is_line_pair (get_or t 0 0) (get_or t 1 0)) e

-- the first n bytes are a line end, and no longer front is one
record IsLongestLineEnd (text : List ℕ) (n : ℕ) : Type 0 where
  pub within : n ≤ length text
  pub spelled : IsLineEnd (take n text)
  pub longest : (m : ℕ) → n < m → m ≤ length text → IsLineEnd (take m text) → ⊥

line_size : (line pair : Bool) → line ≡ true → ◌≡◌ {A = ℕ} (cond line (cond pair 2 1) 0) (cond pair 2 1)
line_size true pair h = refl
line_size false pair h = absurd (false≢true h)

longest_line_end : (text : List ℕ) → begins is_line_byte text ≡ true → IsLongestLineEnd text (line_end_length text)
longest_line_end [] h = absurd (false≢true h)
longest_line_end (b ∷ []) h =
    let size : line_end_length (b ∷ []) ≡ 1 = rw h refl in
    subst (IsLongestLineEnd (b ∷ [])) (sym size) (record { within = omega arith; spelled = lone_line_end b h; longest = λ m more within line. omega arith })
longest_line_end (b ∷ c ∷ rest) h = by_pair (is_line_pair b c) refl
  where
    at_most : (m : ℕ) → m ≤ length (b ∷ c ∷ rest) → IsLineEnd (take m (b ∷ c ∷ rest)) → m ≤ 2
    at_most m within line = omega (arith, (line_end_size (take m (b ∷ c ∷ rest)) line).1, length-take-le m (b ∷ c ∷ rest) within)

    by_pair : (v : Bool) → is_line_pair b c ≡ v → IsLongestLineEnd (b ∷ c ∷ rest) (line_end_length (b ∷ c ∷ rest))
    by_pair true pair =
        let size : line_end_length (b ∷ c ∷ rest) ≡ 2 = line_size (is_line_byte b) (is_line_pair b c) h ∙ ap (λ v. cond v 2 1) pair in
        subst (IsLongestLineEnd (b ∷ c ∷ rest)) (sym size) (record { within = omega arith; spelled = pair_line_end b c pair; longest = λ m more within line. omega (arith, at_most m within line) })
    by_pair false lone =
        let size : line_end_length (b ∷ c ∷ rest) ≡ 1 = line_size (is_line_byte b) (is_line_pair b c) h ∙ ap (λ v. cond v 2 1) lone in
        subst (IsLongestLineEnd (b ∷ c ∷ rest)) (sym size) (record {
          within = omega arith;
          spelled = lone_line_end b h;
          longest = λ m more within line.
              let two : m ≡ 2 = omega (arith, at_most m within line) in
              false≢true (sym lone ∙ line_end_pair b c (subst (λ i. IsLineEnd (take i (b ∷ c ∷ rest))) two line));
        })

pub line_end_first : (text : List ℕ) (n : ℕ) → group_of text ≡ Other → begins is_line_byte text ≡ true → n ≡ line_end_length text → IsFirst text LineEnd n
line_end_first text n group first is =
    let found : IsLongestLineEnd text n = subst (IsLongestLineEnd text) (sym is) (longest_line_end text first) in
    plain_first text LineEnd n group refl (omega (arith, (line_end_size (take n text) found.spelled).0, length-take n text)) found.within found.spelled
    (λ other m t more inside s. found.longest m more inside (line_spelled other (take m text) t s (begins_take is_line_byte text m (omega arith) ∙ first)))

-- ---- signs

pub sign_some : (s : Mark) → 0 < length (sign_spelling s)
sign_some Plus = omega arith
sign_some _ = omega arith

pub sign_first : (text : List ℕ) (s : Mark) (n : ℕ) → group_of text ≡ Other → begins is_letter text ≡ false → begins is_blank text ≡ false → begins is_line_byte text ≡ false
    → length (sign_spelling s) ≡ n → StartsWith text (sign_spelling s) → ((other : Mark) → n < length (sign_spelling other) → StartsWith text (sign_spelling other) → ⊥) → IsFirst text (Token (Sign s)) n
sign_first text s n group letter blank line len is longest =
    plain_first text (Token (Sign s)) n group refl (omega (arith, sign_some s)) (omega (arith, ap length is, length-take (length (sign_spelling s)) text))
    (sym is ∙ ap (λ i. take i text) len)
    (λ other m t more inside h.
    let some : 0 < m = omega arith in
    let found = sign_spelled other (take m text) t h (begins_take is_letter text m some ∙ letter) (begins_take is_blank text m some ∙ blank) (begins_take is_line_byte text m some ∙ line) in
    let size : length (sign_spelling found.0) ≡ m = ap length found.1 ∙ length-take-le m text inside in
    longest found.0 (omega arith) (ap (λ i. take i text) size ∙ sym found.1))

-- where no sign begins the text either, it has no first piece
pub none_first : (text : List ℕ) → group_of text ≡ Other → begins is_letter text ≡ false → begins is_blank text ≡ false → begins is_line_byte text ≡ false → ((s : Mark) → StartsWith text (sign_spelling s) → ⊥) → HasNone text
none_first text group letter blank line none kind n h =
    let found = sign_spelled kind (take n text) (ap (λ g. is_tried g kind) (sym group) ∙ h.tried) h.spelled (begins_take is_letter text n h.some ∙ letter) (begins_take is_blank text n h.some ∙ blank) (begins_take is_line_byte text n h.some ∙ line) in
    let size : length (sign_spelling found.0) ≡ n = ap length found.1 ∙ length-take-le n text h.within in
    none found.0 (ap (λ i. take i text) size ∙ sym found.1)

-- Numerals before what is no letter, no digit and no point.
use Rattle.std.proofs.Common.{◌≡◌, ℕ, ◌+◌, ◌<◌, ◌⊎◌, inl, inr, Bool, true, false, not, cond, eqb, ◌&&◌, ◌||◌, List, [], ◌∷◌, ◌++◌, length, length-append, append_assoc, append-nil, drop, refl, sym, ap, ◌∙◌, subst, arith, codes}
use Rattle.std.specs.List.{list_all}
use Rattle.std.proofs.Math.Seq.{take-append_seam}
use Rattle.std.proofs.lemmas.Bool.{and_left, and_right, and_parts, or_left, or_right, or_parts, or_from, or_cases, eqb-true, cond-true, cond-false, false_from_ne_true, false≢true}
use Rattle.std.proofs.lemmas.Bool.Decides.{nat_tests}
use Rattle.luf_byte.specs.Class.{is_digit, is_hex_digit, is_letter, is_word_byte}
use Rattle.luf_num.specs.Numeral.{IsDigits, is_decimal_mark, is_binary_mark, IsExponent, HasFloatForm, IsDecimal, IsHexRest, IsHexPrefix, HasNumeralForm}
use Rattle.luf_num.specs.declared.Number.{Number}
use Rattle.luf_num.specs.declared.Number.TheVariants.{Int, Float}
use Rattle.luf_num.proofs.Forms.{is_no_x, no_x_in_decimal, list_all_parts}
use Rattle.luf_str.specs.Bytes.{is_quote}
use Rattle.luf_byte.specs.Front.{begins}
use Rattle.luf_lex.specs.First.{IsFirst, group_of, begins_numeral, begins_hexadecimal, numeral_tail, numeral_length}
use Rattle.luf_lex.specs.declared.group.Group.TheVariants.{Numeric}
use Rattle.luf_lex.specs.declared.token.Tok.TheVariants.{Number as NumberTok}
use Rattle.luf_lex.specs.declared.token.Kind.{Kind}
use Rattle.luf_lex.specs.declared.token.Kind.TheVariants.{Token}
use Rattle.luf_lex.proofs.NumeralLemmas.{numeral_first}
use Rattle.luf_guard.specs.inner.Joins.{goes_word}
use Rattle.luf_guard.proofs.Words.{group_is}

-- ---- where the scan goes on

-- a mark of an exponent is a letter
abbrev AreLetters : (ℕ → Bool) → Type 0
AreLetters mark = (b : ℕ) → mark b ≡ true → is_letter b ≡ true

decimal_letters : AreLetters is_decimal_mark
decimal_letters b h = grind (arith, nat_tests)

binary_letters : AreLetters is_binary_mark
binary_letters b h = grind (arith, nat_tests)

no_mark : (mark : ℕ → Bool) → AreLetters mark → (b : ℕ) → goes_word b ≡ false → mark b ≡ false
no_mark mark letters b stop = false_from_ne_true _ (λ h. false≢true (sym stop ∙ or_left _ _ (or_left _ _ (letters b h))))

hex_is_word : (b : ℕ) → is_hex_digit b ≡ true → is_word_byte b ≡ true
hex_is_word b h = grind (arith, nat_tests)

no_hex_digit : (b : ℕ) → goes_word b ≡ false → is_hex_digit b ≡ false
no_hex_digit b stop = false_from_ne_true _ (λ h. false≢true (sym stop ∙ or_left _ _ (hex_is_word b h)))

no_letter : (b : ℕ) → goes_word b ≡ false → is_letter b ≡ false
no_letter b stop = (or_parts (is_letter b) (is_digit b) (or_parts (is_word_byte b) (eqb b 46) stop).0).0

no_point : (b : ℕ) → goes_word b ≡ false → eqb b 46 ≡ false
no_point b stop = (or_parts (is_word_byte b) (eqb b 46) stop).1

-- nothing is taken of what is no letter, no digit and no point
pub tail_none : (mark : ℕ → Bool) → AreLetters mark → (x : List ℕ) → begins goes_word x ≡ false → numeral_tail mark x ≡ 0
tail_none mark letters [] stop = refl
tail_none mark letters (b ∷ []) stop = cond-false _ _ _ (or_from _ _ (no_hex_digit b stop) (or_from _ _ (no_point b stop) (no_letter b stop)))
tail_none mark letters (b ∷ c ∷ x) stop =
    cond-false _ _ _ (and_left _ _ (no_mark mark letters b stop))
    ∙ cond-false _ _ _ (or_from _ _ (no_mark mark letters b stop) (or_from _ _ (no_hex_digit b stop) (no_point b stop)))
    ∙ cond-false _ _ _ (no_letter b stop)

-- something is taken of what begins with one
some_one : (h d l : Bool) → (h || (d || l)) ≡ true → 0 < cond {A = ℕ} (h || (d || l)) 1 0
some_one h d l e = let is : cond {A = ℕ} (h || (d || l)) 1 0 ≡ 1 = cond-true _ _ _ e in omega (arith, is)

some_two : (m s h d l : Bool) (v w : ℕ) → (h || (d || l)) ≡ true → 0 < cond (m && s) (2 + v) (cond (m || (h || d)) (1 + w) (cond l 1 0))
some_two true true h d l v w e = omega arith
some_two true false h d l v w e = omega arith
some_two false s true d l v w e = omega arith
some_two false s false true l v w e = omega arith
some_two false s false false true v w e = omega arith
some_two false s false false false v w e = absurd (false≢true e)

word_parts : (b : ℕ) → goes_word b ≡ true → (is_hex_digit b || (eqb b 46 || is_letter b)) ≡ true
word_parts b h = grind (arith, nat_tests)

pub tail_some : (mark : ℕ → Bool) (x : List ℕ) → begins goes_word x ≡ true → 0 < numeral_tail mark x
tail_some mark [] h = absurd (false≢true h)
tail_some mark (b ∷ []) h = some_one (is_hex_digit b) (eqb b 46) (is_letter b) (word_parts b h)
tail_some mark (b ∷ c ∷ x) h = some_two (mark b) (eqb c 43 || eqb c 45) (is_hex_digit b) (eqb b 46) (is_letter b) (numeral_tail mark x) (numeral_tail mark (c ∷ x)) (word_parts b h)

-- ---- the scan of a numeral

-- a digit or a point, and no mark
abbrev IsPlain : (ℕ → Bool) → ℕ → Type 0
IsPlain mark b = (mark b ≡ false) × ((is_hex_digit b || eqb b 46) ≡ true)

plain_step : (mark : ℕ → Bool) (b : ℕ) (x : List ℕ) → IsPlain mark b → numeral_tail mark (b ∷ x) ≡ 1 + numeral_tail mark x
plain_step mark b [] plain = by_cases (or_cases (is_hex_digit b) (eqb b 46) plain.1)
  where
    by_cases : (is_hex_digit b ≡ true) ⊎ (eqb b 46 ≡ true) → cond {A = ℕ} (is_hex_digit b || (eqb b 46 || is_letter b)) 1 0 ≡ 1
    by_cases (inl h) = cond-true _ _ _ (or_left _ _ h)
    by_cases (inr h) = cond-true _ _ _ (or_right (is_hex_digit b) _ (or_left _ _ h))
plain_step mark b (c ∷ x) plain = cond-false (mark b && _) _ _ (and_left _ _ plain.0) ∙ cond-true (mark b || (is_hex_digit b || eqb b 46)) _ _ (or_right (mark b) _ plain.1)

plain_tail : (mark : ℕ → Bool) (digit : ℕ → Bool) → ((b : ℕ) → digit b ≡ true → IsPlain mark b) → (a x : List ℕ) → list_all digit a ≡ true → numeral_tail mark (a ++ x) ≡ length a + numeral_tail mark x
plain_tail mark digit plain [] x each = omega arith
plain_tail mark digit plain (b ∷ a) x each =
    let parts = and_parts (digit b) (list_all digit a) each in
    omega (arith, plain_step mark b (a ++ x) (plain b parts.0), plain_tail mark digit plain a x parts.1)

-- what the scan needs of a base
record IsBase (digit mark : ℕ → Bool) : Type 0 where
  plain : (b : ℕ) → digit b ≡ true → IsPlain mark b
  decimal : (b : ℕ) → is_digit b ≡ true → IsPlain mark b
  point : IsPlain mark 46

digit_is_hex : (b : ℕ) → is_digit b ≡ true → is_hex_digit b ≡ true
digit_is_hex b h = or_left _ _ (or_left _ _ h)

decimal_base : IsBase is_digit is_decimal_mark
decimal_base = record {
  plain = λ b h. decimal_plain b h;
  decimal = λ b h. decimal_plain b h;
  point = (refl, refl);
}
  where
    decimal_plain : (b : ℕ) → is_digit b ≡ true → IsPlain is_decimal_mark b
    decimal_plain b h = (grind (arith, nat_tests), or_left _ _ (digit_is_hex b h))

hexadecimal_base : IsBase is_hex_digit is_binary_mark
hexadecimal_base = record {
  plain = λ b h. hex_plain b h;
  decimal = λ b h. hex_plain b (digit_is_hex b h);
  point = (refl, refl);
}
  where
    hex_plain : (b : ℕ) → is_hex_digit b ≡ true → IsPlain is_binary_mark b
    hex_plain b h = (grind (arith, nat_tests), or_left _ _ h)

-- an exponent: its mark is taken with the sign behind it, and digits follow
pair_step : (m s g l : Bool) (v w : ℕ) → m ≡ true → s ≡ true → cond (m && s) (2 + v) (cond (m || g) (1 + w) (cond l 1 0)) ≡ 2 + v
pair_step true true g l v w em es = refl
pair_step false s g l v w em es = absurd (false≢true em)
pair_step true false g l v w em es = absurd (false≢true es)

lone_step : (m s g l : Bool) (v w : ℕ) → m ≡ true → s ≡ false → cond (m && s) (2 + v) (cond (m || g) (1 + w) (cond l 1 0)) ≡ 1 + w
lone_step true false g l v w em es = refl
lone_step false s g l v w em es = absurd (false≢true em)
lone_step true true g l v w em es = absurd (false≢true (sym es))

digit_no_sign : (b : ℕ) → is_digit b ≡ true → (eqb b 43 || eqb b 45) ≡ false
digit_no_sign b h = grind (arith, nat_tests)

module _ (digit mark : ℕ → Bool) (base : IsBase digit mark) where
  digits_tail : (a x : List ℕ) → list_all digit a ≡ true → numeral_tail mark (a ++ x) ≡ length a + numeral_tail mark x
  digits_tail a x each = plain_tail mark digit base.plain a x each

  decimals_tail : (a x : List ℕ) → list_all is_digit a ≡ true → numeral_tail mark (a ++ x) ≡ length a + numeral_tail mark x
  decimals_tail a x each = plain_tail mark is_digit base.decimal a x each

  signed_tail : (letter sign : ℕ) (digits x : List ℕ) → mark letter ≡ true → (eqb sign 43 || eqb sign 45) ≡ true → list_all is_digit digits ≡ true
      → numeral_tail mark (letter ∷ sign ∷ (digits ++ x)) ≡ 2 + length digits + numeral_tail mark x
  signed_tail letter sign digits x marked signed each =
      let step : numeral_tail mark (letter ∷ sign ∷ (digits ++ x)) ≡ 2 + numeral_tail mark (digits ++ x) =
      pair_step (mark letter) (eqb sign 43 || eqb sign 45) (is_hex_digit letter || eqb letter 46) (is_letter letter) (numeral_tail mark (digits ++ x)) (numeral_tail mark (sign ∷ (digits ++ x))) marked signed in
      omega (arith, step, decimals_tail digits x each)

  unsigned_tail : (letter : ℕ) (digits x : List ℕ) → mark letter ≡ true → list_all is_digit digits ≡ true → 0 < length digits → numeral_tail mark (letter ∷ (digits ++ x)) ≡ 1 + length digits + numeral_tail mark x
  unsigned_tail letter [] x marked each some = absurd (omega arith)
  unsigned_tail letter (d ∷ digits) x marked each some =
      let step : numeral_tail mark (letter ∷ d ∷ (digits ++ x)) ≡ 1 + numeral_tail mark (d ∷ (digits ++ x)) =
      lone_step (mark letter) (eqb d 43 || eqb d 45) (is_hex_digit letter || eqb letter 46) (is_letter letter) (numeral_tail mark (digits ++ x)) (numeral_tail mark (d ∷ (digits ++ x))) marked (digit_no_sign d (and_parts (is_digit d) (list_all is_digit digits) each).0) in
      omega (arith, step, decimals_tail (d ∷ digits) x each)

  exponent_tail : (s x : List ℕ) → IsExponent mark s → numeral_tail mark (s ++ x) ≡ length s + numeral_tail mark x
  exponent_tail s x e = subst (λ t. numeral_tail mark (t ++ x) ≡ length t + numeral_tail mark x) (sym e.spelled) (by_sign e.signed)
    where
      by_sign : (e.sign ≡ []) ⊎ (e.sign ≡ codes "+") ⊎ (e.sign ≡ codes "-") → numeral_tail mark ((e.letter ∷ (e.sign ++ e.digits)) ++ x) ≡ length (e.letter ∷ (e.sign ++ e.digits)) + numeral_tail mark x
      by_sign (inl none) = subst (λ (t : List ℕ). numeral_tail mark ((e.letter ∷ (t ++ e.digits)) ++ x) ≡ length (e.letter ∷ (t ++ e.digits)) + numeral_tail mark x) (sym none)
          (omega (arith, unsigned_tail e.letter e.digits x e.marked e.decimal.digits e.decimal.some))
      by_sign (inr (inl plus)) = subst (λ (t : List ℕ). numeral_tail mark ((e.letter ∷ (t ++ e.digits)) ++ x) ≡ length (e.letter ∷ (t ++ e.digits)) + numeral_tail mark x) (sym plus)
          (omega (arith, signed_tail e.letter 43 e.digits x e.marked refl e.decimal.digits))
      by_sign (inr (inr minus)) = subst (λ (t : List ℕ). numeral_tail mark ((e.letter ∷ (t ++ e.digits)) ++ x) ≡ length (e.letter ∷ (t ++ e.digits)) + numeral_tail mark x) (sym minus)
          (omega (arith, signed_tail e.letter 45 e.digits x e.marked refl e.decimal.digits))

  point_tail : (s x : List ℕ) → (s ≡ []) ⊎ (s ≡ codes ".") → numeral_tail mark (s ++ x) ≡ length s + numeral_tail mark x
  point_tail s x (inl none) = subst (λ (t : List ℕ). numeral_tail mark (t ++ x) ≡ length t + numeral_tail mark x) (sym none) (omega arith)
  point_tail s x (inr point) = subst (λ (t : List ℕ). numeral_tail mark (t ++ x) ≡ length t + numeral_tail mark x) (sym point) (plain_step mark 46 x base.point)

  scaled_tail : (s x : List ℕ) → (s ≡ []) ⊎ IsExponent mark s → numeral_tail mark (s ++ x) ≡ length s + numeral_tail mark x
  scaled_tail s x (inl none) = subst (λ (t : List ℕ). numeral_tail mark (t ++ x) ≡ length t + numeral_tail mark x) (sym none) (omega arith)
  scaled_tail s x (inr e) = exponent_tail s x e

  -- the scan goes over a numeral, and then over what follows
  float_tail : (s x : List ℕ) → HasFloatForm digit mark s → numeral_tail mark (s ++ x) ≡ length s + numeral_tail mark x
  float_tail s x form =
      let digits = list_all_parts digit form.whole form.fraction form.digits.digits in
      let fourth : numeral_tail mark (form.exponent ++ x) ≡ length form.exponent + numeral_tail mark x = scaled_tail form.exponent x form.scaled in
      let third : numeral_tail mark (form.fraction ++ (form.exponent ++ x)) ≡ length form.fraction + numeral_tail mark (form.exponent ++ x) = digits_tail form.fraction (form.exponent ++ x) digits.1 in
      let second : numeral_tail mark (form.point ++ (form.fraction ++ (form.exponent ++ x))) ≡ length form.point + numeral_tail mark (form.fraction ++ (form.exponent ++ x)) = point_tail form.point (form.fraction ++ (form.exponent ++ x)) form.pointed in
      let first : numeral_tail mark (form.whole ++ (form.point ++ (form.fraction ++ (form.exponent ++ x)))) ≡ length form.whole + numeral_tail mark (form.point ++ (form.fraction ++ (form.exponent ++ x))) = digits_tail form.whole (form.point ++ (form.fraction ++ (form.exponent ++ x))) digits.0 in
      let whole : s ++ x ≡ form.whole ++ (form.point ++ (form.fraction ++ (form.exponent ++ x))) = ap (λ t. t ++ x) form.spelled ∙ simp append_assoc in
      let size : length s ≡ length form.whole + (length form.point + (length form.fraction + length form.exponent)) =
      omega (arith, ap length form.spelled, length-append (form.whole ++ form.point ++ form.fraction) form.exponent, length-append (form.whole ++ form.point) form.fraction, length-append form.whole form.point) in
      ap (numeral_tail mark) whole ∙ omega (arith, first, second, third, fourth, size)

decimal_tail : (a x : List ℕ) (n : Number) → IsDecimal a n → numeral_tail is_decimal_mark (a ++ x) ≡ length a + numeral_tail is_decimal_mark x
decimal_tail a x (Int n) h = decimals_tail is_digit is_decimal_mark decimal_base a x h.digits.digits
decimal_tail a x Float (inl large) = decimals_tail is_digit is_decimal_mark decimal_base a x large.digits.digits
decimal_tail a x Float (inr form) = float_tail is_digit is_decimal_mark decimal_base a x form

hexadecimal_tail : (a x : List ℕ) (n : Number) → IsHexRest a n → numeral_tail is_binary_mark (a ++ x) ≡ length a + numeral_tail is_binary_mark x
hexadecimal_tail a x (Int n) h = digits_tail is_hex_digit is_binary_mark hexadecimal_base a x h.digits.digits
hexadecimal_tail a x Float h = float_tail is_hex_digit is_binary_mark hexadecimal_base a x h

-- ---- a numeral begins with a digit, or with a point and a digit

digits_front : (a x : List ℕ) → IsDigits is_digit a → begins is_digit (a ++ x) ≡ true
digits_front [] x h = absurd (let some = h.some in omega arith)
digits_front (b ∷ a) x h = (and_parts (is_digit b) (list_all is_digit a) h.digits).0

digit_front : (a : List ℕ) → begins is_digit a ≡ true → begins_numeral a ≡ true
digit_front a h = or_left _ _ h

float_front : (whole point fraction exponent : List ℕ) → (point ≡ []) ⊎ (point ≡ codes ".") → IsDigits is_digit (whole ++ fraction) → begins_numeral (whole ++ (point ++ (fraction ++ exponent))) ≡ true
float_front [] point fraction exponent (inl none) digits = subst (λ (p : List ℕ). begins_numeral (p ++ (fraction ++ exponent)) ≡ true) (sym none) (digit_front (fraction ++ exponent) (digits_front fraction exponent digits))
float_front [] point fraction exponent (inr dot) digits = subst (λ (p : List ℕ). begins_numeral (p ++ (fraction ++ exponent)) ≡ true) (sym dot) (digits_front fraction exponent digits)
float_front (b ∷ whole) point fraction exponent pointed digits = or_left _ _ (and_parts (is_digit b) (list_all is_digit (whole ++ fraction)) digits.digits).0

decimal_front : (a : List ℕ) (n : Number) → IsDecimal a n → begins_numeral a ≡ true
decimal_front a (Int n) h = digit_front a (ap (begins is_digit) (sym (append-nil a)) ∙ digits_front a [] h.digits)
decimal_front a Float (inl large) = digit_front a (ap (begins is_digit) (sym (append-nil a)) ∙ digits_front a [] large.digits)
decimal_front a Float (inr form) =
    let spelled : a ≡ form.whole ++ (form.point ++ (form.fraction ++ form.exponent)) = form.spelled ∙ simp append_assoc in
    ap begins_numeral spelled ∙ float_front form.whole form.point form.fraction form.exponent form.pointed form.digits

hex_front : (prefix rest : List ℕ) → IsHexPrefix prefix → begins_numeral (prefix ++ rest) ≡ true
hex_front prefix rest (inl small) = subst (λ (p : List ℕ). begins_numeral (p ++ rest) ≡ true) (sym small) refl
hex_front prefix rest (inr capital) = subst (λ (p : List ℕ). begins_numeral (p ++ rest) ≡ true) (sym capital) refl

pub form_front : (a : List ℕ) → HasNumeralForm a → begins_numeral a ≡ true
form_front a (n, inl h) = decimal_front a n h
form_front a (n, inr h) = ap begins_numeral h.spelled ∙ hex_front h.prefix h.rest h.prefixed

front_more : (a x : List ℕ) → begins_numeral a ≡ true → begins_numeral (a ++ x) ≡ true
front_more [] x h = absurd (false≢true h)
front_more (b ∷ []) x h = or_left _ _ (or_elim_right (is_digit b) (eqb b 46) h)
  where
    or_elim_right : (v w : Bool) → (v || (w && false)) ≡ true → v ≡ true
    or_elim_right true w e = refl
    or_elim_right false true e = e
    or_elim_right false false e = e
front_more (b ∷ c ∷ a) x h = h

digit_byte : (b : ℕ) → is_digit b ≡ true → (is_quote b ≡ false) × (eqb b 91 ≡ false) × (eqb b 45 ≡ false) × (eqb b 46 ≡ false)
digit_byte b h = (grind (arith, nat_tests), grind (arith, nat_tests), grind (arith, nat_tests), grind (arith, nat_tests))

-- there a numeral is tried
pub numeral_group : (text : List ℕ) → begins_numeral text ≡ true → group_of text ≡ Numeric
numeral_group [] h = absurd (false≢true h)
numeral_group (b ∷ text) h = by_cases (or_cases (is_digit b) _ h)
  where
    at_point : (b : ℕ) → b ≡ 46 → begins is_digit text ≡ true → group_of (b ∷ text) ≡ Numeric
    at_point b e digit = subst (λ c. group_of (c ∷ text) ≡ Numeric) (sym e) (cond-true _ _ _ digit)

    by_cases : (is_digit b ≡ true) ⊎ ((eqb b 46 && begins is_digit text) ≡ true) → group_of (b ∷ text) ≡ Numeric
    by_cases (inl digit) = let bytes = digit_byte b digit in group_is b text bytes.0 bytes.1 bytes.2 bytes.3 true digit
    by_cases (inr point) = let parts = and_parts (eqb b 46) _ point in at_point b (eqb-true b 46 parts.0) parts.1

-- ---- how long the scan is

first_plain : (b : ℕ) (a : List ℕ) → begins_numeral (b ∷ a) ≡ true → IsPlain is_decimal_mark b
first_plain b a h = by_cases (or_cases (is_digit b) _ h)
  where
    by_cases : (is_digit b ≡ true) ⊎ ((eqb b 46 && begins is_digit a) ≡ true) → IsPlain is_decimal_mark b
    by_cases (inl digit) = decimal_base.decimal b digit
    by_cases (inr point) = subst (IsPlain is_decimal_mark) (sym (eqb-true b 46 (and_parts (eqb b 46) _ point).0)) decimal_base.point

-- no `0x` begins a decimal numeral of more bytes than one
no_prefix : (b c : ℕ) (a x : List ℕ) → list_all is_no_x (b ∷ c ∷ a) ≡ true → begins_hexadecimal (b ∷ c ∷ (a ++ x)) ≡ false
no_prefix b c a x none =
    let first = and_parts (is_no_x b) (list_all is_no_x (c ∷ a)) none in
    let second = and_parts (is_no_x c) (list_all is_no_x a) first.1 in
    and_right (eqb b 48) _ (opposite (eqb c 120 || eqb c 88) second.0)
  where
    opposite : (v : Bool) → not v ≡ true → v ≡ false
    opposite true e = absurd (false≢true e)
    opposite false e = refl

decimal_length : (b : ℕ) (a x : List ℕ) (n : Number) → IsDecimal (b ∷ a) n → begins_hexadecimal (b ∷ (a ++ x)) ≡ false → numeral_length (b ∷ (a ++ x)) ≡ 1 + length a + numeral_tail is_decimal_mark x
decimal_length b a x n h plain =
    let scan : numeral_tail is_decimal_mark (b ∷ (a ++ x)) ≡ 1 + length a + numeral_tail is_decimal_mark x = omega (arith, decimal_tail (b ∷ a) x n h) in
    let step : numeral_tail is_decimal_mark (b ∷ (a ++ x)) ≡ 1 + numeral_tail is_decimal_mark (a ++ x) = plain_step is_decimal_mark b (a ++ x) (first_plain b a (decimal_front (b ∷ a) n h)) in
    let is : numeral_length (b ∷ (a ++ x)) ≡ 1 + numeral_tail is_decimal_mark (a ++ x) = cond-false (begins_hexadecimal (b ∷ (a ++ x))) _ _ plain in
    omega (arith, scan, step, is)

hex_length : (prefix rest x : List ℕ) (n : Number) → IsHexPrefix prefix → IsHexRest rest n → numeral_length ((prefix ++ rest) ++ x) ≡ length (prefix ++ rest) + numeral_tail is_binary_mark x
hex_length prefix rest x n (inl small) h = subst (λ (p : List ℕ). numeral_length ((p ++ rest) ++ x) ≡ length (p ++ rest) + numeral_tail is_binary_mark x) (sym small) (omega (arith, hexadecimal_tail rest x n h))
hex_length prefix rest x n (inr capital) h = subst (λ (p : List ℕ). numeral_length ((p ++ rest) ++ x) ≡ length (p ++ rest) + numeral_tail is_binary_mark x) (sym capital) (omega (arith, hexadecimal_tail rest x n h))

x_is_word : (c : ℕ) → (eqb c 120 || eqb c 88) ≡ true → goes_word c ≡ true
x_is_word c h = grind (arith, nat_tests)

-- a decimal numeral before what does not go on begins with no `0x`
no_prefix_before : (b : ℕ) (a x : List ℕ) → list_all is_no_x (b ∷ a) ≡ true → begins goes_word x ≡ false → begins_hexadecimal (b ∷ (a ++ x)) ≡ false
no_prefix_before b [] [] none stop = and_right (eqb b 48) _ refl
no_prefix_before b [] (c ∷ x) none stop = and_right (eqb b 48) _ (false_from_ne_true _ (λ ex. false≢true (sym stop ∙ x_is_word c ex)))
no_prefix_before b (c ∷ a) x none stop = no_prefix b c a x none

decimal_ends : (a x : List ℕ) (n : Number) → IsDecimal a n → begins goes_word x ≡ false → numeral_length (a ++ x) ≡ length a
decimal_ends [] x n h stop = absurd (false≢true (decimal_front [] n h))
decimal_ends (b ∷ a) x n h stop = omega (arith, decimal_length b a x n h (no_prefix_before b a x (no_x_in_decimal (b ∷ a) n h) stop), tail_none is_decimal_mark decimal_letters x stop)

-- before what does not go on, the scan ends with the numeral
pub form_ends : (a x : List ℕ) → HasNumeralForm a → begins goes_word x ≡ false → numeral_length (a ++ x) ≡ length a
form_ends a x (n, inl h) stop = decimal_ends a x n h stop
form_ends a x (n, inr h) stop = subst (λ (s : List ℕ). numeral_length (s ++ x) ≡ length s) (sym h.spelled) (omega (arith, hex_length h.prefix h.rest x n h.prefixed h.number, tail_none is_binary_mark binary_letters x stop))

decimal_goes_on : (a x : List ℕ) (n : Number) → IsDecimal a n → begins goes_word x ≡ true → length a < numeral_length (a ++ x)
decimal_goes_on [] x n h more = absurd (false≢true (decimal_front [] n h))
decimal_goes_on (b ∷ []) x n h more = by_prefix (begins_hexadecimal (b ∷ x)) refl
  where
    by_prefix : (v : Bool) → begins_hexadecimal (b ∷ x) ≡ v → 1 < numeral_length (b ∷ x)
    by_prefix true e = let is : numeral_length (b ∷ x) ≡ 2 + numeral_tail is_binary_mark (drop 2 (b ∷ x)) = cond-true (begins_hexadecimal (b ∷ x)) _ _ e in omega (arith, is)
    by_prefix false e = omega (arith, decimal_length b [] x n h e, tail_some is_decimal_mark x more)
decimal_goes_on (b ∷ c ∷ a) x n h more = omega (arith, decimal_length b (c ∷ a) x n h (no_prefix b c a x (no_x_in_decimal (b ∷ c ∷ a) n h)), tail_some is_decimal_mark x more)

-- before a letter, a digit or a point it goes on
pub form_goes_on : (a x : List ℕ) → HasNumeralForm a → begins goes_word x ≡ true → length a < numeral_length (a ++ x)
form_goes_on a x (n, inl h) more = decimal_goes_on a x n h more
form_goes_on a x (n, inr h) more = subst (λ (s : List ℕ). length s < numeral_length (s ++ x)) (sym h.spelled) (omega (arith, hex_length h.prefix h.rest x n h.prefixed h.number, tail_some is_binary_mark x more))

-- a numeral is the first piece of what begins with it and does not go on
pub numeral_before : (a x : List ℕ) → HasNumeralForm a → begins goes_word x ≡ false → IsFirst (a ++ x) (Token NumberTok) (length a)
numeral_before a x h stop =
    numeral_first (a ++ x) (length a) (numeral_group (a ++ x) (front_more a x (form_front a h))) (sym (form_ends a x h stop)) (omega (arith, length-append a x)) (subst HasNumeralForm (sym (take-append_seam a x)) h)

-- and of nothing that goes on
pub numeral_ends : (k : Kind) (a b : List ℕ) → HasNumeralForm a → begins goes_word b ≡ true → IsFirst (a ++ b) k (length a) → ⊥
numeral_ends k a b h more first =
    omega (arith, first.numeral (numeral_group (a ++ b) (front_more a b (form_front a h))), form_goes_on a b h more)

pub numeral_some : (a : List ℕ) → HasNumeralForm a → 0 < length a
numeral_some [] h = absurd (false≢true (form_front [] h))
numeral_some (b ∷ a) h = omega arith

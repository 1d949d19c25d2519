-- The forms of numerals shut each other out.
use Rattle.std.proofs.Common.{inl, inr, Option, None, Some, IsSome, IfSome, IfNone, ◌↔◌, ◌≡◌, ℕ, Bool, true, false, not, ◌||◌, ◌==◌, ◌⊎◌, List, [], ◌∷◌, ◌++◌, length, take, drop, take-append-drop, codes, refl, sym, ap, ◌∙◌, subst, arith, ⊎_elim}
use Rattle.std.specs.List.{list_all}
use Rattle.std.proofs.lemmas.Bool.{and_parts, and_from}
use Rattle.std.proofs.lemmas.List.Folds.{list_all-append}
use Rattle.std.proofs.lemmas.Bool.Decides.{nat_tests}
use Rattle.luf_byte.specs.Class.{is_digit, is_hex_digit}
use Rattle.luf_num.specs.Numeral.{IsHexPrefix, is_decimal_mark, is_binary_mark, IsOptionalSign, IsExponent, HasFloatForm, IsDecimal, IsHexRest, IsHexadecimal, IsNumber, HasNumeralForm}
use Rattle.luf_num.specs.declared.Number.{Number}
use Rattle.luf_num.specs.declared.Number.TheVariants.{Int, Float}

-- what passes one test passes a weaker one
pub list_all-weaker : (p q : ℕ → Bool) → ((x : ℕ) → p x ≡ true → q x ≡ true) → (xs : List ℕ) → list_all p xs ≡ true → list_all q xs ≡ true
list_all-weaker p q h [] all = refl
list_all-weaker p q h (x ∷ xs) all =
    let parts = and_parts (p x) (list_all p xs) all in
    and_from (q x) (list_all q xs) (h x parts.0) (list_all-weaker p q h xs parts.1)

-- all of two lists
pub list_all_both : (p : ℕ → Bool) → (xs ys : List ℕ) → list_all p xs ≡ true → list_all p ys ≡ true → list_all p (xs ++ ys) ≡ true
list_all_both p xs ys all_xs all_ys = rw list_all-append (and_from _ _ all_xs all_ys)

pub list_all_parts : (p : ℕ → Bool) → (xs ys : List ℕ) → list_all p (xs ++ ys) ≡ true → (list_all p xs ≡ true) × (list_all p ys ≡ true)
list_all_parts p xs ys all = and_parts (list_all p xs) (list_all p ys) (sym (list_all-append p xs ys) ∙ all)

-- a byte that is not the letter of the hexadecimal prefix
abbrev pub is_no_x : ℕ → Bool
is_no_x byte = not (byte == 120 || byte == 88)

no_x_from_digit : (x : ℕ) → is_digit x ≡ true → is_no_x x ≡ true
no_x_from_digit x h = grind (arith, nat_tests)

no_x_from_mark : (x : ℕ) → is_decimal_mark x ≡ true → is_no_x x ≡ true
no_x_from_mark x h = grind (arith, nat_tests)

-- a digit is no point and no mark
pub digit_no_mark : (x : ℕ) → is_decimal_mark x ≡ true → is_digit x ≡ false
digit_no_mark x h = grind (arith, nat_tests)

pub hex_digit_no_mark : (x : ℕ) → is_binary_mark x ≡ true → is_hex_digit x ≡ false
hex_digit_no_mark x h = grind (arith, nat_tests)

no_x_in_sign : (s : List ℕ) → IsOptionalSign s → list_all is_no_x s ≡ true
no_x_in_sign s h = ⊎_elim (λ e. rw e) (λ signed. ⊎_elim (λ e. rw e) (λ e. rw e) signed) h

no_x_in_point : (s : List ℕ) → (s ≡ []) ⊎ (s ≡ codes ".") → list_all is_no_x s ≡ true
no_x_in_point s h = ⊎_elim (λ e. rw e) (λ e. rw e) h

no_x_in_exponent : (s : List ℕ) → (s ≡ []) ⊎ IsExponent is_decimal_mark s → list_all is_no_x s ≡ true
no_x_in_exponent s h = ⊎_elim (λ e. rw e) (λ e.
    let digits = list_all-weaker is_digit is_no_x no_x_from_digit e.digits e.decimal.digits in
    let tail = list_all_both is_no_x e.sign e.digits (no_x_in_sign e.sign e.signed) digits in
    rw e.spelled (and_from (is_no_x e.letter) (list_all is_no_x (e.sign ++ e.digits)) (no_x_from_mark e.letter e.marked) tail)) h

-- no `x` stands in a decimal numeral
pub no_x_in_decimal : (s : List ℕ) (n : Number) → IsDecimal s n → list_all is_no_x s ≡ true
no_x_in_decimal s (Int n) h = list_all-weaker is_digit is_no_x no_x_from_digit s h.digits.digits
no_x_in_decimal s Float h = ⊎_elim
    (λ large. list_all-weaker is_digit is_no_x no_x_from_digit s large.digits.digits)
    (λ form.
    let digits = list_all_parts is_no_x form.whole form.fraction
    (list_all-weaker is_digit is_no_x no_x_from_digit (form.whole ++ form.fraction) form.digits.digits) in
    rw form.spelled (list_all_both is_no_x (form.whole ++ form.point ++ form.fraction) form.exponent
    (list_all_both is_no_x (form.whole ++ form.point) form.fraction (list_all_both is_no_x form.whole form.point digits.0 (no_x_in_point form.point form.pointed)) digits.1)
    (no_x_in_exponent form.exponent form.scaled))) h

-- one stands in a hexadecimal numeral
pub x_in_hexadecimal : (s prefix rest : List ℕ) → s ≡ prefix ++ rest → IsHexPrefix prefix → list_all is_no_x s ≡ true → ⊥
x_in_hexadecimal s prefix rest spelled prefixed none = ⊎_elim
    (λ e. let has_x : list_all is_no_x s ≡ false = rw spelled (rw e refl) in cc)
    (λ e. let has_x : list_all is_no_x s ≡ false = rw spelled (rw e refl) in cc) prefixed

-- what follows the prefix is determined
pub hex_rest : (s prefix rest : List ℕ) → s ≡ prefix ++ rest → IsHexPrefix prefix → drop 2 s ≡ rest
hex_rest s prefix rest spelled prefixed = ⊎_elim (λ e. rw spelled (rw e refl)) (λ e. rw spelled (rw e refl)) prefixed

no_point_in_digits : (digit : ℕ → Bool) → digit 46 ≡ false → (s : List ℕ) → list_all digit s ≡ true → (s ≡ []) ⊎ (s ≡ codes ".") → s ≡ []
no_point_in_digits digit no_point s all pointed = ⊎_elim (λ e. e)
    (λ e. let parts = and_parts (digit 46) true (rw e at all) in cc) pointed

no_exponent_in_digits : (digit mark : ℕ → Bool) → ((x : ℕ) → mark x ≡ true → digit x ≡ false) → (s : List ℕ) → list_all digit s ≡ true → (s ≡ []) ⊎ IsExponent mark s → s ≡ []
no_exponent_in_digits digit mark no_mark s all scaled = ⊎_elim (λ e. e)
    (λ e. let parts = and_parts (digit e.letter) (list_all digit (e.sign ++ e.digits)) (rw e.spelled at all) in
    let no = no_mark e.letter e.marked in cc) scaled

-- the prefix is the first two bytes
pub prefix_taken : (s prefix rest : List ℕ) → s ≡ prefix ++ rest → IsHexPrefix prefix → IsHexPrefix (take 2 s)
prefix_taken s prefix rest spelled prefixed = ⊎_elim
    (λ e. inl (rw spelled (rw e refl))) (λ e. inr (rw spelled (rw e refl))) prefixed

-- digits have no point and no exponent
pub no_float_in_digits : (digit mark : ℕ → Bool) → digit 46 ≡ false → ((x : ℕ) → mark x ≡ true → digit x ≡ false) → (s : List ℕ) → list_all digit s ≡ true → HasFloatForm digit mark s → ⊥
no_float_in_digits digit mark no_point no_mark s all form =
    let e = form.spelled in
    let front = list_all_parts digit (form.whole ++ form.point ++ form.fraction) form.exponent (rw e at all) in
    let mid = list_all_parts digit (form.whole ++ form.point) form.fraction front.0 in
    let point = list_all_parts digit form.whole form.point mid.0 in
    let point_none : form.point ≡ [] = no_point_in_digits digit no_point form.point point.1 form.pointed in
    let exponent_none : form.exponent ≡ [] = no_exponent_in_digits digit mark no_mark form.exponent front.1 form.scaled in
    let none : length (form.point ++ form.exponent) ≡ 0 = rw point_none (rw exponent_none refl) in
    omega (arith, form.not_integer)

pub decimal_once : (s : List ℕ) (m n : Number) → IsDecimal s m → IsDecimal s n → m ≡ n
decimal_once s (Int m) (Int n) hm hn = ap Int (hm.value ∙ sym hn.value)
decimal_once s (Int m) Float hm hn = ⊎_elim (λ large. absurd (omega (arith, hm.small, large.large)))
    (λ form. absurd (no_float_in_digits is_digit is_decimal_mark refl digit_no_mark s hm.digits.digits form)) hn
decimal_once s Float (Int n) hm hn = ⊎_elim (λ large. absurd (omega (arith, hn.small, large.large)))
    (λ form. absurd (no_float_in_digits is_digit is_decimal_mark refl digit_no_mark s hn.digits.digits form)) hm
decimal_once s Float Float hm hn = refl

pub hex_rest_once : (s : List ℕ) (m n : Number) → IsHexRest s m → IsHexRest s n → m ≡ n
hex_rest_once s (Int m) (Int n) hm hn = ap Int (hm.value ∙ sym hn.value)
hex_rest_once s (Int m) Float hm hn =
    absurd (no_float_in_digits is_hex_digit is_binary_mark refl hex_digit_no_mark s hm.digits.digits hn)
hex_rest_once s Float (Int n) hm hn =
    absurd (no_float_in_digits is_hex_digit is_binary_mark refl hex_digit_no_mark s hn.digits.digits hm)
hex_rest_once s Float Float hm hn = refl

-- no spelling is decimal and hexadecimal
pub decimal_excludes_hexadecimal : (s : List ℕ) (m n : Number) → IsDecimal s m → IsHexadecimal s n → ⊥
decimal_excludes_hexadecimal s m n hm hn = x_in_hexadecimal s hn.prefix hn.rest hn.spelled hn.prefixed (no_x_in_decimal s m hm)

pub number_once : (s : List ℕ) (m n : Number) → IsNumber s m → IsNumber s n → m ≡ n
number_once s m n hm hn = ⊎_elim
    (λ dm. ⊎_elim (λ dn. decimal_once s m n dm dn) (λ xn. absurd (decimal_excludes_hexadecimal s m n dm xn)) hn)
    (λ xm. ⊎_elim (λ dn. absurd (decimal_excludes_hexadecimal s n m dn xm))
    (λ xn. let same : xm.rest ≡ xn.rest = sym (hex_rest s xm.prefix xm.rest xm.spelled xm.prefixed) ∙ hex_rest s xn.prefix xn.rest xn.spelled xn.prefixed in
    hex_rest_once xn.rest m n (subst (λ rest. IsHexRest rest m) same xm.number) xn.number) hn) hm

-- where the prefix stands and what follows it is no numeral, the whole is none
pub none_behind_prefix : (s : List ℕ) → IsHexPrefix (take 2 s) → ((n : Number) → IsHexRest (drop 2 s) n → ⊥) → (n : Number) → IsNumber s n → ⊥
none_behind_prefix s prefixed none n h = ⊎_elim
    (λ dec. x_in_hexadecimal s (take 2 s) (drop 2 s) (sym (take-append-drop 2 s)) prefixed (no_x_in_decimal s n dec))
    (λ hex. none n (subst (λ rest. IsHexRest rest n) (sym (hex_rest s hex.prefix hex.rest hex.spelled hex.prefixed)) hex.number)) h

-- an answer for what follows the prefix answers for the whole
pub form_behind_prefix : (s : List ℕ) (o : Option Number) → IsHexPrefix (take 2 s) → IfSome o (λ n. IsHexRest (drop 2 s) n)
    → IfNone o ((n : Number) → IsHexRest (drop 2 s) n → ⊥) → IsSome o ↔ HasNumeralForm s
form_behind_prefix s None prefixed some none = (λ no. cc, λ form. absurd (none_behind_prefix s prefixed none form.0 form.1))
form_behind_prefix s (Some n) prefixed some none = (
  λ is_some. (n, inr (record { prefix = take 2 s; rest = drop 2 s; spelled = sym (take-append-drop 2 s); prefixed = prefixed; number = some })),
  λ form. refl,
)

-- an answer for a decimal numeral, where no prefix stands
pub form_without_prefix : (s : List ℕ) (o : Option Number) → (IsHexPrefix (take 2 s) → ⊥) → IfSome o (λ n. IsDecimal s n)
    → IfNone o ((n : Number) → IsDecimal s n → ⊥) → IsSome o ↔ HasNumeralForm s
form_without_prefix s None bare some none = (
  λ no. cc,
  λ form. ⊎_elim (λ dec. absurd (none form.0 dec))
      (λ hex. absurd (bare (prefix_taken s hex.prefix hex.rest hex.spelled hex.prefixed))) form.1,
)
form_without_prefix s (Some n) bare some none = (λ is_some. (n, inl some), λ form. refl)

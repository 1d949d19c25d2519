-- A spelling is cut into its parts in one way.
use Rattle.std.proofs.Common.{◌≡◌, ℕ, suc, ◌<◌, Bool, true, false, ◌==◌, ◌⊎◌, List, [], ◌∷◌, ◌++◌, length, take, drop, codes, refl, sym, ap, ◌∙◌, subst, arith, inl, inr, ⊎_elim, append_assoc, append-nil, take-append-drop}
use Rattle.std.specs.List.{list_all, prefix_len}
use Rattle.std.proofs.lemmas.Bool.{and_parts, and_from, both_ways, cases_Bool, or_cases, eqb-true}
use Rattle.std.proofs.lemmas.Bool.Decides.{nat_tests}
use Rattle.luf_byte.specs.Front.{NoneAtFront}
use Rattle.luf_num.specs.inner.Base.{is_digit_in, is_mark_in}
use Rattle.luf_num.specs.declared.form.Base.{Base}
use Rattle.luf_num.specs.declared.form.Base.TheVariants.{Decimal, Hexadecimal}
use Rattle.luf_byte.specs.Class.{is_digit}
use Rattle.luf_num.specs.Numeral.{IsDigits, IsOptionalSign, IsExponent, HasFloatForm, is_sign}
use Rattle.luf_num.proofs.Forms.{list_all_both, list_all_parts, digit_no_mark, hex_digit_no_mark}
use Rattle.luf_num.specs.inner.Parts.{SplitsWhile, SplitsFirst, is_point}

prefix_longer : (test : ℕ → Bool) (x : ℕ) (xs : List ℕ) → test x ≡ true → prefix_len test (x ∷ xs) ≡ suc (prefix_len test xs)
prefix_longer test x xs holds = rw holds (omega arith)

passes_to_prefix : (test : ℕ → Bool) (s : List ℕ) → list_all test (take (prefix_len test s) s) ≡ true
passes_to_prefix test [] = refl
passes_to_prefix test (x ∷ xs) = ⊎_elim
    (λ holds.
    let all : list_all test (x ∷ take (prefix_len test xs) xs) ≡ true = and_from (test x) _ holds (passes_to_prefix test xs) in
    subst (λ n. list_all test (take n (x ∷ xs)) ≡ true) (sym (prefix_longer test x xs holds)) all)
    (λ no. rw no refl) (cases_Bool (test x))

stops_at_prefix : (test : ℕ → Bool) (s : List ℕ) → NoneAtFront test (drop (prefix_len test s) s)
stops_at_prefix test [] = tt
stops_at_prefix test (x ∷ xs) = ⊎_elim
    (λ holds. subst (λ n. NoneAtFront test (drop n (x ∷ xs))) (sym (prefix_longer test x xs holds)) (stops_at_prefix test xs))
    (λ no. rw no no) (cases_Bool (test x))

-- the cut at `prefix_len`
pub splits_at_prefix : (test : ℕ → Bool) (s : List ℕ) → SplitsWhile test s (take (prefix_len test s) s) (drop (prefix_len test s) s)
splits_at_prefix test s = record {
  spelled = sym (take-append-drop (prefix_len test s) s);
  passes = passes_to_prefix test s;
  stops = stops_at_prefix test s;
}

-- there is one cut
pub one_split : (test : ℕ → Bool) (a b c d : List ℕ) → list_all test a ≡ true → NoneAtFront test b → list_all test c ≡ true → NoneAtFront test d → a ++ b ≡ c ++ d → (a ≡ c) × (b ≡ d)
one_split test [] b [] d all_a stop_b all_c stop_d e = (refl, e)
one_split test [] b (y ∷ c) d all_a stop_b all_c stop_d e =
    let no : test y ≡ false = subst (NoneAtFront test) e stop_b in
    let holds = and_parts (test y) (list_all test c) all_c in cc
one_split test (x ∷ a) b [] d all_a stop_b all_c stop_d e =
    let no : test x ≡ false = subst (NoneAtFront test) (sym e) stop_d in
    let holds = and_parts (test x) (list_all test a) all_a in cc
one_split test (x ∷ a) b (y ∷ c) d all_a stop_b all_c stop_d e =
    let head : x ≡ y = cc in
    let tail : a ++ b ≡ c ++ d = cc in
    let same = one_split test a b c d (and_parts (test x) (list_all test a) all_a).1 stop_b (and_parts (test y) (list_all test c) all_c).1 stop_d tail in
    (cc, same.1)

no_sign_first : (s : List ℕ) (x : ℕ) (t : List ℕ) → is_sign x ≡ true → NoneAtFront is_sign s → s ≡ x ∷ t → ⊥
no_sign_first s x t holds stops e = both_ways (is_sign x) (subst (NoneAtFront is_sign) e stops) holds

sign_no_digit : (x : ℕ) → is_sign x ≡ true → is_digit x ≡ true → ⊥
sign_no_digit x sign digit = grind (arith, nat_tests)

no_digit_first : (x : ℕ) (t digits : List ℕ) → is_sign x ≡ true → IsDigits is_digit digits → x ∷ t ≡ digits → ⊥
no_digit_first x t digits sign decimal e =
    let all : list_all is_digit (x ∷ t) ≡ true = subst (λ s. list_all is_digit s ≡ true) (sym e) decimal.digits in
    sign_no_digit x sign (and_parts (is_digit x) (list_all is_digit t) all).0

-- a sign and digits are cut as they are written
pub one_sign : (s sign digits front back : List ℕ) → s ≡ sign ++ digits → IsOptionalSign sign → IsDigits is_digit digits → SplitsFirst is_sign s front back → back ≡ digits
one_sign s sign digits [] back spelled signed decimal cut = ⊎_elim
    (λ none. sym cut.0 ∙ spelled ∙ ap (λ t. t ++ digits) none)
    (λ some. ⊎_elim
    (λ plus. absurd (no_sign_first back 43 digits refl cut.1 (sym cut.0 ∙ spelled ∙ ap (λ t. t ++ digits) plus)))
    (λ minus. absurd (no_sign_first back 45 digits refl cut.1 (sym cut.0 ∙ spelled ∙ ap (λ t. t ++ digits) minus))) some) signed
one_sign s sign digits (x ∷ xs) back spelled signed decimal cut = ⊎_elim
    (λ none. absurd (no_digit_first x back digits cut.2 decimal (sym cut.0 ∙ spelled ∙ ap (λ t. t ++ digits) none)))
    (λ some. ⊎_elim
    (λ plus. let e : x ∷ back ≡ 43 ∷ digits = sym cut.0 ∙ spelled ∙ ap (λ t. t ++ digits) plus in cc)
    (λ minus. let e : x ∷ back ≡ 45 ∷ digits = sym cut.0 ∙ spelled ∙ ap (λ t. t ++ digits) minus in cc) some) signed

-- a cut after a sign gives a sign
pub cut_sign : (s front back : List ℕ) → SplitsFirst is_sign s front back → IsOptionalSign front × (s ≡ front ++ back)
cut_sign s [] back cut = (inl refl, cut.0)
cut_sign s (x ∷ xs) back cut =
    let spelled : s ≡ (x ∷ xs) ++ back = rw cut.1 cut.0 in
    let signed : IsOptionalSign (x ∷ xs) = ⊎_elim
    (λ plus. let e : x ≡ 43 = eqb-true x 43 plus in inr (inl (rw (e, cut.1) refl)))
    (λ minus. let e : x ≡ 45 = eqb-true x 45 minus in inr (inr (rw (e, cut.1) refl)))
    (or_cases (x == 43) (x == 45) cut.2) in
    (signed, spelled)

-- what the cut of an exponent says
module _ (mark : ℕ → Bool) (bytes : List ℕ) (letter : ℕ) (scale front back : List ℕ) (first : bytes ≡ letter ∷ scale) (cut : SplitsFirst is_sign scale front back) where
  pub exponent_from_cut : mark letter ≡ true → IsDigits is_digit back → IsExponent mark bytes
  exponent_from_cut marked digits =
      let sign = cut_sign scale front back cut in
      record {
        letter = letter;
        sign = front;
        digits = back;
        spelled = first ∙ ap (λ s. letter ∷ s) sign.1;
        marked = marked;
        signed = sign.0;
        decimal = digits;
      }

  pub cut_from_exponent : IsExponent mark bytes → (mark letter ≡ true) × IsDigits is_digit back
  cut_from_exponent e =
      let same : letter ∷ scale ≡ e.letter ∷ (e.sign ++ e.digits) = sym first ∙ e.spelled in
      let head : letter ≡ e.letter = cc in
      let tail : scale ≡ e.sign ++ e.digits = cc in
      let back_is = one_sign scale e.sign e.digits front back tail e.signed e.decimal cut in
      (rw head e.marked, rw back_is e.decimal)

-- the parts of a spelling as they are cut from the left
pub record IsFloatSplit (digit : ℕ → Bool) (s whole point fraction exponent : List ℕ) : Type 0 where
  pub after_whole : List ℕ
  pub after_point : List ℕ
  pub first : SplitsWhile digit s whole after_whole
  pub second : SplitsFirst is_point after_whole point after_point
  pub third : SplitsWhile digit after_point fraction exponent

pub cut_point : (s front back : List ℕ) → SplitsFirst is_point s front back → ((front ≡ []) ⊎ (front ≡ codes ".")) × (s ≡ front ++ back)
cut_point s [] back cut = (inl refl, cut.0)
cut_point s (x ∷ xs) back cut =
    let e : x ≡ 46 = eqb-true x 46 cut.2 in (inr (rw (e, cut.1) refl), rw cut.1 cut.0)

pub float_from_cut : (digit mark : ℕ → Bool) (s whole point fraction exponent : List ℕ) → IsFloatSplit digit s whole point fraction exponent
    → 0 < length (whole ++ fraction) → 0 < length (point ++ exponent) → (exponent ≡ []) ⊎ IsExponent mark exponent → HasFloatForm digit mark s
float_from_cut digit mark s whole point fraction exponent cut some not_integer scaled =
    let second = cut_point cut.after_whole point cut.after_point cut.second in
    record {
      whole = whole;
      point = point;
      fraction = fraction;
      exponent = exponent;
      spelled = cut.first.spelled ∙ ap (λ t. whole ++ t) (second.1 ∙ ap (λ t. point ++ t) cut.third.spelled) ∙ simp append_assoc;
      pointed = second.0;
      digits = record { digits = list_all_both digit whole fraction cut.first.passes cut.third.passes; some = some };
      scaled = scaled;
      not_integer = not_integer;
    }

-- the exponent does not begin with a byte that is no mark
pub stops_at_exponent : (mark test : ℕ → Bool) → ((x : ℕ) → mark x ≡ true → test x ≡ false) → (s : List ℕ) → (s ≡ []) ⊎ IsExponent mark s → NoneAtFront test s
stops_at_exponent mark test no_mark s scaled = ⊎_elim (λ e. rw e tt) (λ e. rw e.spelled (no_mark e.letter e.marked)) scaled

-- what a cut gives of a spelling that has the form
pub record CutHasForm (mark : ℕ → Bool) (whole point fraction exponent : List ℕ) : Type 0 where
  pub some : 0 < length (whole ++ fraction)
  pub not_integer : 0 < length (point ++ exponent)
  pub scaled : (exponent ≡ []) ⊎ IsExponent mark exponent

no_point_cut : (s front back : List ℕ) → SplitsFirst is_point s front back → NoneAtFront is_point s → (front ≡ []) × (s ≡ back)
no_point_cut s [] back cut stops = (refl, cut.0)
no_point_cut s (x ∷ xs) back cut stops = absurd (both_ways (is_point x) (subst (NoneAtFront is_point) cut.0 stops) cut.2)

point_cut : (s front back t : List ℕ) → SplitsFirst is_point s front back → s ≡ 46 ∷ t → (front ≡ codes ".") × (back ≡ t)
point_cut s [] back t cut e =
    let no : is_point 46 ≡ false = subst (NoneAtFront is_point) (sym cut.0 ∙ e) cut.1 in cc
point_cut s (x ∷ xs) back t cut e =
    let same : x ∷ back ≡ 46 ∷ t = sym cut.0 ∙ e in
    let dot : x ≡ 46 = cc in
    (rw (dot, cut.1) refl, cc)

module _ (digit mark : ℕ → Bool) (s whole point fraction exponent : List ℕ)
    (no_point : digit 46 ≡ false) (no_mark : (x : ℕ) → mark x ≡ true → digit x ≡ false) (mark_no_point : (x : ℕ) → mark x ≡ true → is_point x ≡ false)
    (cut : IsFloatSplit digit s whole point fraction exponent) (form : HasFloatForm digit mark s) where
  exponent_stops : NoneAtFront digit form.exponent
  exponent_stops = stops_at_exponent mark digit no_mark form.exponent form.scaled

  without_point : form.point ≡ [] → CutHasForm mark whole point fraction exponent
  without_point none =
      let spelled : s ≡ (form.whole ++ form.fraction) ++ form.exponent =
      form.spelled ∙ ap (λ p. form.whole ++ p ++ form.fraction ++ form.exponent) none ∙ ap (λ t. t ++ form.fraction ++ form.exponent) (append-nil form.whole) in
      let first = one_split digit whole cut.after_whole (form.whole ++ form.fraction) form.exponent
      cut.first.passes cut.first.stops form.digits.digits exponent_stops (sym cut.first.spelled ∙ spelled) in
      let no_dot : NoneAtFront is_point cut.after_whole =
      subst (NoneAtFront is_point) (sym first.1) (stops_at_exponent mark is_point mark_no_point form.exponent form.scaled) in
      let second = no_point_cut cut.after_whole point cut.after_point cut.second no_dot in
      let third = one_split digit fraction exponent [] form.exponent cut.third.passes cut.third.stops refl exponent_stops
      (sym cut.third.spelled ∙ sym second.1 ∙ first.1) in
      record {
        some = rw (first.0, third.0) (rw append-nil form.digits.some);
        not_integer = rw (second.0, third.1) (subst (λ p. 0 < length (p ++ form.exponent)) none form.not_integer);
        scaled = rw third.1 form.scaled;
      }

  with_point : form.point ≡ codes "." → CutHasForm mark whole point fraction exponent
  with_point dot =
      let spelled : s ≡ form.whole ++ (46 ∷ (form.fraction ++ form.exponent)) =
      form.spelled ∙ ap (λ p. form.whole ++ p ++ form.fraction ++ form.exponent) dot ∙ append_assoc (form.whole ++ (46 ∷ [])) form.fraction form.exponent
      ∙ append_assoc form.whole (46 ∷ []) (form.fraction ++ form.exponent) in
      let digits = list_all_parts digit form.whole form.fraction form.digits.digits in
      let first = one_split digit whole cut.after_whole form.whole (46 ∷ (form.fraction ++ form.exponent))
      cut.first.passes cut.first.stops digits.0 no_point (sym cut.first.spelled ∙ spelled) in
      let second = point_cut cut.after_whole point cut.after_point (form.fraction ++ form.exponent) cut.second first.1 in
      let third = one_split digit fraction exponent form.fraction form.exponent cut.third.passes cut.third.stops digits.1 exponent_stops
      (sym cut.third.spelled ∙ second.1) in
      record {
        some = rw (first.0, third.0) form.digits.some;
        not_integer = rw (second.0, third.1) (subst (λ p. 0 < length (p ++ form.exponent)) dot form.not_integer);
        scaled = rw third.1 form.scaled;
      }

  pub cut_from_float : CutHasForm mark whole point fraction exponent
  cut_from_float = ⊎_elim without_point with_point form.pointed

-- the tests of a base
pub no_point_in : (base : Base) → is_digit_in base 46 ≡ false
no_point_in Decimal = refl
no_point_in Hexadecimal = refl

pub no_mark_in : (base : Base) (x : ℕ) → is_mark_in base x ≡ true → is_digit_in base x ≡ false
no_mark_in Decimal x marked = digit_no_mark x marked
no_mark_in Hexadecimal x marked = hex_digit_no_mark x marked

pub mark_no_point_in : (base : Base) (x : ℕ) → is_mark_in base x ≡ true → is_point x ≡ false
mark_no_point_in Decimal x marked = grind (arith, nat_tests)
mark_no_point_in Hexadecimal x marked = grind (arith, nat_tests)

-- a spelling that is cut at these places has the form where the parts do
module _ (base : Base) (s whole after_whole point after_point fraction exponent : List ℕ)
    (first : SplitsWhile (is_digit_in base) s whole after_whole) (second : SplitsFirst is_point after_whole point after_point)
    (third : SplitsWhile (is_digit_in base) after_point fraction exponent) where
  cut : IsFloatSplit (is_digit_in base) s whole point fraction exponent
  cut = record { after_whole = after_whole; after_point = after_point; first = first; second = second; third = third }

  pub form_from_parts : CutHasForm (is_mark_in base) whole point fraction exponent → HasFloatForm (is_digit_in base) (is_mark_in base) s
  form_from_parts parts =
      float_from_cut (is_digit_in base) (is_mark_in base) s whole point fraction exponent cut parts.some parts.not_integer parts.scaled

  pub parts_from_form : HasFloatForm (is_digit_in base) (is_mark_in base) s → CutHasForm (is_mark_in base) whole point fraction exponent
  parts_from_form form =
      cut_from_float (is_digit_in base) (is_mark_in base) s whole point fraction exponent (no_point_in base) (no_mark_in base) (mark_no_point_in base) cut form

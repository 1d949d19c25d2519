-- A float has one value: it is cut into its parts in one way.
use Rattle.std.proofs.Common.{Option, None, Some, IfSome, IfNone, MatchOption, inl, inr, ◌≡◌, ℕ, ◌+◌, ◌*◌, ◌^◌, ◌<◌, ◌≤◌, Bool, true, false, List, [], ◌∷◌, ◌++◌, length, take, drop, take-append-drop, codes, refl, sym, ap, ◌∙◌, subst, ⊎_elim, append_assoc, arith}
use Rattle.std.specs.List.{list_all}
use Rattle.std.proofs.lemmas.Bool.{and_parts}
use Rattle.luf_num.specs.inner.Base.{exponent_base_of, is_digit_in, is_mark_in, places_of, radix_of}
use Rattle.luf_byte.specs.Class.{is_digit, is_hex_digit}
use Rattle.std.specs.Str.Parse.{digits_value}
use Rattle.luf_num.specs.Float.{Scaled, IsDecimalScaled, IsFloat, IsHexScaled, IsInReach, IsScaled, IsWithin, IsScaledInteger, lowered, raised}
use Rattle.luf_num.specs.inner.FloatParts.{HasParts, value_of_parts}
use Rattle.luf_num.specs.Numeral.{IsDecimal, IsDigits, IsHexPrefix, HasFloatForm, is_binary_mark, is_decimal_mark}
use Rattle.luf_byte.specs.Front.{NoneAtFront}
use Rattle.luf_num.specs.inner.Parts.{SplitsFirst, is_point}
use Rattle.luf_num.specs.Word.{IsFloatWord, IsNearest, IsWord}
use Rattle.luf_num.specs.declared.Number.TheVariants.{Float}
use Rattle.luf_num.specs.declared.form.Base.{Base}
use Rattle.luf_num.specs.declared.form.Base.TheVariants.{Decimal, Hexadecimal}
use Rattle.luf_num.proofs.Forms.{digit_no_mark, hex_rest, list_all_both, list_all_parts, no_float_in_digits, no_x_in_decimal, prefix_taken, x_in_hexadecimal}
use Rattle.luf_num.proofs.Scanning.{IsFloatSplit, CutHasForm, one_split, cut_point, mark_no_point_in, no_mark_in, no_point_in, stops_at_exponent}

-- digits that do not come first are none
no_digits : (digit : ℕ → Bool) (front back : List ℕ) → NoneAtFront digit (front ++ back) → list_all digit front ≡ true → front ≡ []
no_digits digit [] back stops all = refl
no_digits digit (x ∷ front) back stops all =
    let passes = and_parts (digit x) (list_all digit front) all in cc

-- the parts as they are cut from the left are those of a numeral
module _ (digit mark : ℕ → Bool) (s whole point fraction exponent : List ℕ) (cut : IsFloatSplit digit s whole point fraction exponent) (has : CutHasForm mark whole point fraction exponent) where
  none_behind : point ≡ [] → fraction ≡ []
  none_behind none =
      let second : SplitsFirst is_point cut.after_whole [] cut.after_point = subst (λ p. SplitsFirst is_point cut.after_whole p cut.after_point) none cut.second in
      no_digits digit fraction exponent (subst (NoneAtFront digit) (second.0 ∙ cut.third.spelled) cut.first.stops) cut.third.passes

  pub parts_of_cut : HasParts digit mark s whole fraction exponent
  parts_of_cut =
      let second = cut_point cut.after_whole point cut.after_point cut.second in
      record {
        form = record {
          whole = whole;
          point = point;
          fraction = fraction;
          exponent = exponent;
          spelled = cut.first.spelled ∙ ap (λ t. whole ++ t) (second.1 ∙ ap (λ t. point ++ t) cut.third.spelled) ∙ simp append_assoc;
          pointed = second.0;
          digits = record { digits = list_all_both digit whole fraction cut.first.passes cut.third.passes; some = has.some };
          scaled = has.scaled;
          not_integer = has.not_integer;
        };
        whole_is = refl;
        fraction_is = refl;
        exponent_is = refl;
        behind_point = none_behind;
      }

-- two forms of a spelling, where only a point has digits behind it, have the same parts
module _ (digit mark : ℕ → Bool) (no_point : digit 46 ≡ false) (no_mark : (x : ℕ) → mark x ≡ true → digit x ≡ false)
    (mark_no_point : (x : ℕ) → mark x ≡ true → is_point x ≡ false) (s : List ℕ) where
  -- what stands behind the first digits
  abbrev behind : HasFloatForm digit mark s → List ℕ
  behind form = form.point ++ form.fraction ++ form.exponent

  spelled_behind : (form : HasFloatForm digit mark s) → s ≡ form.whole ++ behind form
  spelled_behind form = form.spelled ∙ append_assoc (form.whole ++ form.point) form.fraction form.exponent ∙ append_assoc form.whole form.point (form.fraction ++ form.exponent)
      ∙ ap (λ t. form.whole ++ t) (sym (append_assoc form.point form.fraction form.exponent))

  stops_behind : (form : HasFloatForm digit mark s) → (form.point ≡ [] → form.fraction ≡ []) → NoneAtFront digit (behind form)
  stops_behind form only = ⊎_elim
      (λ none. subst (NoneAtFront digit) (sym (ap (λ p. p ++ form.fraction ++ form.exponent) none ∙ ap (λ f. f ++ form.exponent) (only none)))
      (stops_at_exponent mark digit no_mark form.exponent form.scaled))
      (λ dot. subst (NoneAtFront digit) (sym (ap (λ p. p ++ form.fraction ++ form.exponent) dot)) no_point) form.pointed

  -- the parts behind the first digits, in two forms of one text
  pub record SameParts (a b : HasFloatForm digit mark s) : Type 0 where
    pub whole : a.whole ≡ b.whole
    pub fraction : a.fraction ≡ b.fraction
    pub exponent : a.exponent ≡ b.exponent

  module _ (a b : HasFloatForm digit mark s) (only_a : a.point ≡ [] → a.fraction ≡ []) (only_b : b.point ≡ [] → b.fraction ≡ []) where
    front : (a.whole ≡ b.whole) × (behind a ≡ behind b)
    front = one_split digit a.whole (behind a) b.whole (behind b) (list_all_parts digit a.whole a.fraction a.digits.digits).0 (stops_behind a only_a)
        (list_all_parts digit b.whole b.fraction b.digits.digits).0 (stops_behind b only_b) (sym (spelled_behind a) ∙ spelled_behind b)

    behind_none : (form : HasFloatForm digit mark s) → form.point ≡ [] → form.fraction ≡ [] → behind form ≡ form.exponent
    behind_none form no_dot no_fraction = ap (λ p. p ++ form.fraction ++ form.exponent) no_dot ∙ ap (λ f. f ++ form.exponent) no_fraction

    behind_dot : (form : HasFloatForm digit mark s) → form.point ≡ codes "." → behind form ≡ 46 ∷ (form.fraction ++ form.exponent)
    behind_dot form dot = ap (λ p. p ++ form.fraction ++ form.exponent) dot

    -- one has no point where the other has one
    one_point : (none dot : HasFloatForm digit mark s) → behind none ≡ behind dot → none.point ≡ [] → none.fraction ≡ [] → dot.point ≡ codes "." → ⊥
    one_point none dot same no_point_here no_fraction dot_here =
        let no : is_point 46 ≡ false = subst (NoneAtFront is_point) (sym (behind_none none no_point_here no_fraction) ∙ same ∙ behind_dot dot dot_here)
        (stops_at_exponent mark is_point mark_no_point none.exponent none.scaled) in cc

    both_points : a.point ≡ codes "." → b.point ≡ codes "." → SameParts a b
    both_points dot_a dot_b =
        let points : 46 ∷ (a.fraction ++ a.exponent) ≡ 46 ∷ (b.fraction ++ b.exponent) = sym (behind_dot a dot_a) ∙ front.1 ∙ behind_dot b dot_b in
        let behind_point : a.fraction ++ a.exponent ≡ b.fraction ++ b.exponent = cc in
        let rest = one_split digit a.fraction a.exponent b.fraction b.exponent (list_all_parts digit a.whole a.fraction a.digits.digits).1
        (stops_at_exponent mark digit no_mark a.exponent a.scaled) (list_all_parts digit b.whole b.fraction b.digits.digits).1
        (stops_at_exponent mark digit no_mark b.exponent b.scaled) behind_point in
        record { whole = front.0; fraction = rest.0; exponent = rest.1 }

    pub same_parts : SameParts a b
    same_parts = ⊎_elim
        (λ none_a. ⊎_elim
        (λ none_b. record {
          whole = front.0;
          fraction = only_a none_a ∙ sym (only_b none_b);
          exponent = sym (behind_none a none_a (only_a none_a)) ∙ front.1 ∙ behind_none b none_b (only_b none_b);
        })
        (λ dot_b. absurd (one_point a b front.1 none_a (only_a none_a) dot_b)) b.pointed)
        (λ dot_a. ⊎_elim
        (λ none_b. absurd (one_point b a (sym front.1) none_b (only_b none_b) dot_a))
        (λ dot_b. both_points dot_a dot_b) b.pointed) a.pointed

same_fields : (v w : Scaled) → v.base ≡ w.base → v.digits ≡ w.digits → v.up ≡ w.up → v.down ≡ w.down → v ≡ w
same_fields v w base digits up down = λ i. record { base = base i; digits = digits i; up = up i; down = down i }

-- the values of floats of a base
abbrev pub IsScaledIn : Base → List ℕ → Scaled → Type 0
IsScaledIn base s v = IsScaled (is_digit_in base) (is_mark_in base) (radix_of base) (exponent_base_of base) (places_of base) s v

pub one_scaled : (base : Base) (s : List ℕ) (v w : Scaled) → IsScaledIn base s v → IsScaledIn base s w → v ≡ w
one_scaled base s v w sv sw =
    let same = same_parts (is_digit_in base) (is_mark_in base) (no_point_in base) (no_mark_in base) (mark_no_point_in base) s sv.form sw.form sv.behind_point sw.behind_point in
    same_fields v w (sv.base_is ∙ sym sw.base_is)
    (sv.digits ∙ ap (λ d. digits_value (radix_of base) d) (ap (λ f. sv.form.whole ++ f) same.fraction ∙ ap (λ f. f ++ sw.form.fraction) same.whole) ∙ sym sw.digits)
    (sv.up ∙ ap raised same.exponent ∙ sym sw.up)
    (sv.down ∙ ap (λ f. lowered sv.form.exponent + places_of base * length f) same.fraction ∙ ap (λ e. lowered e + places_of base * length sw.form.fraction) same.exponent ∙ sym sw.down)

-- the parts give the value
pub scaled_from_parts : (base : Base) (s whole fraction exponent : List ℕ) → HasParts (is_digit_in base) (is_mark_in base) s whole fraction exponent
    → IsScaledIn base s (value_of_parts base whole fraction exponent)
scaled_from_parts base s whole fraction exponent has = record {
  form = has.form;
  behind_point = has.behind_point;
  base_is = refl;
  digits = rw (has.whole_is, has.fraction_is) refl;
  up = rw has.exponent_is refl;
  down = rw (has.exponent_is, has.fraction_is) refl;
}

-- a float has one value
integer_no_scaled : (s : List ℕ) (v w : Scaled) → IsScaledInteger s v → IsScaledIn Decimal s w → ⊥
integer_no_scaled s v w integer scaled =
    no_float_in_digits is_digit is_decimal_mark refl digit_no_mark s integer.large.digits.digits scaled.form

pub one_decimal : (s : List ℕ) (v w : Scaled) → IsDecimalScaled s v → IsDecimalScaled s w → v ≡ w
one_decimal s v w dv dw = ⊎_elim
    (λ iv. ⊎_elim
    (λ iw. same_fields v w (iv.base_is ∙ sym iw.base_is) (iv.digits ∙ sym iw.digits) (iv.up ∙ sym iw.up) (iv.down ∙ sym iw.down))
    (λ sw. absurd (integer_no_scaled s v w iv sw)) dw)
    (λ sv. ⊎_elim
    (λ iw. absurd (integer_no_scaled s w v iw sv))
    (λ sw. one_scaled Decimal s v w sv sw) dw) dv

decimal_form : (s : List ℕ) (v : Scaled) → IsDecimalScaled s v → IsDecimal s Float
decimal_form s v d = ⊎_elim (λ i. inl i.large) (λ scaled. inr scaled.form) d

decimal_or_hex : (s : List ℕ) (v w : Scaled) → IsDecimalScaled s v → IsHexScaled s w → ⊥
decimal_or_hex s v w dv hw = x_in_hexadecimal s hw.prefix hw.rest hw.spelled hw.prefixed (no_x_in_decimal s Float (decimal_form s v dv))

pub one_value : (s : List ℕ) (v w : Scaled) → IsFloat s v → IsFloat s w → v ≡ w
one_value s v w fv fw = ⊎_elim
    (λ dv. ⊎_elim (λ dw. one_decimal s v w dv dw) (λ hw. absurd (decimal_or_hex s v w dv hw)) fw)
    (λ hv. ⊎_elim (λ dw. absurd (decimal_or_hex s w v dw hv))
    (λ hw.
    let same : hw.rest ≡ hv.rest = sym (hex_rest s hw.prefix hw.rest hw.spelled hw.prefixed) ∙ hex_rest s hv.prefix hv.rest hv.spelled hv.prefixed in
    one_scaled Hexadecimal hv.rest v w hv.scaled (subst (λ rest. IsScaledIn Hexadecimal rest w) same hw.scaled)) fw) fv

-- what is found by the parts
pub found_decimal : (s whole fraction exponent : List ℕ) (o : Option ℕ) → HasParts is_digit is_decimal_mark s whole fraction exponent
    → MatchOption o (IsInReach (value_of_parts Decimal whole fraction exponent) → ⊥) (λ w. IsInReach (value_of_parts Decimal whole fraction exponent) × IsWord (value_of_parts Decimal whole fraction exponent) w)
    → IfSome o (λ w. IsFloatWord s w)
found_decimal s whole fraction exponent None has found = tt
found_decimal s whole fraction exponent (Some w) has found = record {
  value = value_of_parts Decimal whole fraction exponent;
  float = inl (inr (scaled_from_parts Decimal s whole fraction exponent has));
  in_reach = found.0;
  word_is = found.1;
}

pub none_in : (base : Base) (s whole fraction exponent : List ℕ) (o : Option ℕ) → HasParts (is_digit_in base) (is_mark_in base) s whole fraction exponent
    → MatchOption o (IsInReach (value_of_parts base whole fraction exponent) → ⊥) (λ w. IsInReach (value_of_parts base whole fraction exponent) × IsWord (value_of_parts base whole fraction exponent) w)
    → IfNone o ((v : Scaled) → IsScaledIn base s v → IsInReach v → ⊥)
none_in base s whole fraction exponent None has found = λ v scaled reach.
    found (subst IsInReach (one_scaled base s v (value_of_parts base whole fraction exponent) scaled (scaled_from_parts base s whole fraction exponent has)) reach)
none_in base s whole fraction exponent (Some w) has found = tt

pub none_decimal : (s whole fraction exponent : List ℕ) (o : Option ℕ) → HasParts is_digit is_decimal_mark s whole fraction exponent
    → MatchOption o (IsInReach (value_of_parts Decimal whole fraction exponent) → ⊥) (λ w. IsInReach (value_of_parts Decimal whole fraction exponent) × IsWord (value_of_parts Decimal whole fraction exponent) w)
    → IfNone o ((v : Scaled) → IsDecimalScaled s v → IsInReach v → ⊥)
none_decimal s whole fraction exponent None has found = λ v float reach.
    found (subst IsInReach (one_decimal s v (value_of_parts Decimal whole fraction exponent) float (inr (scaled_from_parts Decimal s whole fraction exponent has))) reach)
none_decimal s whole fraction exponent (Some w) has found = tt

pub found_hexadecimal : (s whole fraction exponent : List ℕ) (o : Option ℕ) → HasParts is_hex_digit is_binary_mark s whole fraction exponent
    → MatchOption o (IsInReach (value_of_parts Hexadecimal whole fraction exponent) → ⊥) (λ w. IsInReach (value_of_parts Hexadecimal whole fraction exponent) × IsWord (value_of_parts Hexadecimal whole fraction exponent) w)
    → IfSome o (λ w. (v : Scaled) × IsScaled is_hex_digit is_binary_mark 16 2 4 s v × IsInReach v × IsWord v w)
found_hexadecimal s whole fraction exponent None has found = tt
found_hexadecimal s whole fraction exponent (Some w) has found =
    (value_of_parts Hexadecimal whole fraction exponent, scaled_from_parts Hexadecimal s whole fraction exponent has, found.0, found.1)

-- digits alone are an integer
pub none_integer : (s : List ℕ) (o : Option ℕ) → list_all is_digit s ≡ true → IfNone o ((v : Scaled) → IsScaledInteger s v → IsInReach v → ⊥)
    → IfNone o ((v : Scaled) → IsDecimalScaled s v → IsInReach v → ⊥)
none_integer s None digits none = λ v float reach. ⊎_elim (λ integer. none v integer reach)
    (λ scaled. no_float_in_digits is_digit is_decimal_mark refl digit_no_mark s digits scaled.form) float
none_integer s (Some w) digits none = tt

-- the prefix before
pub found_behind_prefix : (s : List ℕ) (o : Option ℕ) → IsHexPrefix (take 2 s)
    → IfSome o (λ w. (v : Scaled) × IsScaled is_hex_digit is_binary_mark 16 2 4 (drop 2 s) v × IsInReach v × IsWord v w) → IfSome o (λ w. IsFloatWord s w)
found_behind_prefix s None prefixed found = tt
found_behind_prefix s (Some w) prefixed found = record {
  value = found.0;
  float = inr (record { prefix = take 2 s; rest = drop 2 s; spelled = sym (take-append-drop 2 s); prefixed = prefixed; scaled = found.1 });
  in_reach = found.2;
  word_is = found.3;
}

pub no_float_behind_prefix : (s : List ℕ) (o : Option ℕ) → IsHexPrefix (take 2 s)
    → IfNone o ((v : Scaled) → IsScaled is_hex_digit is_binary_mark 16 2 4 (drop 2 s) v → IsInReach v → ⊥) → IfNone o ((v : Scaled) → IsFloat s v → IsInReach v → ⊥)
no_float_behind_prefix s None prefixed none = λ v float reach. ⊎_elim
    (λ decimal. x_in_hexadecimal s (take 2 s) (drop 2 s) (sym (take-append-drop 2 s)) prefixed (no_x_in_decimal s Float (decimal_form s v decimal)))
    (λ hex. none v (subst (λ rest. IsScaledIn Hexadecimal rest v) (sym (hex_rest s hex.prefix hex.rest hex.spelled hex.prefixed)) hex.scaled) reach) float
no_float_behind_prefix s (Some w) prefixed none = tt

pub none_without_prefix : (s : List ℕ) (o : Option ℕ) → (IsHexPrefix (take 2 s) → ⊥)
    → IfNone o ((v : Scaled) → IsDecimalScaled s v → IsInReach v → ⊥) → IfNone o ((v : Scaled) → IsFloat s v → IsInReach v → ⊥)
none_without_prefix s None bare none = λ v float reach. ⊎_elim (λ decimal. none v decimal reach)
    (λ hex. bare (prefix_taken s hex.prefix hex.rest hex.spelled hex.prefixed)) float
none_without_prefix s (Some w) bare none = tt

-- a decimal integer from 2 ^ 63 on
pub found_integer : (s : List ℕ) (value : ℕ) (o : Option ℕ) → IsDigits is_digit s → value ≡ digits_value 10 s → value < 2 ^ 64 → 2 ^ 63 ≤ value
    → MatchOption o ((0 ≤ 0 + 19) × (0 ≤ 0 + 19) → ⊥) (λ w. (0 ≤ 0 + 19) × (0 ≤ 0 + 19) × IsNearest (value * 10 ^ 0) (10 ^ 0) w) → IfSome o (λ w. IsFloatWord s w)
found_integer s value None digits is small large found = tt
found_integer s value (Some w) digits is small large found =
    let float : Scaled = record { base = 10; digits = value; up = 0; down = 0 } in
    let integer : IsScaledInteger s float = record { large = record { digits = digits; large = rw is at large }; base_is = refl; digits = is; up = refl; down = refl } in
    let within : IsWithin (2 ^ 64) 19 float = record { digits = small; up = found.0; down = found.1 } in
    record { value = float; float = inl (inl integer); in_reach = inr (inl (refl, within)); word_is = inr (omega (arith, large), found.2) }

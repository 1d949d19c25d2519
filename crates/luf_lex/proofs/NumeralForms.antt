-- Each text has the form of a numeral, or it has not.
use Rattle.std.proofs.Common.{◌≡◌, ℕ, ◌<◌, ◌⊎◌, Bool, None, List, [], ◌∷◌, ◌++◌, length, take, drop, codes, refl, sym, ◌∙◌, arith, inl, inr, take-append-drop}
use Rattle.std.specs.Prelude.{◌^◌, pos, ◌%◌}
use Rattle.std.specs.List.{list_all, prefix_len}
use Rattle.std.specs.Int.{cast_signed, w64}
use Rattle.std.proofs.lemmas.Bool.{cases_Bool, cases_lt, false≢true}
use Rattle.std.specs.Str.Parse.{digits_value}
use Rattle.luf_byte.specs.Class.{is_digit, is_hex_digit}
use Rattle.luf_num.specs.inner.Base.{is_digit_in, is_mark_in}
use Rattle.luf_num.specs.declared.Number.{Number}
use Rattle.luf_num.specs.declared.Number.TheVariants.{Int, Float}
use Rattle.luf_num.specs.declared.form.Base.{Base}
use Rattle.luf_num.specs.declared.form.Base.TheVariants.{Decimal, Hexadecimal}
use Rattle.luf_num.specs.Numeral.{IsDigits, IsHexPrefix, IsExponent, HasFloatForm, IsDecimal, IsHexRest, HasNumeralForm, is_decimal_mark, is_binary_mark, is_sign}
use Rattle.luf_num.specs.inner.Parts.{SplitsFirst, is_point}
use Rattle.luf_num.proofs.Forms.{none_behind_prefix, form_without_prefix}
use Rattle.luf_lex.proofs.Decided.{Decided, same_or_not}
use Rattle.luf_num.proofs.Scanning.{splits_at_prefix, exponent_from_cut, cut_from_exponent, CutHasForm, form_from_parts, parts_from_form}

digits_or_not : (digit : ℕ → Bool) (s : List ℕ) → Decided (IsDigits digit s)
digits_or_not digit [] = inr (λ h. let fails : 0 < 0 = h.some in omega arith)
digits_or_not digit (b ∷ s) =
    elim (cases_Bool (list_all digit (b ∷ s))) [
      | inl holds ↦ inl (record { digits = holds; some = omega arith })
      | inr fails ↦ inr (λ h. false≢true (sym fails ∙ h.digits))
    ]

-- where the first byte is cut off, if it passes the test
abbrev FirstCut : (ℕ → Bool) → List ℕ → Type 0
FirstCut test s = (front : List ℕ) × (back : List ℕ) × SplitsFirst test s front back

first_cut : (test : ℕ → Bool) (s : List ℕ) → FirstCut test s
first_cut test [] = ([], [], (refl, tt))
first_cut test (b ∷ s) =
    elim (cases_Bool (test b)) [
      | inl holds ↦ (b ∷ [], s, (refl, refl, holds))
      | inr fails ↦ ([], b ∷ s, (refl, fails))
    ]

exponent_or_not : (mark : ℕ → Bool) (s : List ℕ) → Decided (IsExponent mark s)
exponent_or_not mark [] = inr (λ h. let fails : [] ≡ h.letter ∷ (h.sign ++ h.digits) = h.spelled in cc)
exponent_or_not mark (b ∷ s) =
    let cut = first_cut is_sign s in
    elim (cases_Bool (mark b)) [
      | inr fails ↦ inr (λ h. false≢true (sym fails ∙ (cut_from_exponent mark (b ∷ s) b s cut.0 cut.1 refl cut.2 h).0))
      | inl holds ↦ elim (digits_or_not is_digit cut.1) [
        | inl digits ↦ inl (exponent_from_cut mark (b ∷ s) b s cut.0 cut.1 refl cut.2 holds digits)
        | inr fails ↦ inr (λ h. fails (cut_from_exponent mark (b ∷ s) b s cut.0 cut.1 refl cut.2 h).1)
      ]
    ]

some_or_not : (s : List ℕ) → Decided (0 < length s)
some_or_not [] = inr (λ h. omega arith)
some_or_not (b ∷ s) = inl (omega arith)

scaled_or_not : (mark : ℕ → Bool) (s : List ℕ) → Decided ((s ≡ []) ⊎ IsExponent mark s)
scaled_or_not mark [] = inl (inl refl)
scaled_or_not mark (b ∷ s) =
    elim (exponent_or_not mark (b ∷ s)) [
      | inl holds ↦ inl (inr holds)
      | inr fails ↦ inr (λ h. elim h [ inl e ↦ (let none : b ∷ s ≡ [] = e in cc) | inr holds ↦ fails holds ])
    ]

parts_or_not : (mark : ℕ → Bool) (whole point fraction exponent : List ℕ) → Decided (CutHasForm mark whole point fraction exponent)
parts_or_not mark whole point fraction exponent =
    elim (some_or_not (whole ++ fraction)) [
      | inr fails ↦ inr (λ h. fails h.some)
      | inl some ↦ elim (some_or_not (point ++ exponent)) [
        | inr fails ↦ inr (λ h. fails h.not_integer)
        | inl more ↦ elim (scaled_or_not mark exponent) [
          | inr fails ↦ inr (λ h. fails h.scaled)
          | inl scaled ↦ inl (record { some = some; not_integer = more; scaled = scaled })
        ]
      ]
    ]

float_or_not : (base : Base) (s : List ℕ) → Decided (HasFloatForm (is_digit_in base) (is_mark_in base) s)
float_or_not base s =
    let digit = is_digit_in base in
    let first = splits_at_prefix digit s in
    let after_whole : List ℕ = drop (prefix_len digit s) s in
    let second = first_cut is_point after_whole in
    let third = splits_at_prefix digit second.1 in
    elim (parts_or_not (is_mark_in base) _ second.0 _ _) [
      | inl holds ↦ inl (form_from_parts base s _ after_whole second.0 second.1 _ _ first second.2 third holds)
      | inr fails ↦ inr (λ h. fails (parts_from_form base s _ after_whole second.0 second.1 _ _ first second.2 third h))
    ]

hex_rest_or_not : (s : List ℕ) → Decided ((n : Number) × IsHexRest s n)
hex_rest_or_not s =
    elim (digits_or_not is_hex_digit s) [
      | inl digits ↦ inl (Int (cast_signed w64 (digits_value 16 s % 2 ^ 64)), record { digits = digits; value = refl })
      | inr fails ↦ elim (float_or_not Hexadecimal s) [
        | inl form ↦ inl (Float, form)
        | inr neither ↦ inr (λ h. by_number fails neither h.0 h.1)
      ]
    ]
  where
    by_number : (IsDigits is_hex_digit s → ⊥) → (HasFloatForm is_hex_digit is_binary_mark s → ⊥) → (n : Number) → IsHexRest s n → ⊥
    by_number fails neither (Int n) h = fails h.digits
    by_number fails neither Float h = neither h

decimal_or_not : (s : List ℕ) → Decided ((n : Number) × IsDecimal s n)
decimal_or_not s =
    elim (digits_or_not is_digit s) [
      | inl digits ↦ elim (cases_lt (digits_value 10 s) (2 ^ 63)) [
        | inl small ↦ inl (Int (pos (digits_value 10 s)), record { digits = digits; small = small; value = refl })
        | inr large ↦ inl (Float, inl (record { digits = digits; large = large }))
      ]
      | inr fails ↦ elim (float_or_not Decimal s) [
        | inl form ↦ inl (Float, inr form)
        | inr neither ↦ inr (λ h. by_number fails neither h.0 h.1)
      ]
    ]
  where
    by_number : (IsDigits is_digit s → ⊥) → (HasFloatForm is_digit is_decimal_mark s → ⊥) → (n : Number) → IsDecimal s n → ⊥
    by_number fails neither (Int n) h = fails h.digits
    by_number fails neither Float (inl h) = fails h.digits
    by_number fails neither Float (inr h) = neither h

prefix_or_not : (s : List ℕ) → Decided (IsHexPrefix s)
prefix_or_not s =
    elim (same_or_not s (codes "0x")) [
      | inl small ↦ inl (inl small)
      | inr fails ↦ elim (same_or_not s (codes "0X")) [
        | inl large ↦ inl (inr large)
        | inr neither ↦ inr (λ h. elim h [ inl small ↦ fails small | inr large ↦ neither large ])
      ]
    ]

pub numeral_or_not : (s : List ℕ) → Decided (HasNumeralForm s)
numeral_or_not s =
    elim (prefix_or_not (take 2 s)) [
      | inl prefixed ↦ elim (hex_rest_or_not (drop 2 s)) [
        | inl h ↦ inl (h.0, inr (record { prefix = take 2 s; rest = drop 2 s; spelled = sym (take-append-drop 2 s); prefixed = prefixed; number = h.1 }))
        | inr fails ↦ inr (λ form. none_behind_prefix s prefixed (λ n h. fails (n, h)) form.0 form.1)
      ]
      | inr bare ↦ elim (decimal_or_not s) [
        | inl h ↦ inl (h.0, inl h.1)
        | inr fails ↦ inr (λ form. false≢true ((form_without_prefix s None bare tt (λ n h. fails (n, h))).1 form))
      ]
    ]

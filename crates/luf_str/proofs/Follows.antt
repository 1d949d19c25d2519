-- What may stand behind a line end, an escape, a unit or a part: only the first byte counts.
use Rattle.std.proofs.Common.{◌≡◌, ℕ, ◌⊎◌, Bool, true, false, not, ◌||◌, ◌&&◌, eqb, List, [], ◌∷◌, ◌++◌, get_or, refl, sym, ap, ◌∙◌, arith, inl, inr}
use Rattle.std.specs.Prelude.{◌==◌}
use Rattle.std.proofs.lemmas.Bool.{eqb-true}
use Rattle.std.proofs.lemmas.Bool.Decides.{nat_tests}
use Rattle.luf_byte.specs.Class.{is_line_byte, is_whitespace, is_digit}
use Rattle.luf_byte.specs.LineEnd.{is_line_pair, IsLineEndBefore}
use Rattle.luf_str.specs.Bytes.{is_quote}
use Rattle.luf_byte.specs.Front.{NoneAtFront}
use Rattle.luf_str.specs.Escape.{IsEscape}
use Rattle.luf_str.specs.Escape as escape_rule
use Rattle.luf_str.specs.Spelling.{IsUnit}
use Rattle.luf_str.specs.Spelling as unit_rule
use Rattle.luf_str.specs.Value.{IsPart, Part, spelling_of, AreParts}
use Rattle.luf_str.specs.Value as part_rule

abbrev pub is_quote_like : ℕ → Bool
is_quote_like b = is_quote b || b == 92

-- the first bytes are one, or each is a quote or a backslash
abbrev pub HasSameFront : List ℕ → List ℕ → Type 0
HasSameFront m n = (get_or m 0 0 ≡ get_or n 0 0) ⊎ ((is_quote_like (get_or m 0 0) ≡ true) × (is_quote_like (get_or n 0 0) ≡ true))

-- a kind of bytes that has neither quotes nor the backslash, nor 0
abbrev pub IsApart : (ℕ → Bool) → Type 0
IsApart kind = (kind 0 ≡ false) × ((b : ℕ) → is_quote_like b ≡ true → kind b ≡ false)

none_is : (kind : ℕ → Bool) (m : List ℕ) → kind (get_or m 0 0) ≡ false → NoneAtFront kind m
none_is kind [] h = tt
none_is kind (b ∷ m) h = h

is_none : (kind : ℕ → Bool) (m : List ℕ) → IsApart kind → NoneAtFront kind m → kind (get_or m 0 0) ≡ false
is_none kind [] apart h = apart.0
is_none kind (b ∷ m) apart h = h

pub none_again : (kind : ℕ → Bool) (m n : List ℕ) → IsApart kind → HasSameFront m n → NoneAtFront kind m → NoneAtFront kind n
none_again kind m n apart (inl e) none = none_is kind n (ap kind (sym e) ∙ is_none kind m apart none)
none_again kind m n apart (inr h) none = none_is kind n (apart.1 (get_or n 0 0) h.1)

quote_like_cases : (b : ℕ) → is_quote_like b ≡ true → (b ≡ 34) ⊎ ((b ≡ 39) ⊎ (b ≡ 92))
quote_like_cases b h =
    elim (eqb b 34) as (λ t. eqb b 34 ≡ t → (b ≡ 34) ⊎ ((b ≡ 39) ⊎ (b ≡ 92))) [
      | true ↦ λ yes. inl (eqb-true b 34 yes)
      | false ↦ λ no. inr (elim (eqb b 39) as (λ t. eqb b 39 ≡ t → (b ≡ 39) ⊎ (b ≡ 92)) [
        | true ↦ λ yes. inl (eqb-true b 39 yes)
        | false ↦ λ no'. inr (grind (arith, nat_tests))
      ] refl)
    ] refl

by_quotes : (kind : ℕ → Bool) → kind 0 ≡ false → kind 34 ≡ false → kind 39 ≡ false → kind 92 ≡ false → IsApart kind
by_quotes kind zero double single backslash =
    (zero, λ b h. elim (quote_like_cases b h) [ inl e ↦ ap kind e ∙ double | inr x ↦ elim x [ inl e ↦ ap kind e ∙ single | inr e ↦ ap kind e ∙ backslash ] ])

digits_apart : IsApart is_digit
digits_apart = by_quotes is_digit refl refl refl refl

pub spaces_apart : IsApart is_whitespace
spaces_apart = by_quotes is_whitespace refl refl refl refl

no_pair : (a b : ℕ) → is_line_byte b ≡ false → is_line_pair a b ≡ false
no_pair a b h = elim (is_line_byte a) as (λ t. (t && is_line_byte b && not (eqb a b)) ≡ false) [ true ↦ rw h refl | false ↦ refl ]

pairs_apart : (a : ℕ) → IsApart (is_line_pair a)
pairs_apart a = by_quotes (is_line_pair a) (no_pair a 0 refl) (no_pair a 34 refl) (no_pair a 39 refl) (no_pair a 92 refl)

pub line_end_again : (line m n : List ℕ) → HasSameFront m n → IsLineEndBefore line m → IsLineEndBefore line n
line_end_again [] m n same h = absurd h
line_end_again (a ∷ []) m n same h = (h.0, none_again (is_line_pair a) m n (pairs_apart a) same h.1)
line_end_again (a ∷ b ∷ []) m n same h = h
line_end_again (a ∷ b ∷ c ∷ line) m n same h = absurd h

-- an escape stays one where the same, or another quote or backslash, follows
pub escape_again : {e m v : List ℕ} (n : List ℕ) → HasSameFront m n → IsEscape e m v → IsEscape e n v
escape_again n same (escape_rule.letter c byte m h) = escape_rule.letter c byte n h
escape_again n same (escape_rule.line_end line m h) = escape_rule.line_end line n (line_end_again line m n same h)
escape_again n same (escape_rule.skip spaces m all none) = escape_rule.skip spaces n all (none_again is_whitespace m n spaces_apart same none)
escape_again n same (escape_rule.hexadecimal high low m h l) = escape_rule.hexadecimal high low n h l
escape_again n same (escape_rule.decimal digits m some most all none small) = escape_rule.decimal digits n some most all (λ few. none_again is_digit m n digits_apart same (none few)) small
escape_again n same (escape_rule.code digits m some all small) = escape_rule.code digits n some all small

-- a unit stays one where the same byte follows
pub unit_again : {q : ℕ} {u m : List ℕ} (n : List ℕ) → HasSameFront m n → IsUnit q u m → IsUnit q u n
unit_again n same (unit_rule.plain q b m h) = unit_rule.plain q b n h
unit_again n same (unit_rule.skip q spaces m all none) = unit_rule.skip q spaces n all (none_again is_whitespace m n spaces_apart same none)
unit_again n same (unit_rule.line_end q line m h) = unit_rule.line_end q line n (line_end_again line m n same h)
unit_again n same (unit_rule.other q b m no_z no_line) = unit_rule.other q b n no_z no_line

-- so does a part
part_again : {q : ℕ} {p m v : List ℕ} (n : List ℕ) → HasSameFront m n → IsPart q p m v → IsPart q p n v
part_again n same (part_rule.plain q b m h) = part_rule.plain q b n h
part_again n same (part_rule.escape q e m v h) = part_rule.escape q e n v (escape_again n same h)

same_behind : (xs m n : List ℕ) → get_or m 0 0 ≡ get_or n 0 0 → get_or (xs ++ m) 0 0 ≡ get_or (xs ++ n) 0 0
same_behind [] m n h = h
same_behind (b ∷ xs) m n h = refl

pub parts_again : (q : ℕ) (parts : List Part) (m n : List ℕ) → get_or m 0 0 ≡ get_or n 0 0 → AreParts q parts m → AreParts q parts n
parts_again q [] m n same all = tt
parts_again q (p ∷ parts) m n same all = (part_again (spelling_of parts ++ n) (inl (same_behind (spelling_of parts) m n same)) all.0, parts_again q parts m n same all.1)

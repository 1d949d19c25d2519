-- The requoted units of a short string are units in the new quotes.
use Rattle.std.proofs.Common.{◌≡◌, ◌≢◌, ℕ, inl, inr, true, false, cond, eqb, List, [], ◌∷◌, ◌++◌, map, refl, sym, ap, subst, ◌∙◌, arith}
use Rattle.std.proofs.lemmas.Bool.{eqb-true, false≢true}
use Rattle.std.proofs.lemmas.Bool.Decides.{nat_tests}
use Rattle.luf_byte.specs.Class.{is_line_byte, is_whitespace}
use Rattle.luf_byte.specs.LineEnd.{IsLineEndBefore}
use Rattle.luf_str.specs.Bytes.{is_quote, is_plain}
use Rattle.luf_str.specs.Requote.{other_quote, requoted_unit}
use Rattle.luf_str.specs.Spelling.{IsUnit, unit_bytes}
use Rattle.luf_str.specs.Spelling as unit
use Rattle.luf_str.proofs.Follows.{is_quote_like, HasSameFront, none_again, spaces_apart, line_end_again}
use Rattle.luf_str.proofs.UnitLaws.{AreUnits, quote_cases}

-- ---- quotes

quote_is_like : (q : ℕ) → is_quote q ≡ true → is_quote_like q ≡ true
quote_is_like q h = rw h refl

quote_facts : (b : ℕ) → is_quote b ≡ true → (b ≢ 122) × (is_line_byte b ≡ false)
quote_facts b h = elim (quote_cases b h) [ inl e ↦ subst (λ x. (x ≢ 122) × (is_line_byte x ≡ false)) (sym e) (omega arith, refl) | inr e ↦ subst (λ x. (x ≢ 122) × (is_line_byte x ≡ false)) (sym e) (omega arith, refl) ]

other_facts : (q : ℕ) → is_quote q ≡ true → (is_quote (other_quote q) ≡ true) × (is_plain q (other_quote q) ≡ true)
other_facts q h =
    elim (quote_cases q h) [
      | inl e ↦ subst (λ x. (is_quote (other_quote x) ≡ true) × (is_plain x (other_quote x) ≡ true)) (sym e) (refl, refl)
      | inr e ↦ subst (λ x. (is_quote (other_quote x) ≡ true) × (is_plain x (other_quote x) ≡ true)) (sym e) (refl, refl)
    ]

no_other_quote : (q b : ℕ) → is_quote q ≡ true → is_quote b ≡ false → eqb b (other_quote q) ≡ false
no_other_quote q b hq h =
    elim (eqb b (other_quote q)) as (λ t. eqb b (other_quote q) ≡ t → t ≡ false) [
      | true ↦ λ yes. absurd (false≢true (sym h ∙ ap is_quote (eqb-true b (other_quote q) yes) ∙ (other_facts q hq).0))
      | false ↦ λ differs. refl
    ] refl

line_is_no_quote : (a : ℕ) → is_line_byte a ≡ true → is_quote a ≡ false
line_is_no_quote a h = grind (arith, nat_tests)

still_plain : (p q b : ℕ) → is_plain p b ≡ true → eqb b q ≡ false → is_plain q b ≡ true
still_plain p q b h differs = grind (arith, nat_tests)

-- ---- the first byte stays, or both are quotes or backslashes

plain_front : (q b : ℕ) → is_quote q ≡ true → (m x n y : List ℕ) → HasSameFront ((b ∷ m) ++ x) ((requoted_unit q (b ∷ []) ++ n) ++ y)
plain_front q b hq m x n y =
    elim (eqb b q) as (λ t. eqb b q ≡ t → HasSameFront ((b ∷ m) ++ x) ((cond t (92 ∷ b ∷ []) (b ∷ []) ++ n) ++ y)) [
      | true ↦ λ yes. inr (quote_is_like b (ap is_quote (eqb-true b q yes) ∙ hq), refl)
      | false ↦ λ differs. inl refl
    ] refl

escaped_front : (q : ℕ) (rest : List ℕ) → is_quote q ≡ true → (m x n y : List ℕ) → HasSameFront ((92 ∷ (rest ++ m)) ++ x) ((requoted_unit q (92 ∷ rest) ++ n) ++ y)
escaped_front q [] hq m x n y = plain_front q 92 hq m x n y
escaped_front q (c ∷ []) hq m x n y =
    elim (eqb c (other_quote q)) as (λ t. eqb c (other_quote q) ≡ t → HasSameFront ((92 ∷ c ∷ m) ++ x) ((cond t (c ∷ []) (92 ∷ c ∷ []) ++ n) ++ y)) [
      | true ↦ λ yes. inr (refl, quote_is_like c (ap is_quote (eqb-true c (other_quote q) yes) ∙ (other_facts q hq).0))
      | false ↦ λ differs. inl refl
    ] refl
escaped_front q (c ∷ d ∷ rest) hq m x n y = inl refl

unit_front : {p : ℕ} {u next : List ℕ} (q : ℕ) → is_quote q ≡ true → IsUnit p u next → (m x n y : List ℕ) → HasSameFront ((u ++ m) ++ x) ((requoted_unit q u ++ n) ++ y)
unit_front q hq (unit.plain p b next is) = plain_front q b hq
unit_front q hq (unit.skip p spaces next all none) = escaped_front q (122 ∷ spaces) hq
unit_front q hq (unit.line_end p line next is) = escaped_front q line hq
unit_front q hq (unit.other p b next no_z no_line) = escaped_front q (b ∷ []) hq

front_stays : (p q : ℕ) (us : List (List ℕ)) → is_quote p ≡ true → is_quote q ≡ true → AreUnits p us (p ∷ [])
    → HasSameFront (unit_bytes us ++ p ∷ []) (unit_bytes (map (requoted_unit q) us) ++ q ∷ [])
front_stays p q [] hp hq all = inr (quote_is_like p hp, quote_is_like q hq)
front_stays p q (u ∷ us) hp hq all = unit_front q hq all.0 (unit_bytes us) (p ∷ []) (unit_bytes (map (requoted_unit q) us)) (q ∷ [])

-- ---- units

requoted_plain : (p q b : ℕ) (n : List ℕ) → is_quote q ≡ true → is_plain p b ≡ true → IsUnit q (requoted_unit q (b ∷ [])) n
requoted_plain p q b n hq h =
    elim (eqb b q) as (λ t. eqb b q ≡ t → IsUnit q (cond t (92 ∷ b ∷ []) (b ∷ [])) n) [
      | true ↦ λ yes. let facts = quote_facts b (ap is_quote (eqb-true b q yes) ∙ hq) in unit.other q b n facts.0 facts.1
      | false ↦ λ differs. unit.plain q b n (still_plain p q b h differs)
    ] refl

requoted_other : (q b : ℕ) (n : List ℕ) → is_quote q ≡ true → b ≢ 122 → is_line_byte b ≡ false → IsUnit q (requoted_unit q (92 ∷ b ∷ [])) n
requoted_other q b n hq no_z no_line =
    elim (eqb b (other_quote q)) as (λ t. eqb b (other_quote q) ≡ t → IsUnit q (cond t (b ∷ []) (92 ∷ b ∷ [])) n) [
      | true ↦ λ yes. unit.plain q b n (ap (is_plain q) (eqb-true b (other_quote q) yes) ∙ (other_facts q hq).1)
      | false ↦ λ differs. unit.other q b n no_z no_line
    ] refl

skip_is_kept : (q : ℕ) (spaces : List ℕ) → is_quote q ≡ true → requoted_unit q (92 ∷ 122 ∷ spaces) ≡ 92 ∷ 122 ∷ spaces
skip_is_kept q [] hq = rw (no_other_quote q 122 hq refl) refl
skip_is_kept q (a ∷ spaces) hq = refl

line_is_kept : (q : ℕ) (line m : List ℕ) → is_quote q ≡ true → IsLineEndBefore line m → requoted_unit q (92 ∷ line) ≡ 92 ∷ line
line_is_kept q [] m hq h = absurd h
line_is_kept q (a ∷ []) m hq h = rw (no_other_quote q a hq (line_is_no_quote a h.0)) refl
line_is_kept q (a ∷ b ∷ []) m hq h = refl
line_is_kept q (a ∷ b ∷ c ∷ line) m hq h = absurd h

unit_stays : {p : ℕ} {u m : List ℕ} (q : ℕ) → is_quote q ≡ true → IsUnit p u m → (n : List ℕ) → HasSameFront m n → IsUnit q (requoted_unit q u) n
unit_stays q hq (unit.plain p b m h) n same = requoted_plain p q b n hq h
unit_stays q hq (unit.skip p spaces m all none) n same =
    subst (λ u. IsUnit q u n) (sym (skip_is_kept q spaces hq)) (unit.skip q spaces n all (none_again is_whitespace m n spaces_apart same none))
unit_stays q hq (unit.line_end p line m h) n same = subst (λ u. IsUnit q u n) (sym (line_is_kept q line m hq h)) (unit.line_end q line n (line_end_again line m n same h))
unit_stays q hq (unit.other p b m no_z no_line) n same = requoted_other q b n hq no_z no_line

pub requoted_units : (p q : ℕ) (us : List (List ℕ)) → is_quote p ≡ true → is_quote q ≡ true → AreUnits p us (p ∷ []) → AreUnits q (map (requoted_unit q) us) (q ∷ [])
requoted_units p q [] hp hq all = tt
requoted_units p q (u ∷ us) hp hq all =
    (unit_stays q hq all.0 (unit_bytes (map (requoted_unit q) us) ++ q ∷ []) (front_stays p q us hp hq all.1), requoted_units p q us hp hq all.1)

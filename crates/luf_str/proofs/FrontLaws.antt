-- What `front_of` answers, in each of its cases.
use Rattle.std.proofs.Common.{◌≡◌, ◌≢◌, ℕ, suc, ◌+◌, ◌<◌, true, false, List, [], ◌∷◌, length, get_or, drop, Some, None, refl, sym, ap, subst, arith}
use Rattle.std.proofs.lemmas.Bool.Decides.{nat_tests}
use Rattle.luf_str.specs.declared.escapes.Meaning.{Meaning}
use Rattle.luf_str.specs.declared.escapes.Meaning.TheVariants.{Byte}
use Rattle.luf_str.specs.declared.fronts.Front.TheVariants as front
use Rattle.luf_byte.specs.Class.{is_line_byte}
use Rattle.luf_str.specs.Bytes.{is_plain}
use Rattle.luf_str.specs.Value as rule
use Rattle.luf_str.specs.inner.Reading.{escape_at}
use Rattle.luf_str.specs.Front.{IsEnd, IsFront}
use Rattle.luf_str.proofs.EscapeLaws.{sound, none_reads}

pub empty_front : (text : List ℕ) → length text ≡ 0 → IsEnd text
empty_front [] e = tt
empty_front (b ∷ text) e = absurd (omega arith)

pub quote_front : (q : ℕ) (text : List ℕ) → 0 < length text → get_or text 0 0 ≡ q → IsFront q text front.Quote
quote_front q [] some e = absurd (omega arith)
quote_front q (b ∷ text) some e = (text, ap (λ x. x ∷ text) e)

pub end_front : (text : List ℕ) → is_line_byte (get_or text 0 0) ≡ true → IsEnd text
end_front [] e = tt
end_front (b ∷ text) e = e

pub plain_front : (q : ℕ) (text : List ℕ) (b : ℕ) → 0 < length text → b ≡ get_or text 0 0 → b ≢ 92 → b ≢ q → is_line_byte b ≡ false → IsFront q text (front.Part 1 (Byte b))
plain_front q [] b some e no_backslash no_quote no_line = absurd (omega arith)
plain_front q (a ∷ text) b some e no_backslash no_quote no_line =
    let plain : is_plain q b ≡ true = grind (arith, nat_tests) in
    subst (λ x. IsFront q (x ∷ text) (front.Part 1 (Byte b))) e (omega arith, omega arith, rule.plain q b text plain)

pub escape_front : (q : ℕ) (text : List ℕ) (n : ℕ) (m : Meaning) → get_or text 0 0 ≡ 92 → escape_at (drop 1 text) ≡ Some (n, m) → IsFront q text (front.Part (1 + n) m)
escape_front q [] n m is found = absurd (omega arith)
escape_front q (a ∷ text) n m is found =
    let r = sound text n m found in
    let e : 1 + n ≡ suc n = omega arith in
    subst (λ x. IsFront q (x ∷ text) (front.Part (1 + n) m)) (sym is) (rw e (omega arith, omega arith, rule.escape q _ _ _ r.1))

pub lone_front : (q : ℕ) (text : List ℕ) → get_or text 0 0 ≡ 92 → length text ≡ 1 → IsFront q text front.LoneBackslash
lone_front q [] is one = absurd (omega arith)
lone_front q (a ∷ []) is one = ap (λ x. x ∷ []) is
lone_front q (a ∷ b ∷ text) is one = absurd (omega arith)

pub bad_front : (q : ℕ) (text : List ℕ) → get_or text 0 0 ≡ 92 → length text ≢ 1 → escape_at (drop 1 text) ≡ None → IsFront q text front.BadEscape
bad_front q [] is more none = absurd (omega arith)
bad_front q (a ∷ []) is more none = absurd (more refl)
bad_front q (a ∷ b ∷ text) is more none = (b ∷ text, ap (λ x. x ∷ b ∷ text) is, ((λ e. absurd cc), none_reads (b ∷ text) none))

-- for `front_of`
pub ruleset front_laws = (empty_front, quote_front, end_front, plain_front, escape_front, lone_front, bad_front)

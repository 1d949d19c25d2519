-- Each text that begins with a quote has an end of its short string: it closes, has a bad escape, or stays open.
use Rattle.std.proofs.Common.{◌≡◌, ◌≢◌, ℕ, zero, suc, ◌+◌, ◌<◌, ◌≤◌, Bool, true, false, eqb, Option, Some, None, List, [], ◌∷◌, length, drop, refl, sym, ◌∙◌, arith, inl, inr, eq-eqb}
use Rattle.std.proofs.lemmas.Bool.{cases_Bool, eqb-true, false≢true}
use Rattle.luf_str.specs.declared.escapes.Meaning.{Meaning}
use Rattle.luf_str.specs.declared.escapes.Meaning.TheVariants.{Byte}
use Rattle.luf_str.specs.declared.fronts.Front.{Front}
use Rattle.luf_str.specs.declared.fronts.Front.TheVariants as front
use Rattle.luf_str.specs.declared.ends.ShortEnd.{ShortEnd}
use Rattle.luf_str.specs.declared.ends.ShortEnd.TheVariants as end
use Rattle.luf_str.specs.Bytes.{is_quote}
use Rattle.luf_byte.specs.Class.{is_line_byte}
use Rattle.luf_str.specs.Front.{IsFront}
use Rattle.luf_str.specs.inner.Reading.{escape_at}
use Rattle.luf_str.specs.ShortEnd.{IsShortEnd}
use Rattle.luf_str.proofs.FrontLaws.{quote_front, plain_front, escape_front, lone_front, bad_front}
use Rattle.luf_str.proofs.PartLaws.{IsReadTo, starts, part_read, closes_at, is_bad}

-- ---- what a text begins with, read as the inside of a string

abbrev HasFront : ℕ → List ℕ → Type 0
HasFront q text = (f : Front) × IsFront q text f

with_backslash : (q b : ℕ) (text : List ℕ) → b ≡ 92 → HasFront q (b ∷ text)
with_backslash q b text is = by_escape text (escape_at text) refl
  where
    by_escape : (text : List ℕ) (o : Option (ℕ × Meaning)) → escape_at text ≡ o → HasFront q (b ∷ text)
    by_escape text (Some (n, m)) found = (front.Part (1 + n) m, escape_front q (b ∷ text) n m is found)
    by_escape [] None found = (front.LoneBackslash, lone_front q (b ∷ []) is refl)
    by_escape (c ∷ text) None found = (front.BadEscape, bad_front q (b ∷ c ∷ text) is (λ one. omega arith) found)

without_backslash : (q b : ℕ) (text : List ℕ) → b ≢ 92 → (v w : Bool) → eqb b q ≡ v → is_line_byte b ≡ w → HasFront q (b ∷ text)
without_backslash q b text other true w quote line = (front.Quote, quote_front q (b ∷ text) (omega arith) (eqb-true b q quote))
without_backslash q b text other false true quote line = (front.End, line)
without_backslash q b text other false false quote line =
    (front.Part 1 (Byte b), plain_front q (b ∷ text) b (omega arith) refl other (λ e. false≢true (sym quote ∙ eq-eqb b q e)) line)

has_front : (q : ℕ) (text : List ℕ) → HasFront q text
has_front q [] = (front.End, tt)
has_front q (b ∷ text) =
    elim (cases_Bool (eqb b 92)) [
      | inl holds ↦ with_backslash q b text (eqb-true b 92 holds)
      | inr fails ↦ without_backslash q b text (λ e. false≢true (sym fails ∙ eq-eqb b 92 e)) (eqb b q) (is_line_byte b) refl refl
    ]

-- ---- part by part to the end

abbrev HasEnd : List ℕ → Type 0
HasEnd text = (e : ShortEnd) × IsShortEnd text e

-- the reading may go on over a part
abbrev GoesOn : ℕ → List ℕ → ℕ → Type 0
GoesOn q text at = (n : ℕ) (done : List ℕ) → 0 < n → at + n ≤ length text → IsReadTo q text (at + n) (drop (at + n) text) done → HasEnd text

by_front : (q : ℕ) (text : List ℕ) (at : ℕ) (done : List ℕ) → at ≤ length text → IsReadTo q text at (drop at text) done → GoesOn q text at → (f : Front) → IsFront q (drop at text) f → HasEnd text
by_front q text at done within r on (front.Part n m) is = let more = part_read q text at done (drop at text) n m r within refl is in on n _ is.0 more.0 more.1
by_front q text at done within r on front.BadEscape is = (end.Bad at, is_bad q text at (drop at text) done is.0 r is.1 is.2)
by_front q text at done within r on front.LoneBackslash is = (end.Open, (q, r.parts, drop at text, r.quote, r.are, r.text, inr is))
by_front q text at done within r on front.Quote is = let closed = closes_at q text at (drop at text) done is.0 r is.1 in (end.Closed (at + 1), (closed.0, (done, closed.1)))
by_front q text at done within r on front.End is = (end.Open, (q, r.parts, drop at text, r.quote, r.are, r.text, inl is))

-- with at most so many bytes left
end_from : (left : ℕ) (q : ℕ) (text : List ℕ) (at : ℕ) (done : List ℕ) → length text ≤ at + left → at ≤ length text → IsReadTo q text at (drop at text) done → HasEnd text
end_from zero q text at done few within r = let f = has_front q (drop at text) in by_front q text at done within r (λ n more some inside read. absurd (omega arith)) f.0 f.1
end_from (suc left) q text at done few within r =
    let f = has_front q (drop at text) in
    by_front q text at done within r (λ n more some inside read. end_from left q text (at + n) more (omega arith) inside read) f.0 f.1

pub has_end : (q : ℕ) (text : List ℕ) → is_quote q ≡ true → HasEnd (q ∷ text)
has_end q text quote = end_from (length text) q (q ∷ text) 1 [] (omega arith) (omega arith) (starts (q ∷ text) (omega arith) quote)

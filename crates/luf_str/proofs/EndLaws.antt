-- A string with which a text begins ends in one way at most.
use Rattle.std.proofs.Common.{◌≡◌, ℕ, ◌+◌, ◌-◌, ◌<◌, ◌≤◌, ◌⊎◌, List, [], ◌∷◌, ◌++◌, length, take, drop, Option, Some, None, refl, sym, ap, subst, ◌∙◌, arith, inl, inr, append_assoc, length-drop}
use Rattle.std.specs.Prelude.{IsTrue}
use Rattle.std.proofs.Math.Seq.{take-add}
use Rattle.std.proofs.lemmas.Bool.{cases_lt, false≢true}
use Rattle.std.proofs.lemmas.List.{take-append-drop, length-take-le}
use Rattle.luf_str.specs.declared.ends.ShortEnd.{ShortEnd}
use Rattle.luf_str.specs.declared.ends.ShortEnd.TheVariants as end
use Rattle.luf_str.specs.Bytes.{is_quote}
use Rattle.luf_str.specs.Escape.{IsEscape, IsBadEscape}
use Rattle.luf_str.specs.Escape as escape_rule
use Rattle.luf_str.specs.Front.{IsEnd}
use Rattle.luf_str.specs.Spelling.{IsStringSpelling}
use Rattle.luf_str.specs.Value.{IsPart, Part, spelling_of, AreParts, IsShortValue, FirstBad}
use Rattle.luf_str.specs.Value as part_rule
use Rattle.luf_str.specs.ShortEnd.{IsOpen, IsShortEnd}
use Rattle.luf_str.specs.LongEnd.{IsLongEnd}
use Rattle.luf_str.proofs.InPlace.{NoPiece}
use Rattle.luf_str.proofs.Follows.{parts_again}
use Rattle.luf_str.proofs.UnitLaws.{backslash_is_no_quote, quote_is_no_line, plain_is_no_line}
use Rattle.luf_str.proofs.Unique.{IsPartOf, spelled, first_is, first_same, same_reading, plain_is_no_backslash, no_part_at_quote, no_part_at_bad, one_bad_place}
use Rattle.luf_str.proofs.Apart.{apart, short_is_spelled}

-- ---- two fronts that are strings are one

longer_front : (text : List ℕ) (n m : ℕ) → n ≤ m → m ≤ length text → IsStringSpelling (take n text) → IsStringSpelling (take m text) → n ≡ m
longer_front text n m le within one other =
    let k : n + (m - n) ≡ m = omega arith in
    let more : List ℕ = take (m - n) (drop n text) in
    let cut : take m text ≡ take n text ++ more = ap (λ i. take i text) (sym k) ∙ take-add n (m - n) text in
    let nothing : more ≡ [] = apart (take n text) more one (subst IsStringSpelling cut other) in
    let size : length more ≡ m - n = length-take-le (m - n) (drop n text) (omega (arith, length-drop n text)) in
    omega (arith, ap length nothing)

same_front : (text : List ℕ) (n m : ℕ) → n ≤ length text → m ≤ length text → IsStringSpelling (take n text) → IsStringSpelling (take m text) → n ≡ m
same_front text n m fits fits' one other =
    elim (cases_lt n m) [
      | inl lt ↦ longer_front text n m (omega arith) fits' one other
      | inr le ↦ sym (longer_front text m n le fits other one)
    ]

pub one_long_end : (text : List ℕ) (e f : Option ℕ) → IsLongEnd text e → IsLongEnd text f → e ≡ f
one_long_end text None None one other = refl
one_long_end text None (Some m) one other = absurd (one.1 m other.1)
one_long_end text (Some n) None one other = absurd (other.1 n one.1)
one_long_end text (Some n) (Some m) one other = ap Some (same_front text n m one.0 other.0 (inr one.1) (inr other.1))

-- ---- where the parts of a short string stop

escape_some : {e m v : List ℕ} → IsEscape e m v → 0 < length e
escape_some (escape_rule.letter c value m h) = omega arith
escape_some (escape_rule.line_end [] m h) = absurd h
escape_some (escape_rule.line_end (a ∷ line) m h) = omega arith
escape_some (escape_rule.skip spaces m all none) = omega arith
escape_some (escape_rule.hexadecimal high low m h l) = omega arith
escape_some (escape_rule.decimal digits m some most all none small) = omega arith
escape_some (escape_rule.code digits m some all small) = omega arith

part_is_no_end : {q : ℕ} {p m v : List ℕ} → IsPart q p m v → IsEnd (p ++ m) → ⊥
part_is_no_end (part_rule.plain q b m h) end = plain_is_no_line q b h end
part_is_no_end (part_rule.escape q f m v h) end = false≢true end

nothing_first : (f m : List ℕ) → 0 < length f → f ++ m ≡ [] → ⊥
nothing_first [] m some e = omega arith
nothing_first (a ∷ f) m some e = cc

part_is_no_lone : {q : ℕ} {p m v : List ℕ} → IsPart q p m v → p ++ m ≡ 92 ∷ [] → ⊥
part_is_no_lone (part_rule.plain q b m h) e = plain_is_no_backslash q b h (first_same b 92 m [] e).0
part_is_no_lone (part_rule.escape q f m v h) e = nothing_first f m (escape_some h) (first_same 92 92 (f ++ m) [] e).1

-- The text is a quote, parts and this rest, with which no part begins.
record StopsAt (text rest : List ℕ) : Type 0 where
  pub q : ℕ
  pub parts : List Part
  pub are : AreParts q parts rest
  pub cut : text ≡ q ∷ (spelling_of parts ++ rest)
  pub none : NoPiece (IsPartOf q) spelled rest

same_rest : (text m n : List ℕ) → StopsAt text m → StopsAt text n → m ≡ n
same_rest text m n s t =
    let same : t.q ≡ s.q = sym (first_is t.q text _ t.cut) ∙ first_is s.q text _ s.cut in
    let moved = subst (λ x. AreParts x t.parts n × NoPiece (IsPartOf x) spelled n × (text ≡ x ∷ (spelling_of t.parts ++ n))) same (t.are, t.none, t.cut) in
    (same_reading s.q s.parts t.parts m n s.are moved.0 s.none moved.1 (sym s.cut ∙ moved.2)).1

-- at a quote
closed_stops : (text : List ℕ) (n : ℕ) (value : List ℕ) → IsShortValue (take n text) value → (q : ℕ) × IsTrue (is_quote q) × StopsAt text (q ∷ drop n text)
closed_stops text n value (q, parts, quote, all, e, is) =
    let cut : text ≡ q ∷ (spelling_of parts ++ q ∷ drop n text)
    = sym (take-append-drop n text) ∙ ap (λ t. t ++ drop n text) e ∙ ap (λ t. q ∷ t) (append_assoc (spelling_of parts) (q ∷ []) (drop n text)) in
    (q, quote, record { q = q; parts = parts; are = parts_again q parts (q ∷ []) (q ∷ drop n text) refl all; cut = cut; none = no_part_at_quote q (drop n text) quote })

-- at a bad escape
bad_stops : (text : List ℕ) (at : ℕ) → FirstBad text at → (next : List ℕ) × IsBadEscape next × StopsAt text (92 ∷ next)
bad_stops text at (q, parts, next, quote, all, bad, e, is) = (next, bad, record { q = q; parts = parts; are = all; cut = e; none = no_part_at_bad q next bad.1 })

-- at an end
open_stops : (text : List ℕ) → IsOpen text → (next : List ℕ) × (IsEnd next ⊎ (next ≡ 92 ∷ [])) × StopsAt text next
open_stops text (q, parts, next, quote, all, e, inl end) =
    (next, inl end, record { q = q; parts = parts; are = all; cut = e; none = λ x m is same. part_is_no_end is (subst IsEnd (sym same) end) })
open_stops text (q, parts, next, quote, all, e, inr lone) =
    (next, inr lone, record { q = q; parts = parts; are = all; cut = e; none = λ x m is same. part_is_no_lone is (same ∙ lone) })

-- these three are apart
closed_excludes_bad : (text : List ℕ) (n at : ℕ) (value : List ℕ) → IsShortValue (take n text) value → FirstBad text at → ⊥
closed_excludes_bad text n at value closed bad =
    let c = closed_stops text n value closed in
    let b = bad_stops text at bad in
    backslash_is_no_quote c.0 c.1 (sym (first_same c.0 92 (drop n text) b.0 (same_rest text _ _ c.2 b.2)).0)

closed_excludes_open : (text : List ℕ) (n : ℕ) (value : List ℕ) → IsShortValue (take n text) value → IsOpen text → ⊥
closed_excludes_open text n value closed open_there =
    let c = closed_stops text n value closed in
    let o = open_stops text open_there in
    let same = same_rest text _ _ c.2 o.2 in
    elim o.1 [
      | inl end ↦ quote_is_no_line c.0 c.1 (subst IsEnd (sym same) end)
      | inr lone ↦ backslash_is_no_quote c.0 c.1 (sym (first_same c.0 92 (drop n text) [] (same ∙ lone)).0)
    ]

bad_excludes_open : (text : List ℕ) (at : ℕ) → FirstBad text at → IsOpen text → ⊥
bad_excludes_open text at bad open_there =
    let b = bad_stops text at bad in
    let o = open_stops text open_there in
    let same = same_rest text _ _ b.2 o.2 in
    elim o.1 [
      | inl end ↦ false≢true (subst IsEnd (sym same) end)
      | inr lone ↦ b.1.0 (first_same 92 92 b.0 [] (same ∙ lone)).1
    ]

pub one_short_end : (text : List ℕ) (e f : ShortEnd) → IsShortEnd text e → IsShortEnd text f → e ≡ f
one_short_end text (end.Closed n) (end.Closed m) one other = ap end.Closed (same_front text n m one.0 other.0 (inl (short_is_spelled _ one.1.0 one.1.1)) (inl (short_is_spelled _ other.1.0 other.1.1)))
one_short_end text (end.Closed n) (end.Bad at) one other = absurd (closed_excludes_bad text n at one.1.0 one.1.1 other)
one_short_end text (end.Closed n) end.Open one other = absurd (closed_excludes_open text n one.1.0 one.1.1 other)
one_short_end text (end.Bad at) (end.Closed m) one other = absurd (closed_excludes_bad text m at other.1.0 other.1.1 one)
one_short_end text (end.Bad at) (end.Bad at') one other = ap end.Bad (one_bad_place text at at' one other)
one_short_end text (end.Bad at) end.Open one other = absurd (bad_excludes_open text at one other)
one_short_end text end.Open (end.Closed m) one other = absurd (closed_excludes_open text m other.1.0 other.1.1 one)
one_short_end text end.Open (end.Bad at) one other = absurd (bad_excludes_open text at other one)
one_short_end text end.Open end.Open one other = refl

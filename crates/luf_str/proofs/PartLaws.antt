-- Reading a short string part by part.
use Rattle.std.proofs.Common.{◌≡◌, ◌⊎◌, ℕ, suc, ◌+◌, ◌<◌, ◌≤◌, true, List, [], ◌∷◌, ◌++◌, length, get_or, take, drop, refl, sym, ap, subst, ◌∙◌, arith, inl, inr, append_assoc, add-zero}
use Rattle.std.specs.List.{prefix_len}
use Rattle.std.proofs.lemmas.List.Sums.{prefix_len-le-length}
use Rattle.std.proofs.lemmas.Grind.{flat_map-append}
use Rattle.std.proofs.lemmas.List.{append-nil, take-append-drop, length-append, length-take-le, drop-drop, length-drop, take_at}
use Rattle.luf_str.specs.Bytes.{is_quote}
use Rattle.luf_str.specs.Escape.{IsBadEscape}
use Rattle.luf_str.specs.Spelling.{unit_bytes, IsShortSpelling}
use Rattle.luf_str.specs.Value.{IsPart, Part, spelling_of, meaning_of, AreParts, IsShortValue, FirstBad}
use Rattle.luf_str.specs.declared.escapes.Meaning.{Meaning}
use Rattle.luf_str.specs.declared.fronts.Front.{Front}
use Rattle.luf_str.specs.declared.fronts.Front.TheVariants as front
use Rattle.luf_str.specs.Meaning.{bytes_of}
use Rattle.luf_str.specs.Front.{IsFront, IsEnd}
use Rattle.luf_str.proofs.InPlace.{in_place_push, behind_first}
use Rattle.luf_str.specs.ShortEnd.{IsOpen}
use Rattle.luf_str.specs.inner.Reading.{is_ordinary}
use Rattle.luf_str.specs.Value as rule
use Rattle.luf_str.proofs.Leading.{all_leading}
use Rattle.luf_str.proofs.UnitLaws.{AllOrdinary, ordinary_is_plain, AreUnits, IsRest, parts_units, rest_behind, only_quote, rest_is_no_end}
use Rattle.luf_str.proofs.Follows.{parts_again}
use Rattle.luf_str.proofs.Apart.{short_apart, short_is_spelled}

-- The short string in the quotes q is read up to the place at; what was read stands for done, and next is left.
pub record IsReadTo (q : ℕ) (spelling : List ℕ) (at : ℕ) (next done : List ℕ) : Type 0 where
  pub parts : List Part
  pub quote : is_quote q ≡ true
  pub are : AreParts q parts next
  pub text : spelling ≡ q ∷ (spelling_of parts ++ next)
  pub place : at ≡ 1 + length (spelling_of parts)
  pub value : done ≡ meaning_of parts

pub starts : (text : List ℕ) → 0 < length text → is_quote (get_or text 0 0) ≡ true → IsReadTo (get_or text 0 0) text 1 (drop 1 text) []
starts [] some quote = absurd (omega arith)
starts (q ∷ text) some quote = record { parts = []; quote = quote; are = tt; text = refl; place = refl; value = refl }

one_more : (q : ℕ) (spelling : List ℕ) (at : ℕ) (done part next value : List ℕ) → IsReadTo q spelling at (part ++ next) done → IsPart q part next value → IsReadTo q spelling (at + length part) next (done ++ value)
one_more q spelling at done part next value r is =
    let p : Part = record { spelling = part; value = value } in
    let spelled : spelling_of (r.parts ++ p ∷ []) ≡ spelling_of r.parts ++ part = flat_map-append (λ (p : Part). p.spelling) r.parts (p ∷ []) ∙ ap (λ t. spelling_of r.parts ++ t) (append-nil part) in
    let meant : meaning_of (r.parts ++ p ∷ []) ≡ meaning_of r.parts ++ value = flat_map-append (λ (p : Part). p.value) r.parts (p ∷ []) ∙ ap (λ t. meaning_of r.parts ++ t) (append-nil value) in
    record {
      parts = r.parts ++ p ∷ [];
      quote = r.quote;
      are = in_place_push (λ (x : Part) following. IsPart q x.spelling following x.value) (λ (x : Part). x.spelling) r.parts p next r.are is;
      text = r.text ∙ ap (λ t. q ∷ t) (sym (append_assoc (spelling_of r.parts) part next) ∙ ap (λ t. t ++ next) (sym spelled));
      place = omega (arith, r.place, ap length spelled, length-append {A = ℕ});
      value = ap (λ t. t ++ value) r.value ∙ sym meant;
    }

read_part : (q : ℕ) (spelling : List ℕ) (at : ℕ) (done : List ℕ) (n : ℕ) (value : List ℕ) → IsReadTo q spelling at (drop at spelling) done
    → n ≤ length (drop at spelling) → IsPart q (take n (drop at spelling)) (drop n (drop at spelling)) value → IsReadTo q spelling (at + n) (drop (at + n) spelling) (done ++ value)
read_part q spelling at done n value r le is =
    let rest : List ℕ = drop at spelling in
    let more = one_more q spelling at done (take n rest) (drop n rest) value (subst (λ t. IsReadTo q spelling at t done) (sym (take-append-drop n rest)) r) is in
    subst (λ t. IsReadTo q spelling (at + n) t (done ++ value)) (drop-drop n at spelling) (subst (λ k. IsReadTo q spelling (at + k) (drop n rest) (done ++ value)) (length-take-le n rest le) more)

-- a front that is a part is read
pub part_read : (q : ℕ) (spelling : List ℕ) (at : ℕ) (done rest : List ℕ) (n : ℕ) (m : Meaning) → IsReadTo q spelling at (drop at spelling) done → at ≤ length spelling
    → rest ≡ drop at spelling → IsFront q rest (front.Part n m) → (at + n ≤ length spelling) × IsReadTo q spelling (at + n) (drop (at + n) spelling) (done ++ bytes_of m)
part_read q spelling at done rest n m r within is found =
    let part = subst (λ t. IsFront q t (front.Part n m)) is found in
    (omega (arith, part.1, length-drop at spelling), read_part q spelling at done n (bytes_of m) r part.1 part.2)

-- each byte of an ordinary run stands for itself
over_run : (q : ℕ) (spelling : List ℕ) (at : ℕ) (done run next : List ℕ) → IsReadTo q spelling at (run ++ next) done → AllOrdinary run → IsReadTo q spelling (at + length run) next (done ++ run)
over_run q spelling at done [] next r all =
    subst (λ k. IsReadTo q spelling k next (done ++ [])) (sym (add-zero at)) (subst (IsReadTo q spelling at next) (sym (append-nil done)) r)
over_run q spelling at done (b ∷ run) next r all =
    let first = one_more q spelling at done (b ∷ []) (run ++ next) (b ∷ []) r (rule.plain q b (run ++ next) (ordinary_is_plain q b r.quote all.0)) in
    let rest = over_run q spelling (at + 1) (done ++ b ∷ []) run next first all.1 in
    let place : at + 1 + length run ≡ at + suc (length run) = omega arith in
    subst (λ k. IsReadTo q spelling k next (done ++ b ∷ run)) place (subst (IsReadTo q spelling (at + 1 + length run) next) (append_assoc done (b ∷ []) run) rest)

-- the ordinary bytes at the front are read
pub run_read : (q : ℕ) (text : List ℕ) (at : ℕ) (done rest : List ℕ) (n : ℕ) → IsReadTo q text at (drop at text) done → at ≤ length text → rest ≡ drop at text → n ≡ prefix_len is_ordinary rest
    → (at + n ≤ length text) × IsReadTo q text (at + n) (drop (at + n) text) (done ++ take n rest)
run_read q text at done rest n r within is count =
    let k : ℕ = prefix_len is_ordinary rest in
    let le : k ≤ length rest = prefix_len-le-length is_ordinary rest in
    let cut : drop at text ≡ take k rest ++ drop k rest = sym is ∙ sym (take-append-drop k rest) in
    let more = over_run q text at done (take k rest) (drop k rest) (subst (λ t. IsReadTo q text at t done) cut r) (all_leading is_ordinary rest) in
    let behind : drop k rest ≡ drop (at + k) text = ap (drop k) is ∙ drop-drop k at text in
    let moved = subst (λ t. IsReadTo q text (at + k) t (done ++ take k rest)) behind (subst (λ j. IsReadTo q text (at + j) (drop k rest) (done ++ take k rest)) (length-take-le k rest le) more) in
    (omega (arith, ap length is, length-drop at text), subst (λ j. IsReadTo q text (at + j) (drop (at + j) text) (done ++ take j rest)) (sym count) moved)

-- where neither a part, the quote nor a bad escape stands, the string is open
pub stays_open : (q : ℕ) (text : List ℕ) (at : ℕ) (rest done : List ℕ) (f : Front) → IsReadTo q text at (drop at text) done → rest ≡ drop at text → IsFront q rest f
    → (f ≡ front.LoneBackslash) ⊎ (f ≡ front.End) → IsOpen text
stays_open q text at rest done f r is found (inl e) = (q, r.parts, drop at text, r.quote, r.are, r.text, inr (sym is ∙ subst (IsFront q rest) e found))
stays_open q text at rest done f r is found (inr e) = (q, r.parts, drop at text, r.quote, r.are, r.text, inl (subst IsEnd is (subst (IsFront q rest) e found)))

-- what a short string is read up to is the rest of it
is_rest : (q : ℕ) (spelling : List ℕ) (at : ℕ) (next done : List ℕ) → IsShortSpelling spelling → IsReadTo q spelling at next done → IsRest q next
is_rest q spelling at next done (p, quote, (units, cut)) r =
    let same : p ≡ q = ap (λ t. get_or t 0 0) (sym cut.1 ∙ r.text) in
    let moved = subst (λ x. AreUnits x units (x ∷ []) × (spelling ≡ x ∷ (unit_bytes units ++ x ∷ []))) same cut in
    let u = parts_units q r.parts next r.quote r.are in
    let inner : unit_bytes u.0 ++ next ≡ unit_bytes units ++ q ∷ [] = ap (λ t. t ++ next) (sym u.2) ∙ behind_first q _ _ (sym r.text ∙ moved.1) in
    rest_behind q u.0 next r.quote u.1 (units, moved.0, inner)

-- a short string that is read up to a quote has a value
pub ends : (q : ℕ) (spelling : List ℕ) (at : ℕ) (next done behind : List ℕ) → IsShortSpelling spelling → IsReadTo q spelling at next done → next ≡ q ∷ behind → IsShortValue spelling done
ends q spelling at next done behind short r e =
    let close : next ≡ q ∷ [] = only_quote q next r.quote (is_rest q spelling at next done short r) (ap (λ t. get_or t 0 0) e) in
    (q, r.parts, r.quote, subst (AreParts q r.parts) close r.are, r.text ∙ ap (λ t. q ∷ (spelling_of r.parts ++ t)) close, r.value)

-- it does not end before
pub never_open : (q : ℕ) (spelling : List ℕ) (at : ℕ) (next done : List ℕ) → IsShortSpelling spelling → IsReadTo q spelling at next done → IsEnd next ⊎ (next ≡ 92 ∷ []) → ⊥
never_open q spelling at next done short r unclosed = rest_is_no_end q next r.quote (is_rest q spelling at next done short r) unclosed

pub short_is_not_open : (spelling : List ℕ) → IsShortSpelling spelling → IsOpen spelling → ⊥
short_is_not_open spelling short (q, parts, next, quote, all, e, unclosed) =
    never_open q spelling _ next (meaning_of parts) short (record { parts = parts; quote = quote; are = all; text = e; place = refl; value = refl }) unclosed

-- the string up to the quote where it closes has a value
pub closes_at : (q : ℕ) (text : List ℕ) (at : ℕ) (next done behind : List ℕ) → IsReadTo q text at next done → next ≡ q ∷ behind → (at + 1 ≤ length text) × IsShortValue (take (at + 1) text) done
closes_at q text at next done behind r e =
    let whole : List ℕ = q ∷ (spelling_of r.parts ++ q ∷ []) in
    let cut : text ≡ whole ++ behind = r.text ∙ ap (λ t. q ∷ (spelling_of r.parts ++ t)) e ∙ ap (λ t. q ∷ t) (sym (append_assoc (spelling_of r.parts) (q ∷ []) behind)) in
    let long : length whole ≡ at + 1 = omega (arith, r.place, length-append (spelling_of r.parts) (q ∷ [])) in
    let front : take (at + 1) text ≡ whole = ap (take (at + 1)) cut ∙ take_at whole behind (at + 1) long in
    (omega (arith, ap length cut, length-append whole behind), (q, r.parts, r.quote, parts_again q r.parts next (q ∷ []) (ap (λ t. get_or t 0 0) e) r.are, front, r.value))

-- which is the whole of a short string
pub closed_is_whole : (spelling : List ℕ) (n : ℕ) (value : List ℕ) → IsShortSpelling spelling → IsShortValue (take n spelling) value → IsShortValue spelling value
closed_is_whole spelling n value short valued =
    let nothing : drop n spelling ≡ [] = short_apart (take n spelling) (drop n spelling) (short_is_spelled (take n spelling) value valued) (subst IsShortSpelling (sym (take-append-drop n spelling)) short) in
    let whole : take n spelling ≡ spelling = sym (append-nil (take n spelling)) ∙ ap (λ t. take n spelling ++ t) (sym nothing) ∙ take-append-drop n spelling in
    subst (λ t. IsShortValue t value) whole valued

-- a string that is read up to a bad escape has its first bad place there
pub is_bad : (q : ℕ) (spelling : List ℕ) (at : ℕ) (next done behind : List ℕ) → IsReadTo q spelling at next done → next ≡ 92 ∷ behind → IsBadEscape behind → FirstBad spelling at
is_bad q spelling at next done behind r e bad =
    (q, r.parts, behind, r.quote, subst (AreParts q r.parts) e r.are, bad, r.text ∙ ap (λ t. q ∷ (spelling_of r.parts ++ t)) e, r.place)

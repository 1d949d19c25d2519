-- A string has at most one value, and not both a value and a bad escape.
use Rattle.std.proofs.Common.{◌≡◌, ◌≢◌, ℕ, ◌+◌, true, false, List, [], ◌∷◌, ◌++◌, length, get_or, take, drop, map, refl, sym, ap, subst, ◌∙◌, arith, inl, inr}
use Rattle.std.proofs.lemmas.List.{append-nil}
use Rattle.std.proofs.lemmas.Bool.Decides.{nat_tests}
use Rattle.luf_str.specs.declared.escapes.Meaning.{Meaning}
use Rattle.luf_byte.specs.Class.{is_line_byte}
use Rattle.luf_str.specs.Bytes.{is_quote, is_plain}
use Rattle.luf_byte.specs.LineEnd.{IsLineEndBefore, line_end_length}
use Rattle.luf_str.specs.Pieces.{AllInPlace}
use Rattle.luf_str.specs.Escape.{IsEscape, NoEscape}
use Rattle.luf_str.specs.Spelling.{IsUnit, unit_bytes, IsLongOf}
use Rattle.luf_str.specs.Value.{IsPart, IsLongPart, Part, spelling_of, meaning_of, AreParts, AreLongParts, IsDropped, IsLongText, IsShortValue, IsLongValue, IsValue, FirstBad}
use Rattle.luf_str.specs.Value as rule
use Rattle.luf_str.specs.Meaning.{bytes_of}
use Rattle.luf_str.specs.inner.Reading.{unit_length, escape_at}
use Rattle.luf_str.proofs.Leading.{line_end_length-is}
use Rattle.luf_str.proofs.InPlace.{same_cut, same_pieces, IsDetermined, NoPiece}
use Rattle.luf_str.proofs.EscapeLaws.{complete, found}
use Rattle.luf_str.proofs.UnitLaws.{unit_length-is, unit_begins, backslash_is_no_quote, plain_is_no_quote, quote_is_no_bracket}
use Rattle.luf_str.specs.Requote.{requoted_unit, IsShortRequoted, IsRequoted}
use Rattle.luf_str.proofs.LongLaws.{level_is, long_length, body_is}

-- ---- parts of short strings

same_found : (k n : ℕ) (w m : Meaning) → found k w ≡ found n m → (k ≡ n) × (w ≡ m)
same_found k n w m e = let pairs : ◌≡◌ {A = ℕ × Meaning} (k, w) (n, m) = cc in (ap (λ (p : ℕ × Meaning). p.0) pairs, ap (λ (p : ℕ × Meaning). p.1) pairs)

pub same_escape : {e f m n v w : List ℕ} → IsEscape e m v → IsEscape f n w → e ++ m ≡ f ++ n → (e ≡ f) × (m ≡ n) × (v ≡ w)
same_escape {e} {f} {m} {n} is other cut =
    let r = complete is in
    let s = complete other in
    let both = same_found (length e) (length f) r.0 s.0 (sym r.1 ∙ ap escape_at cut ∙ s.1) in
    let split = same_cut e m f n cut both.0 in
    (split.0, split.1, sym r.2 ∙ ap bytes_of both.1 ∙ s.2)

abbrev pub IsPartOf : ℕ → Part → List ℕ → Type 0
IsPartOf q part next = IsPart q part.spelling next part.value

abbrev pub spelled : Part → List ℕ
spelled part = part.spelling

part_is : (x y : Part) → x.spelling ≡ y.spelling → x.value ≡ y.value → x ≡ y
part_is x y e f = ap (λ s. record { spelling = s; value = x.value }) e ∙ ap (λ v. record { spelling = y.spelling; value = v }) f

pub plain_is_no_backslash : (q b : ℕ) → is_plain q b ≡ true → b ≢ 92
plain_is_no_backslash q b h e = grind (arith, nat_tests)

pub first_same : (a b : ℕ) (m n : List ℕ) → a ∷ m ≡ b ∷ n → (a ≡ b) × (m ≡ n)
first_same a b m n e = (cc, cc)

one_byte : (b c : ℕ) → b ≡ c → b ∷ [] ≡ c ∷ []
one_byte b c e = ap (λ x. x ∷ []) e

same_part : {q : ℕ} {p r m n v w : List ℕ} → IsPart q p m v → IsPart q r n w → p ++ m ≡ r ++ n → (p ≡ r) × (m ≡ n) × (v ≡ w)
same_part (rule.plain q b m h) (rule.plain _ c n g) e = let x = first_same b c m n e in (one_byte b c x.0, x.1, one_byte b c x.0)
same_part (rule.plain q b m h) (rule.escape _ f n w g) e = absurd (plain_is_no_backslash q b h (first_same b 92 m (f ++ n) e).0)
same_part (rule.escape q f m v h) (rule.plain _ c n g) e = absurd (plain_is_no_backslash q c g (sym (first_same 92 c (f ++ m) n e).0))
same_part (rule.escape q d m v h) (rule.escape _ f n w g) e = let x = same_escape h g (first_same 92 92 (d ++ m) (f ++ n) e).1 in (ap (λ t. 92 ∷ t) x.0, x.1, x.2)

parts_determined : (q : ℕ) → IsDetermined (IsPartOf q) spelled
parts_determined q x y m n is other e =
    let same = same_part is other e in (part_is x y same.0 same.2, same.1)

part_is_no_quote : {q : ℕ} {p m v next : List ℕ} → is_quote q ≡ true → IsPart q p m v → p ++ m ≡ q ∷ next → ⊥
part_is_no_quote {next = next} quote (rule.plain q b m h) e = plain_is_no_quote q b h (first_same b q m next e).0
part_is_no_quote {next = next} quote (rule.escape q f m v h) e = backslash_is_no_quote q quote (first_same 92 q (f ++ m) next e).0

pub no_part_at_quote : (q : ℕ) (next : List ℕ) → is_quote q ≡ true → NoPiece (IsPartOf q) spelled (q ∷ next)
no_part_at_quote q next quote x m is e = part_is_no_quote quote is e

part_is_not_bad : {q : ℕ} {p m v : List ℕ} (next : List ℕ) → NoEscape next → IsPart q p m v → p ++ m ≡ 92 ∷ next → ⊥
part_is_not_bad next none (rule.plain q b m h) e = plain_is_no_backslash q b h (first_same b 92 m next e).0
part_is_not_bad next none (rule.escape q f m v h) e = none f m v (sym (first_same 92 92 (f ++ m) next e).1) h

pub no_part_at_bad : (q : ℕ) (next : List ℕ) → NoEscape next → NoPiece (IsPartOf q) spelled (92 ∷ next)
no_part_at_bad q next none x m is e = part_is_not_bad next none is e

-- two readings of one short string
pub same_reading : (q : ℕ) (xs ys : List Part) (m n : List ℕ) → AreParts q xs m → AreParts q ys n → NoPiece (IsPartOf q) spelled m → NoPiece (IsPartOf q) spelled n
    → q ∷ (spelling_of xs ++ m) ≡ q ∷ (spelling_of ys ++ n) → (xs ≡ ys) × (m ≡ n)
same_reading q xs ys m n all others stop stop' e = same_pieces (IsPartOf q) spelled (parts_determined q) xs ys m n all others stop stop' (first_same q q (spelling_of xs ++ m) (spelling_of ys ++ n) e).1

-- the quote is the first byte
pub first_is : (q : ℕ) (spelling next : List ℕ) → spelling ≡ q ∷ next → get_or spelling 0 0 ≡ q
first_is q spelling next e = ap (λ t. get_or t 0 0) e

pub one_short_value : (s v w : List ℕ) → IsShortValue s v → IsShortValue s w → v ≡ w
one_short_value s v w (q, xs, quote, all, e, is) (p, ys, quote', others, f, is') =
    let same : p ≡ q = sym (first_is p s _ f) ∙ first_is q s _ e in
    let moved = subst (λ x. AreParts x ys (x ∷ []) × (s ≡ x ∷ (spelling_of ys ++ x ∷ []))) same (others, f) in
    let r = same_reading q xs ys (q ∷ []) (q ∷ []) all moved.0 (no_part_at_quote q [] quote) (no_part_at_quote q [] quote) (sym e ∙ moved.1) in
    is ∙ ap meaning_of r.0 ∙ sym is'

pub one_bad_place : (s : List ℕ) (at at' : ℕ) → FirstBad s at → FirstBad s at' → at ≡ at'
one_bad_place s at at' (q, xs, m, quote, all, none, e, is) (p, ys, n, quote', others, none', f, is') =
    let same : p ≡ q = sym (first_is p s _ f) ∙ first_is q s _ e in
    let moved = subst (λ x. AreParts x ys (92 ∷ n) × (s ≡ x ∷ (spelling_of ys ++ 92 ∷ n))) same (others, f) in
    let r = same_reading q xs ys (92 ∷ m) (92 ∷ n) all moved.0 (no_part_at_bad q m none.1) (no_part_at_bad q n none'.1) (sym e ∙ moved.1) in
    is ∙ ap (λ zs. 1 + length (spelling_of zs)) r.0 ∙ sym is'

pub short_value_excludes_bad : (s v : List ℕ) (at : ℕ) → IsShortValue s v → FirstBad s at → ⊥
short_value_excludes_bad s v at (q, xs, quote, all, e, is) (p, ys, n, quote', others, none, f, is') =
    let same : p ≡ q = sym (first_is p s _ f) ∙ first_is q s _ e in
    let moved = subst (λ x. AreParts x ys (92 ∷ n) × (s ≡ x ∷ (spelling_of ys ++ 92 ∷ n))) same (others, f) in
    let r = same_reading q xs ys (q ∷ []) (92 ∷ n) all moved.0 (no_part_at_quote q [] quote) (no_part_at_bad q n none.1) (sym e ∙ moved.1) in
    backslash_is_no_quote q quote (sym (first_same q 92 [] n r.1).0)

-- ---- long strings

abbrev IsLongPartOf : Part → List ℕ → Type 0
IsLongPartOf part next = IsLongPart part.spelling next part.value

line_length : (b : ℕ) (m : List ℕ) → is_line_byte b ≡ false → line_end_length (b ∷ m) ≡ 0
line_length b m h = rw h refl

line_some : (line next : List ℕ) → IsLineEndBefore line next → length line ≡ 0 → ⊥
line_some [] next h e = h
line_some (a ∷ line) next h e = omega arith

same_long_part : {p r m n v w : List ℕ} → IsLongPart p m v → IsLongPart r n w → p ++ m ≡ r ++ n → (p ≡ r) × (m ≡ n) × (v ≡ w)
same_long_part (rule.in_line b m h) (rule.in_line c n g) e = let x = first_same b c m n e in (one_byte b c x.0, x.1, one_byte b c x.0)
same_long_part (rule.in_line b m h) (rule.line_end line n g) e = absurd (line_some line n g (sym (line_end_length-is line n g) ∙ ap line_end_length (sym e) ∙ line_length b m h))
same_long_part (rule.line_end line m g) (rule.in_line b n h) e = absurd (line_some line m g (sym (line_end_length-is line m g) ∙ ap line_end_length e ∙ line_length b n h))
same_long_part (rule.line_end d m g) (rule.line_end f n h) e =
    let x = same_cut d m f n e (sym (line_end_length-is d m g) ∙ ap line_end_length e ∙ line_end_length-is f n h) in (x.0, x.1, refl)

long_parts_determined : IsDetermined IsLongPartOf spelled
long_parts_determined x y m n is other e = let same = same_long_part is other e in (part_is x y same.0 same.2, same.1)

long_part_some : {p m v : List ℕ} → IsLongPart p m v → p ++ m ≡ [] → ⊥
long_part_some (rule.in_line b m h) e = absurd cc
long_part_some (rule.line_end [] m g) e = g
long_part_some (rule.line_end (a ∷ line) m g) e = absurd cc

-- what is dropped at the front has this length
dropped_length : (dropped next : List ℕ) → IsDropped dropped next → line_end_length (dropped ++ next) ≡ length dropped
dropped_length [] [] h = refl
dropped_length [] (b ∷ next) h = line_length b next h
dropped_length (a ∷ dropped) next h = line_end_length-is (a ∷ dropped) next h

one_long_text : (body v w : List ℕ) → IsLongText body v → IsLongText body w → v ≡ w
one_long_text body v w (d, xs, e, first, all, is) (f, ys, e', first', others, is') =
    let lengths : length d ≡ length f = sym (dropped_length d (spelling_of xs) first) ∙ ap line_end_length (sym e ∙ e') ∙ dropped_length f (spelling_of ys) first' in
    let cut = same_cut d (spelling_of xs) f (spelling_of ys) (sym e ∙ e') lengths in
    let r = same_pieces IsLongPartOf spelled long_parts_determined xs ys [] [] all others (λ x m is e. long_part_some is e) (λ x m is e. long_part_some is e) (append-nil (spelling_of xs) ∙ cut.1 ∙ sym (append-nil (spelling_of ys))) in
    is ∙ ap meaning_of r.0 ∙ sym is'

same_body : (s : List ℕ) (n m : ℕ) (body other : List ℕ) → IsLongOf n body s → IsLongOf m other s → body ≡ other
same_body s n m body other long long' =
    let level : n ≡ m = sym (level_is n body s long) ∙ level_is m other s long' in
    let lengths : length body ≡ length other = omega (arith, long_length n body s long, long_length m other s long') in
    sym (body_is n body s long (length body) refl) ∙ ap (λ k. take (length body) (drop (k + 2) s)) level ∙ body_is m other s long' (length body) lengths

pub long_is_not_short : (q : ℕ) (s next : List ℕ) (n : ℕ) (body : List ℕ) → is_quote q ≡ true → s ≡ q ∷ next → IsLongOf n body s → ⊥
long_is_not_short q s next n body quote e long = quote_is_no_bracket q quote (sym (first_is 91 s _ long.0) ∙ first_is q s next e)

pub one_value : (s v w : List ℕ) → IsValue s v → IsValue s w → v ≡ w
one_value s v w (inl x) (inl y) = one_short_value s v w x y
one_value s v w (inl x) (inr y) = absurd (long_is_not_short x.0 s _ y.0 y.1 x.2 x.4 y.2)
one_value s v w (inr x) (inl y) = absurd (long_is_not_short y.0 s _ x.0 x.1 y.2 y.4 x.2)
one_value s v w (inr x) (inr y) = one_long_text x.1 v w x.3 (subst (λ b. IsLongText b w) (sym (same_body s x.0 y.0 x.1 y.1 x.2 y.2)) y.3)

pub value_excludes_bad : (s v : List ℕ) (at : ℕ) → IsValue s v → FirstBad s at → ⊥
value_excludes_bad s v at (inl x) bad = short_value_excludes_bad s v at x bad
value_excludes_bad s v at (inr x) bad = long_is_not_short bad.0 s _ x.0 x.1 bad.3 bad.6 x.2

-- ---- units

abbrev same_bytes : List ℕ → List ℕ
same_bytes unit = unit

units_determined : (q : ℕ) → IsDetermined (IsUnit q) same_bytes
units_determined q u w m n is is' e = same_cut u m w n e (sym (unit_length-is is) ∙ ap unit_length e ∙ unit_length-is is')

no_unit_at_quote : (q : ℕ) (next : List ℕ) → is_quote q ≡ true → NoPiece (IsUnit q) same_bytes (q ∷ next)
no_unit_at_quote q next quote u m is e = unit_begins quote is (ap (λ t. get_or t 0 0) e)

one_short_requoted : (s : List ℕ) (q : ℕ) (t u : List ℕ) → IsShortRequoted s q t → IsShortRequoted s q u → t ≡ u
one_short_requoted s q t u (p, us, quote, cut, e) (r, ws, quote', cut', f) =
    let same : r ≡ p = sym (first_is r s _ cut'.1) ∙ first_is p s _ cut.1 in
    let moved = subst (λ x. AllInPlace (IsUnit x) same_bytes ws (x ∷ []) × (s ≡ x ∷ (unit_bytes ws ++ x ∷ []))) same cut' in
    let inner = (first_same p p (unit_bytes us ++ p ∷ []) (unit_bytes ws ++ p ∷ []) (sym cut.1 ∙ moved.1)).1 in
    let units = same_pieces (IsUnit p) same_bytes (units_determined p) us ws (p ∷ []) (p ∷ []) cut.0 moved.0 (no_unit_at_quote p [] quote) (no_unit_at_quote p [] quote) inner in
    e ∙ ap (λ xs. q ∷ (unit_bytes (map (requoted_unit q) xs) ++ q ∷ [])) units.0 ∙ sym f

pub one_requoted : (s : List ℕ) (q : ℕ) (t u : List ℕ) → IsRequoted s q t → IsRequoted s q u → t ≡ u
one_requoted s q t u (inl x) (inl y) = one_short_requoted s q t u x y
one_requoted s q t u (inl x) (inr y) = absurd (long_is_not_short x.0 s _ y.0.0 y.0.1 x.2 x.3.1 y.0.2)
one_requoted s q t u (inr x) (inl y) = absurd (long_is_not_short y.0 s _ x.0.0 x.0.1 y.2 y.3.1 x.0.2)
one_requoted s q t u (inr x) (inr y) = x.1 ∙ sym y.1

-- Reading a long string.
use Rattle.std.proofs.Common.{◌≡◌, ℕ, zero, suc, ◌+◌, ◌-◌, ◌<◌, ◌≤◌, Bool, true, false, cond, List, [], ◌∷◌, ◌++◌, length, get_or, take, drop, replicate, refl, sym, ap, subst, ◌∙◌, arith, inl, inr, append_assoc, add-zero}
use Rattle.std.specs.Prelude.{IsTrue, ◌==◌}
use Rattle.std.specs.List.{AllByRecursion, prefix_len}
use Rattle.std.proofs.lemmas.Grind.{flat_map-append}
use Rattle.std.proofs.lemmas.List.{append-nil, take-append-drop, length-append, length-replicate, drop-drop, take_at, drop_at, nil_from_length, get_or-drop, get_or-take, length-drop, length-take-le}
use Rattle.std.proofs.lemmas.Bool.{cases_lt, false≢true, false_from_ne_true}
use Rattle.memchr.specs.Find.{Nowhere, NoneBefore, Passes}
use Rattle.luf_byte.specs.Class.{is_line_byte}
use Rattle.luf_byte.specs.LineEnd.{is_line_pair, IsLineEndBefore, line_end_length}
use Rattle.luf_str.specs.Spelling.{opening, closing, IsLongOf, IsLongSpelling}
use Rattle.luf_str.specs.Value.{IsLongPart, Part, spelling_of, meaning_of, AreLongParts, IsDropped, IsLongText}
use Rattle.luf_str.specs.Value as rule
use Rattle.luf_str.proofs.Leading.{prefix_len-whole, line_end-reads}
use Rattle.luf_str.proofs.InPlace.{in_place_push}
use Rattle.luf_str.proofs.UnitLaws.{when_true}

-- ---- the brackets

pub all_equals : (n : ℕ) → AllByRecursion (λ b. IsTrue (b == 61)) (replicate n 61)
all_equals zero = tt
all_equals (suc n) = (refl, all_equals n)

pub opening_length : (n : ℕ) → length (opening n) ≡ n + 2
opening_length n = omega (arith, length-append {A = ℕ} (replicate n 61) (91 ∷ []), length-replicate {A = ℕ} n 61)

pub closing_length : (n : ℕ) → length (closing n) ≡ n + 2
closing_length n = omega (arith, length-append {A = ℕ} (replicate n 61) (93 ∷ []), length-replicate {A = ℕ} n 61)

-- the level is read off the front, and the body by its length
pub level_front : (n : ℕ) (next : List ℕ) → prefix_len (λ b. b == 61) (drop 1 (opening n ++ next)) ≡ n
level_front n next =
    ap (prefix_len (λ b. b == 61)) (append_assoc (replicate n 61) (91 ∷ []) next) ∙ prefix_len-whole (λ b. b == 61) (replicate n 61) (91 ∷ next) (all_equals n) refl ∙ length-replicate {A = ℕ} n 61

pub level_is : (n : ℕ) (body spelling : List ℕ) → IsLongOf n body spelling → prefix_len (λ b. b == 61) (drop 1 spelling) ≡ n
level_is n body spelling long = ap (λ t. prefix_len (λ b. b == 61) (drop 1 t)) long.0 ∙ level_front n (body ++ closing n)

pub long_length : (n : ℕ) (body spelling : List ℕ) → IsLongOf n body spelling → length spelling ≡ n + 2 + length body + (n + 2)
long_length n body spelling long = omega (arith, ap length long.0, length-append (opening n) (body ++ closing n), length-append body (closing n), opening_length n, closing_length n)

pub body_is : (n : ℕ) (body spelling : List ℕ) → IsLongOf n body spelling → (k : ℕ) → k ≡ length body → take k (drop (n + 2) spelling) ≡ body
body_is n body spelling long k e =
    let behind : drop (n + 2) spelling ≡ body ++ closing n = ap (drop (n + 2)) long.0 ∙ drop_at (opening n) (body ++ closing n) (n + 2) (opening_length n) in
    ap (take k) behind ∙ take_at body (closing n) k (sym e)

level_cuts : (spelling : List ℕ) (level m : ℕ) (body : List ℕ) → level ≡ m → IsLongOf m body spelling → take (length spelling - (level + 2) - (level + 2)) (drop (level + 2) spelling) ≡ body
level_cuts spelling level m body e long =
    let k : length spelling - (level + 2) - (level + 2) ≡ length body = omega (arith, long_length m body spelling long) in
    ap (λ x. take (length spelling - (level + 2) - (level + 2)) (drop (x + 2) spelling)) e ∙ body_is m body spelling long _ k

pub level_fits : (spelling rest : List ℕ) (level : ℕ) → IsLongSpelling spelling → rest ≡ drop 1 spelling → level ≡ prefix_len (λ b. b == 61) rest
    → (level + 2 + (level + 2) ≤ length spelling) × ((n : ℕ) (body : List ℕ) → IsLongOf n body spelling → take (length spelling - (level + 2) - (level + 2)) (drop (level + 2) spelling) ≡ body)
level_fits spelling rest level (n, body, long) e l =
    let is : level ≡ n = l ∙ ap (prefix_len (λ b. b == 61)) e ∙ level_is n body spelling long in
    (omega (arith, long_length n body spelling long), λ m other long'. level_cuts spelling level m other (l ∙ ap (prefix_len (λ b. b == 61)) e ∙ level_is m other spelling long') long')

-- ---- the body

-- The body is read up to next; what was read stands for done.
pub record IsLongReadTo (body next done : List ℕ) : Type 0 where
  pub dropped : List ℕ
  pub parts : List Part
  pub text : body ≡ dropped ++ (spelling_of parts ++ next)
  pub first : IsDropped dropped (spelling_of parts ++ next)
  pub are : AreLongParts parts next
  pub value : done ≡ meaning_of parts

dropped_line : (line next : List ℕ) → IsLineEndBefore line next → IsDropped line next
dropped_line [] next h = absurd h
dropped_line (a ∷ line) next h = h

pub long_starts : (body : List ℕ) → IsLongReadTo body (drop (line_end_length body) body) []
long_starts [] = record { dropped = []; parts = []; text = refl; first = tt; are = tt; value = refl }
long_starts (a ∷ body) =
    elim (is_line_byte a) as (λ t. is_line_byte a ≡ t → IsLongReadTo (a ∷ body) (drop (line_end_length (a ∷ body)) (a ∷ body)) []) [
      | true ↦ λ yes. let line = line_end-reads a body yes in
          record { dropped = take (line_end_length (a ∷ body)) (a ∷ body); parts = []; text = sym (take-append-drop (line_end_length (a ∷ body)) (a ∷ body)); first = dropped_line _ _ line.1; are = tt; value = refl }
      | false ↦ λ no. let none : line_end_length (a ∷ body) ≡ 0 = rw no refl in
          subst (λ n. IsLongReadTo (a ∷ body) (drop n (a ∷ body)) []) (sym none) (record { dropped = []; parts = []; text = refl; first = no; are = tt; value = refl })
    ] refl

one_more : (body done part next value : List ℕ) → IsLongReadTo body (part ++ next) done → IsLongPart part next value → IsLongReadTo body next (done ++ value)
one_more body done part next value r is =
    let p : Part = record { spelling = part; value = value } in
    let spelled : spelling_of (r.parts ++ p ∷ []) ≡ spelling_of r.parts ++ part = flat_map-append (λ (p : Part). p.spelling) r.parts (p ∷ []) ∙ ap (λ t. spelling_of r.parts ++ t) (append-nil part) in
    let meant : meaning_of (r.parts ++ p ∷ []) ≡ meaning_of r.parts ++ value = flat_map-append (λ (p : Part). p.value) r.parts (p ∷ []) ∙ ap (λ t. meaning_of r.parts ++ t) (append-nil value) in
    let regrouped : spelling_of r.parts ++ (part ++ next) ≡ spelling_of (r.parts ++ p ∷ []) ++ next = sym (append_assoc (spelling_of r.parts) part next) ∙ ap (λ t. t ++ next) (sym spelled) in
    record {
      dropped = r.dropped;
      parts = r.parts ++ p ∷ [];
      text = r.text ∙ ap (λ t. r.dropped ++ t) regrouped;
      first = subst (IsDropped r.dropped) regrouped r.first;
      are = in_place_push (λ (x : Part) following. IsLongPart x.spelling following x.value) (λ (x : Part). x.spelling) r.parts p next r.are is;
      value = ap (λ t. t ++ value) r.value ∙ sym meant;
    }

-- a run of bytes of no line end is read
over_run : (body done run next : List ℕ) → IsLongReadTo body (run ++ next) done → ((j : ℕ) → j < length run → is_line_byte (get_or run j 0) ≡ false) → IsLongReadTo body next (done ++ run)
over_run body done [] next r none = subst (IsLongReadTo body next) (sym (append-nil done)) r
over_run body done (b ∷ run) next r none =
    let first = one_more body done (b ∷ []) (run ++ next) (b ∷ []) r (rule.in_line b (run ++ next) (none 0 (omega arith))) in
    subst (IsLongReadTo body next) (append_assoc done (b ∷ []) run) (over_run body (done ++ b ∷ []) run next first (λ j below. none (suc j) (omega arith)))

two_or_one : (b : Bool) → cond {A = ℕ} b 2 1 ≡ 0 → ⊥
two_or_one true e = omega arith
two_or_one false e = omega arith

pub long_line : (text : List ℕ) → 0 < line_end_length text → IsLongPart (take (line_end_length text) text) (drop (line_end_length text) text) (10 ∷ [])
long_line [] some = absurd (omega arith)
long_line (a ∷ text) some =
    elim (is_line_byte a) as (λ t. is_line_byte a ≡ t → IsLongPart (take (line_end_length (a ∷ text)) (a ∷ text)) (drop (line_end_length (a ∷ text)) (a ∷ text)) (10 ∷ [])) [
      | true ↦ λ yes. rule.line_end _ _ (line_end-reads a text yes).1
      | false ↦ λ no. let none : line_end_length (a ∷ text) ≡ 0 = rw no refl in absurd (omega arith)
    ] refl

pub long_ends : (body next done : List ℕ) → IsLongReadTo body next done → length next ≡ 0 → IsLongText body done
long_ends body next done r e =
    let none : next ≡ [] = nil_from_length next e in
    let spelled : spelling_of r.parts ++ next ≡ spelling_of r.parts = ap (λ t. spelling_of r.parts ++ t) none ∙ append-nil (spelling_of r.parts) in
    (r.dropped, r.parts, r.text ∙ ap (λ t. r.dropped ++ t) spelled, subst (IsDropped r.dropped) spelled r.first, subst (AreLongParts r.parts) none r.are, r.value)

not_passed : (rest : List ℕ) (j : ℕ) → ¬ (Passes is_line_byte rest j) → is_line_byte (get_or rest j 0) ≡ false
not_passed rest j none = false_from_ne_true (is_line_byte (get_or rest j 0)) none

line_is_some : (text : List ℕ) → is_line_byte (get_or text 0 0) ≡ true → (0 < line_end_length text) × (line_end_length text ≤ length text)
line_is_some [] line = absurd (false≢true line)
line_is_some (a ∷ text) line =
    let e : line_end_length (a ∷ text) ≡ cond (is_line_pair a (get_or text 0 0)) 2 1 = when_true _ _ _ line in
    (elim (cases_lt 0 (line_end_length (a ∷ text))) [ inl some ↦ some | inr none ↦ absurd (two_or_one _ (sym e ∙ omega arith)) ], (line_end-reads a text line).0)

-- a line and the line end behind it are read
pub over_line : (body done rest : List ℕ) (at line m : ℕ) → IsLongReadTo body (drop at body) done → rest ≡ drop at body → NoneBefore (Passes is_line_byte rest) 0 (length rest) line → Passes is_line_byte rest line
    → m ≡ line_end_length (drop line rest) → (at + (line + m) ≤ length body) × (0 < m) × IsLongReadTo body (drop (at + (line + m)) body) ((done ++ take line rest) ++ 10 ∷ [])
over_line body done rest at line m r is none here count =
    let next : List ℕ = drop line rest in
    let first : get_or next 0 0 ≡ get_or rest line 0 = get_or-drop line rest 0 0 ∙ ap (λ i. get_or rest i 0) (add-zero line) in
    let some = line_is_some next (ap is_line_byte first ∙ here) in
    let cut : drop at body ≡ take line rest ++ next = sym is ∙ sym (take-append-drop line rest) in
    let size : length (take line rest) ≡ line = length-take-le line rest (omega (arith, none.high)) in
    let run = over_run body done (take line rest) next (subst (λ t. IsLongReadTo body t done) cut r)
    (λ j below. ap is_line_byte (get_or-take line rest j 0 (omega (arith, size))) ∙ not_passed rest j (none.before j (omega arith) (omega (arith, size)))) in
    let k : ℕ = line_end_length next in
    let over = one_more body (done ++ take line rest) (take k next) (drop k next) (10 ∷ []) (subst (λ t. IsLongReadTo body t (done ++ take line rest)) (sym (take-append-drop k next)) run) (long_line next some.0) in
    let behind : drop k next ≡ drop (at + (line + k)) body = drop-drop k line rest ∙ ap (drop (line + k)) is ∙ drop-drop (line + k) at body in
    let moved = subst (λ t. IsLongReadTo body t ((done ++ take line rest) ++ 10 ∷ [])) behind over in
    let room : line + k ≤ length rest = omega (arith, some.1, none.high, length-drop line rest) in
    subst (λ x. (at + (line + x) ≤ length body) × (0 < x) × IsLongReadTo body (drop (at + (line + x)) body) ((done ++ take line rest) ++ 10 ∷ [])) (sym count)
    (omega (arith, ap length is, length-drop at body, none.high), some.0, moved)

-- a last line, behind which no line end stands, ends the body
pub last_line : (body done rest : List ℕ) (at : ℕ) → IsLongReadTo body (drop at body) done → rest ≡ drop at body → Nowhere (Passes is_line_byte rest) 0 (length rest) → IsLongText body (done ++ rest)
last_line body done rest at r is nowhere =
    let whole : IsLongReadTo body (rest ++ []) done = subst (λ t. IsLongReadTo body t done) (sym is ∙ sym (append-nil rest)) r in
    long_ends body [] (done ++ rest) (over_run body done rest [] whole (λ j below. not_passed rest j (nowhere j (omega arith) below))) refl

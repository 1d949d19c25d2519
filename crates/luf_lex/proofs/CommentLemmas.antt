-- Comments at the front of a text.
use Rattle.std.proofs.Common.{◌≡◌, ℕ, zero, suc, ◌-◌, ◌<◌, ◌≤◌, ◌⊎◌, true, false, List, [], ◌∷◌, length, get_or, take, drop, refl, sym, ap, subst, ◌∙◌, arith, inl, inr}
use Rattle.std.proofs.lemmas.List.Sums.{prefix_len-le-length}
use Rattle.std.proofs.lemmas.Bool.{cases_lt, false≢true, false_from_ne_true, and_parts}
use Rattle.luf_lex.proofs.RunLemmas.{passing_front, front_passes}
use Rattle.std.specs.List.{list_all, prefix_len}
use Rattle.std.proofs.lemmas.Bool.Decides.{nat_tests}
use Rattle.std.proofs.lemmas.List.{take-append-drop, take_rest}
use Rattle.memchr.specs.Find.{is_byte2}
use Rattle.luf_str.specs.Spelling.{IsLongSpelling}
use Rattle.luf_byte.specs.Class.{in_line}
use Rattle.luf_str.specs.LongEnd.{opens_long, IsOpenLong}
use Rattle.luf_lex.specs.Spelling.{IsShortComment, IsLongComment}
use Rattle.luf_lex.specs.First.{group_of, IsFirst, IsFault}
use Rattle.luf_lex.specs.declared.group.Group.TheVariants.{Commented}
use Rattle.luf_lex.specs.First as fault
use Rattle.luf_lex.specs.declared.fault.LexWhat.TheVariants.{OpenLong}
use Rattle.luf_lex.specs.declared.token.Kind.TheVariants.{Comment}
use Rattle.luf_str.proofs.BracketLaws.{opens_more, long_opens}
use Rattle.luf_lex.proofs.LoneKind.{commented_kind, commented_cut, first_alone, longer_front, fronts_apart}

-- ---- bytes that are in a line

in_line_of : (b : ℕ) → (is_byte2 10 13 b ≡ true → ⊥) → in_line b ≡ true
in_line_of b h = let e : is_byte2 10 13 b ≡ false = false_from_ne_true _ h in grind (arith, nat_tests)

ends_line : (b : ℕ) → is_byte2 10 13 b ≡ true → in_line b ≡ true → ⊥
ends_line b h plain = grind (arith, nat_tests)

-- a front in which none is found
pub all_in_line : (text : List ℕ) (n : ℕ) → n ≤ length text → ((k : ℕ) → k < n → is_byte2 10 13 (get_or text k 0) ≡ true → ⊥) → list_all in_line (take n text) ≡ true
all_in_line text zero within none = refl
all_in_line [] (suc n) within none = absurd (omega arith)
all_in_line (b ∷ text) (suc n) within none = rw (in_line_of b (none 0 (omega arith)), all_in_line text n (omega arith) (λ k below. none (suc k) (omega arith))) refl

-- one that is found is in no longer front of such bytes
pub not_all_in_line : (text : List ℕ) (n m : ℕ) → n < m → m ≤ length text → is_byte2 10 13 (get_or text n 0) ≡ true → list_all in_line (take m text) ≡ true → ⊥
not_all_in_line text n zero more within found each = omega arith
not_all_in_line [] n (suc m) more within found each = omega arith
not_all_in_line (b ∷ text) zero (suc m) more within found each = ends_line b found (and_parts (in_line b) (list_all in_line (take m text)) each).0
not_all_in_line (b ∷ text) (suc n) (suc m) more within found each = not_all_in_line text n m (omega arith) (omega arith) found (and_parts (in_line b) (list_all in_line (take m text)) each).1

-- bytes of a line, up to the first that is not, are the longest run of such
pub line_run : (text : List ℕ) (n : ℕ) → n ≤ length text → list_all in_line (take n text) ≡ true → ((m : ℕ) → n < m → m ≤ length text → list_all in_line (take m text) ≡ true → ⊥) → n ≡ prefix_len in_line text
line_run text n within each longest = by_order (cases_lt n (prefix_len in_line text))
  where
    by_order : (n < prefix_len in_line text) ⊎ (prefix_len in_line text ≤ n) → n ≡ prefix_len in_line text
    by_order (inl less) = absurd (longest (prefix_len in_line text) less (prefix_len-le-length in_line text) (front_passes in_line text))
    by_order (inr more) = omega (arith, more, passing_front in_line text n within each)

-- ---- the fronts of a comment

opens_longer : (text : List ℕ) (n m : ℕ) → n ≤ m → opens_long (take n text) ≡ true → opens_long (take m text) ≡ true
opens_longer text n m le h = ap opens_long (longer_front text n m le) ∙ opens_more (take n text) (drop n (take m text)) h

opens_whole : (text : List ℕ) (n : ℕ) → opens_long (take n text) ≡ true → opens_long text ≡ true
opens_whole text n h = ap opens_long (sym (take-append-drop n text)) ∙ opens_more (take n text) (drop n text) h

behind_dashes : (a b : List ℕ) → 45 ∷ 45 ∷ a ≡ 45 ∷ 45 ∷ b → a ≡ b
behind_dashes a b e = ap (drop 2) e

short_behind : (rest : List ℕ) → IsShortComment (45 ∷ 45 ∷ rest) → (opens_long rest ≡ false) × (list_all in_line rest ≡ true)
short_behind rest c =
    let e : rest ≡ c.rest = behind_dashes rest c.rest c.spelled in
    (subst (λ t. opens_long t ≡ false) (sym e) c.plain, subst (λ t. list_all in_line t ≡ true) (sym e) c.each)

long_behind : (rest : List ℕ) → IsLongComment (45 ∷ 45 ∷ rest) → IsLongSpelling rest
long_behind rest c = subst IsLongSpelling (sym (behind_dashes rest c.rest c.spelled)) c.long

-- no longer front is a comment
abbrev IsLongest : List ℕ → ℕ → Type 0
IsLongest text n = (m : ℕ) → n < m → m ≤ length text → IsShortComment (take m text) ⊎ IsLongComment (take m text) → ⊥

short_longest : (rest : List ℕ) (k : ℕ) → opens_long rest ≡ false → ((m : ℕ) → k < m → m ≤ length rest → list_all in_line (take m rest) ≡ true → ⊥) → IsLongest (45 ∷ 45 ∷ rest) (suc (suc k))
short_longest rest k plain ends zero more within is = omega arith
short_longest rest k plain ends (suc zero) more within is = omega arith
short_longest rest k plain ends (suc (suc m)) more within (inl c) = ends m (omega arith) (omega arith) (short_behind (take m rest) c).1
short_longest rest k plain ends (suc (suc m)) more within (inr c) = false≢true (sym plain ∙ opens_whole rest m (long_opens (take m rest) (long_behind (take m rest) c)))

long_longest : (rest : List ℕ) (k : ℕ) → IsLongSpelling (take k rest) → IsLongest (45 ∷ 45 ∷ rest) (suc (suc k))
long_longest rest k long zero more within is = omega arith
long_longest rest k long (suc zero) more within is = omega arith
long_longest rest k long (suc (suc m)) more within (inl c) = false≢true (sym (short_behind (take m rest) c).0 ∙ opens_longer rest k m (omega arith) (long_opens (take k rest) long))
long_longest rest k long (suc (suc m)) more within (inr c) = fronts_apart rest k m (omega arith) (omega arith) (inr long) (inr (long_behind (take m rest) c))

first_comment : (rest : List ℕ) (k : ℕ) → k ≤ length rest → IsShortComment (45 ∷ 45 ∷ take k rest) ⊎ IsLongComment (45 ∷ 45 ∷ take k rest) → (opens_long rest ≡ true → IsLongComment (45 ∷ 45 ∷ take k rest)) → IsLongest (45 ∷ 45 ∷ rest) (suc (suc k)) → IsFirst (45 ∷ 45 ∷ rest) Comment (suc (suc k))
first_comment rest k within spelled long longest = first_alone (45 ∷ 45 ∷ rest) Commented Comment (suc (suc k)) refl refl commented_kind (λ f. absurd cc) (λ f. long) (omega arith) (omega arith) spelled longest

-- ---- at a text that begins with `--`, by what stands behind it

-- the code's text behind the dashes
pub behind : (text rest : List ℕ) → group_of text ≡ Commented → rest ≡ take (length text - 2) (drop 2 text) → 45 ∷ 45 ∷ rest ≡ text
behind text rest e is = ap (λ t. 45 ∷ 45 ∷ t) (is ∙ take_rest text 2) ∙ sym (commented_cut text e)

pub short_comment : (text rest : List ℕ) (n k : ℕ) → 45 ∷ 45 ∷ rest ≡ text → n ≡ suc (suc k) → opens_long rest ≡ false → k ≤ length rest → list_all in_line (take k rest) ≡ true
    → ((m : ℕ) → k < m → m ≤ length rest → list_all in_line (take m rest) ≡ true → ⊥) → IsFirst text Comment n
short_comment text rest n k e is plain within each ends =
    let still : opens_long (take k rest) ≡ false = false_from_ne_true _ (λ h. false≢true (sym plain ∙ opens_whole rest k h)) in
    let first = first_comment rest k within (inl (record { rest = take k rest; spelled = refl; plain = still; each = each })) (λ opens. absurd (false≢true (sym plain ∙ opens))) (short_longest rest k plain ends) in
    subst (λ t. IsFirst t Comment n) e (subst (λ i. IsFirst (45 ∷ 45 ∷ rest) Comment i) (sym is) first)

pub long_comment : (text rest : List ℕ) (n k : ℕ) → 45 ∷ 45 ∷ rest ≡ text → n ≡ suc (suc k) → k ≤ length rest → IsLongSpelling (take k rest) → IsFirst text Comment n
long_comment text rest n k e is within long =
    let first = first_comment rest k within (inr (record { rest = take k rest; spelled = refl; long = long })) (λ opens. record { rest = take k rest; spelled = refl; long = long }) (long_longest rest k long) in
    subst (λ t. IsFirst t Comment n) e (subst (λ i. IsFirst (45 ∷ 45 ∷ rest) Comment i) (sym is) first)

pub open_comment : (text rest : List ℕ) → 45 ∷ 45 ∷ rest ≡ text → IsOpenLong rest → IsFault text OpenLong
open_comment text rest e unclosed = subst (λ t. IsFault t OpenLong) e (fault.open_comment rest unclosed)

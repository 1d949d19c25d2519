-- A text has at most one length of its first piece, and none where it has a fault.
use Rattle.std.proofs.Common.{◌≡◌, ◌≢◌, ℕ, zero, suc, ◌<◌, ◌⊎◌, true, false, List, [], ◌∷◌, ◌++◌, length, take, drop, refl, sym, ap, subst, ◌∙◌, arith, inl, inr, append_assoc}
use Rattle.std.proofs.lemmas.Bool.{cases_order, false≢true, and_parts, eqb-true}
use Rattle.std.proofs.lemmas.Bool.Decides.{nat_tests}
use Rattle.std.proofs.lemmas.List.{take-append-drop}
use Rattle.luf_num.specs.Numeral.{HasNumeralForm}
use Rattle.luf_byte.specs.Class.{is_line_byte}
use Rattle.luf_str.specs.Bytes.{is_quote, is_plain}
use Rattle.luf_byte.specs.LineEnd.{IsLineEndBefore}
use Rattle.luf_str.specs.Escape.{IsEscape, NoEscape, IsBadEscape}
use Rattle.luf_str.specs.Escape as escape_rule
use Rattle.luf_str.specs.Value.{IsPart, Part, spelling_of, AreParts}
use Rattle.luf_str.specs.Value as part_rule
use Rattle.luf_str.specs.Spelling.{IsLongSpelling}
use Rattle.luf_str.specs.Front.{IsEnd}
use Rattle.luf_str.specs.ShortEnd.{IsShortEnd}
use Rattle.luf_str.specs.declared.ends.ShortEnd.TheVariants as end
use Rattle.luf_str.proofs.InPlace.{same_pieces, IsDetermined, NoPiece}
use Rattle.luf_str.proofs.UnitLaws.{backslash_is_no_quote}
use Rattle.luf_str.proofs.Unique.{IsPartOf, spelled, same_escape}
use Rattle.luf_str.specs.LongEnd.{opens_long, IsOpenLong}
use Rattle.luf_lex.specs.Spelling.{IsLongComment, IsShortString}
use Rattle.luf_lex.specs.First.{group_of, is_tried, numeral_length, IsFirst, HasNone, IsFault}
use Rattle.luf_lex.specs.declared.group.Group.{Group}
use Rattle.luf_lex.specs.declared.group.Group.TheVariants.{Quoted, Bracketed, Commented, Numeric, Other}
use Rattle.luf_lex.specs.First as fault
use Rattle.luf_lex.specs.declared.fault.LexWhat.{LexWhat}
use Rattle.luf_lex.specs.declared.fault.LexWhat.TheVariants.{NoToken, BadNumeral, BadEscape, OpenString, OpenLong}
use Rattle.luf_lex.specs.declared.token.Tok.TheVariants.{Number, Short, Long}
use Rattle.luf_lex.specs.declared.token.Kind.{Kind}
use Rattle.luf_lex.specs.declared.token.Kind.TheVariants.{Token}
use Rattle.luf_lex.proofs.LoneKind.{quoted_kind, bracketed_kind, none_alone}
use Rattle.luf_str.proofs.Follows.{parts_again}

pub one_length : (text : List ℕ) (k j : Kind) (m n : ℕ) → IsFirst text k m → IsFirst text j n → m ≡ n
one_length text k j m n a b = by_order (cases_order m n)
  where
    by_order : (m ≡ n) ⊎ ((m < n) ⊎ (n < m)) → m ≡ n
    by_order (inl e) = e
    by_order (inr (inl l)) = absurd (a.longest (λ numeric. omega (arith, l, a.numeral numeric, b.numeral numeric)) j n b.tried l b.within b.spelled)
    by_order (inr (inr l)) = absurd (b.longest (λ numeric. omega (arith, l, a.numeral numeric, b.numeral numeric)) k m a.tried l a.within a.spelled)

-- ---- which part stands at the front of a text

first_same : (a b : ℕ) (m n : List ℕ) → a ∷ m ≡ b ∷ n → (a ≡ b) × (m ≡ n)
first_same a b m n e = (cc, cc)

one_byte : (b c : ℕ) → b ≡ c → b ∷ [] ≡ c ∷ []
one_byte b c e = ap (λ x. x ∷ []) e

plain_is_no_backslash : (q b : ℕ) → is_plain q b ≡ true → b ≢ 92
plain_is_no_backslash q b h e = grind (arith, nat_tests)

plain_is_no_quote : (q b : ℕ) → is_plain q b ≡ true → b ≢ q
plain_is_no_quote q b h e = grind (arith, nat_tests)

plain_is_in_line : (q b : ℕ) → is_plain q b ≡ true → is_line_byte b ≡ true → ⊥
plain_is_in_line q b h line = grind (arith, nat_tests)

same_part : {q : ℕ} {p r m n v w : List ℕ} → IsPart q p m v → IsPart q r n w → p ++ m ≡ r ++ n → (p ≡ r) × (m ≡ n) × (v ≡ w)
same_part (part_rule.plain q b m h) (part_rule.plain _ c n g) e = let x = first_same b c m n e in (one_byte b c x.0, x.1, one_byte b c x.0)
same_part (part_rule.plain q b m h) (part_rule.escape _ f n w g) e = absurd (plain_is_no_backslash q b h (first_same b 92 m (f ++ n) e).0)
same_part (part_rule.escape q f m v h) (part_rule.plain _ c n g) e = absurd (plain_is_no_backslash q c g (sym (first_same 92 c (f ++ m) n e).0))
same_part (part_rule.escape q d m v h) (part_rule.escape _ f n w g) e = let x = same_escape h g (first_same 92 92 (d ++ m) (f ++ n) e).1 in (ap (λ t. 92 ∷ t) x.0, x.1, x.2)

part_is : (x y : Part) → x.spelling ≡ y.spelling → x.value ≡ y.value → x ≡ y
part_is x y e f = ap (λ s. record { spelling = s; value = x.value }) e ∙ ap (λ v. record { spelling = y.spelling; value = v }) f

parts_determined : (q : ℕ) → IsDetermined (IsPartOf q) spelled
parts_determined q x y m n is other e = let same = same_part is other e in (part_is x y same.0 same.2, same.1)

-- ---- where no part stands

abbrev Stops : ℕ → List ℕ → Type 0
Stops q rest = NoPiece (IsPartOf q) spelled rest

-- what a part begins with
part_begins : {q : ℕ} {p m v : List ℕ} (c : ℕ) (rest : List ℕ) → is_quote q ≡ true → IsPart q p m v → p ++ m ≡ c ∷ rest → (c ≢ q) × (is_line_byte c ≡ true → ⊥)
part_begins {m = m} c rest quote (part_rule.plain q b _ h) e =
    let same : b ≡ c = (first_same b c m rest e).0 in
    (λ closes. plain_is_no_quote q b h (same ∙ closes), λ line. plain_is_in_line q b h (ap is_line_byte same ∙ line))
part_begins {m = m} c rest quote (part_rule.escape q f _ v h) e =
    let same : 92 ≡ c = (first_same 92 c (f ++ m) rest e).0 in
    (λ closes. backslash_is_no_quote q quote (same ∙ closes), λ line. false≢true (ap is_line_byte same ∙ line))

part_some : {q : ℕ} {p m v : List ℕ} → IsPart q p m v → p ++ m ≡ [] → ⊥
part_some (part_rule.plain q b m h) e = absurd cc
part_some (part_rule.escape q f m v h) e = absurd cc

line_some : (line next : List ℕ) → IsLineEndBefore line next → 0 < length line
line_some [] next h = absurd h
line_some (a ∷ line) next h = omega arith

escape_some : {e m v : List ℕ} → IsEscape e m v → 0 < length e
escape_some (escape_rule.letter c byte m h) = omega arith
escape_some (escape_rule.line_end line m h) = line_some line m h
escape_some (escape_rule.skip spaces m all none) = omega arith
escape_some (escape_rule.hexadecimal high low m h l) = omega arith
escape_some (escape_rule.decimal digits m some most all none small) = omega arith
escape_some (escape_rule.code digits m some all small) = omega arith

stops_quote : (q : ℕ) (behind : List ℕ) → is_quote q ≡ true → Stops q (q ∷ behind)
stops_quote q behind quote x m is e = (part_begins q behind quote is e).0 refl

part_is_not_bad : {q : ℕ} {p m v : List ℕ} (next : List ℕ) → NoEscape next → IsPart q p m v → p ++ m ≡ 92 ∷ next → ⊥
part_is_not_bad next none (part_rule.plain q b m h) e = plain_is_no_backslash q b h (first_same b 92 m next e).0
part_is_not_bad next none (part_rule.escape q f m v h) e = none f m v (sym (first_same 92 92 (f ++ m) next e).1) h

stops_bad : (q : ℕ) (next : List ℕ) → NoEscape next → Stops q (92 ∷ next)
stops_bad q next none x m is e = part_is_not_bad next none is e

nothing_escapes : NoEscape []
nothing_escapes e next v cut is = none_longer (escape_some is) (ap length cut)
  where
    none_longer : 0 < length e → 0 ≡ length (e ++ next) → ⊥
    none_longer some same = absurd (long e next some same)
      where
        long : (e next : List ℕ) → 0 < length e → 0 ≡ length (e ++ next) → ⊥
        long [] next some same = omega arith
        long (b ∷ e) next some same = omega arith

stops_open : (q : ℕ) (rest : List ℕ) → is_quote q ≡ true → IsEnd rest ⊎ (rest ≡ 92 ∷ []) → Stops q rest
stops_open q [] quote (inl end) x m is cut = part_some is cut
stops_open q (c ∷ rest) quote (inl line) x m is cut = (part_begins c rest quote is cut).1 line
stops_open q rest quote (inr e) x m is cut = part_is_not_bad [] nothing_escapes is (cut ∙ e)

-- ---- no string stands where a reading stops before its quote

no_short : (q : ℕ) (parts : List Part) (rest : List ℕ) → is_quote q ≡ true → AreParts q parts rest → Stops q rest → ((behind : List ℕ) → rest ≡ q ∷ behind → ⊥) → (n : ℕ) → IsShortString (take n (q ∷ (spelling_of parts ++ rest))) → ⊥
no_short q parts rest quote are stops unclosed n (v, (p, others, quote', all, e, is)) =
    let text : List ℕ = q ∷ (spelling_of parts ++ rest) in
    let behind : List ℕ = drop n text in
    let whole : text ≡ p ∷ ((spelling_of others ++ p ∷ []) ++ behind) = sym (take-append-drop n text) ∙ ap (λ t. t ++ behind) e in
    let same : p ≡ q = sym (first_same q p _ _ whole).0 in
    let moved = subst (λ x. AreParts x others (x ∷ []) × (text ≡ x ∷ ((spelling_of others ++ x ∷ []) ++ behind))) same (all, whole) in
    let again : AreParts q others (q ∷ behind) = parts_again q others (q ∷ []) (q ∷ behind) refl moved.0 in
    let cut : spelling_of parts ++ rest ≡ spelling_of others ++ q ∷ behind = (first_same q q _ _ moved.1).1 ∙ append_assoc (spelling_of others) (q ∷ []) behind in
    unclosed behind (same_pieces (IsPartOf q) spelled (parts_determined q) parts others rest (q ∷ behind) are again stops (stops_quote q behind quote) cut).1

quoted_group : (q : ℕ) (text : List ℕ) → is_quote q ≡ true → group_of (q ∷ text) ≡ Quoted
quoted_group q text quote = rw quote refl

quoted_none : (q : ℕ) (parts : List Part) (rest : List ℕ) → is_quote q ≡ true → AreParts q parts rest → Stops q rest → ((behind : List ℕ) → rest ≡ q ∷ behind → ⊥) → HasNone (q ∷ (spelling_of parts ++ rest))
quoted_none q parts rest quote are stops unclosed =
    none_alone (q ∷ (spelling_of parts ++ rest)) Quoted (Token Short) (quoted_group q (spelling_of parts ++ rest) quote) quoted_kind (λ n within s. no_short q parts rest quote are stops unclosed n s)

quote_is_in_line : (q : ℕ) → is_quote q ≡ true → is_line_byte q ≡ true → ⊥
quote_is_in_line q quote line = grind (arith, nat_tests)

open_is_unclosed : (q : ℕ) (rest behind : List ℕ) → is_quote q ≡ true → IsEnd rest ⊎ (rest ≡ 92 ∷ []) → rest ≡ q ∷ behind → ⊥
open_is_unclosed q rest behind quote (inl end) closes = quote_is_in_line q quote (subst IsEnd closes end)
open_is_unclosed q rest behind quote (inr e) closes = backslash_is_no_quote q quote (first_same 92 q [] behind (sym e ∙ closes)).0

-- what stands where a reading of a short string stops
abbrev pub Says : LexWhat → List ℕ → Type 0
Says BadEscape rest = (next : List ℕ) × (rest ≡ 92 ∷ next) × IsBadEscape next
Says OpenString rest = IsEnd rest ⊎ (rest ≡ 92 ∷ [])
Says _ rest = ⊥

abbrev pub StopsAt : LexWhat → List ℕ → Type 0
StopsAt what text = (q : ℕ) × (parts : List Part) × (rest : List ℕ) × (is_quote q ≡ true) × AreParts q parts rest × (text ≡ q ∷ (spelling_of parts ++ rest)) × Says what rest

bad_stops : (text : List ℕ) (at : ℕ) → IsShortEnd text (end.Bad at) → StopsAt BadEscape text
bad_stops text at (q, parts, next, quote, are, bad, e, place) = (q, parts, 92 ∷ next, quote, are, e, (next, refl, bad))

open_stops : (text : List ℕ) → IsShortEnd text end.Open → StopsAt OpenString text
open_stops text (q, parts, rest, quote, are, e, says) = (q, parts, rest, quote, are, e, says)

says_stops : (q : ℕ) (rest : List ℕ) (what : LexWhat) → is_quote q ≡ true → Says what rest → Stops q rest
says_stops q rest BadEscape quote a = subst (Stops q) (sym a.1) (stops_bad q a.0 a.2.1)
says_stops q rest OpenString quote a = stops_open q rest quote a
says_stops q rest _ quote a = absurd a

says_unclosed : (q : ℕ) (rest : List ℕ) (what : LexWhat) → is_quote q ≡ true → Says what rest → (behind : List ℕ) → rest ≡ q ∷ behind → ⊥
says_unclosed q rest BadEscape quote a behind closes = backslash_is_no_quote q quote (first_same 92 q a.0 behind (sym a.1 ∙ closes)).0
says_unclosed q rest OpenString quote a behind closes = open_is_unclosed q rest behind quote a closes
says_unclosed q rest _ quote a behind closes = absurd a

stopped_none : (what : LexWhat) (text : List ℕ) → StopsAt what text → HasNone text
stopped_none what text (q, parts, rest, quote, are, e, says) =
    subst HasNone (sym e) (quoted_none q parts rest quote are (says_stops q rest what quote says) (λ behind closes. says_unclosed q rest what quote says behind closes))

-- ---- the other groups

pub numeric_kind : (kind : Kind) → is_tried Numeric kind ≡ true → kind ≡ Token Number
numeric_kind (Token Number) h = refl
numeric_kind _ h = absurd (false≢true h)

numeric_none : (text : List ℕ) → group_of text ≡ Numeric → (HasNumeralForm (take (numeral_length text) text) → ⊥) → HasNone text
numeric_none text e none kind n h = by_kind kind (numeric_kind kind (subst (λ g. is_tried g kind ≡ true) e h.tried)) h
  where
    by_kind : (kind : Kind) → kind ≡ Token Number → IsFirst text kind n → ⊥
    by_kind kind same h =
        let first : IsFirst text (Token Number) n = subst (λ k. IsFirst text k n) same h in
        none (subst (λ i. HasNumeralForm (take i text)) (first.numeral e) first.spelled)

bracketed_group : (text : List ℕ) → opens_long text ≡ true → group_of text ≡ Bracketed
bracketed_group [] h = absurd (false≢true h)
bracketed_group (b ∷ text) h =
    let first : b ≡ 91 = eqb-true b 91 (and_parts _ _ h).0 in
    let plain : is_quote b ≡ false = ap is_quote first in
    rw (plain, h) refl

bracketed_none : (text : List ℕ) → IsOpenLong text → HasNone text
bracketed_none text unclosed = none_alone text Bracketed (Token Long) (bracketed_group text unclosed.0) bracketed_kind (λ n within long. unclosed.1 n long)

commented_none : (rest : List ℕ) → IsOpenLong rest → HasNone (45 ∷ 45 ∷ rest)
commented_none rest unclosed kind n h = no_long n (h.long refl unclosed.0)
  where
    no_long : (n : ℕ) → IsLongComment (take n (45 ∷ 45 ∷ rest)) → ⊥
    no_long zero c = let no : [] ≡ 45 ∷ 45 ∷ c.rest = c.spelled in cc
    no_long (suc zero) c = let no : 45 ∷ [] ≡ 45 ∷ 45 ∷ c.rest = c.spelled in cc
    no_long (suc (suc k)) c = unclosed.1 k (subst IsLongSpelling (sym (ap (drop 2) c.spelled)) c.long)

-- a text with a fault has no first piece
pub fault_has_none : {text : List ℕ} {what : LexWhat} → IsFault text what → HasNone text
fault_has_none (fault.no_token text e none) = none
fault_has_none (fault.bad_numeral text e none) = numeric_none text e none
fault_has_none (fault.bad_escape text at bad) = stopped_none BadEscape text (bad_stops text at bad)
fault_has_none (fault.open_string text unclosed) = stopped_none OpenString text (open_stops text unclosed)
fault_has_none (fault.open_long text unclosed) = bracketed_none text unclosed
fault_has_none (fault.open_comment rest unclosed) = commented_none rest unclosed

-- ---- a text has at most one fault

-- the faults of each group
abbrev MayFault : Group → LexWhat → List ℕ → Type 0
MayFault Quoted what text = StopsAt what text
MayFault Bracketed OpenLong text = Unit {0}
MayFault Commented OpenLong text = Unit {0}
MayFault Numeric BadNumeral text = Unit {0}
MayFault Other NoToken text = Unit {0}
MayFault _ _ text = ⊥

stopped_may : (what : LexWhat) (text : List ℕ) → StopsAt what text → MayFault (group_of text) what text
stopped_may what text stop =
    subst (λ g. MayFault g what text) (sym (ap group_of stop.5 ∙ quoted_group stop.0 (spelling_of stop.1 ++ stop.2) stop.3)) stop

may_fault : {text : List ℕ} {what : LexWhat} → IsFault text what → MayFault (group_of text) what text
may_fault (fault.no_token text e none) = subst (λ g. MayFault g NoToken text) (sym e) tt
may_fault (fault.bad_numeral text e none) = subst (λ g. MayFault g BadNumeral text) (sym e) tt
may_fault (fault.bad_escape text at bad) = stopped_may BadEscape text (bad_stops text at bad)
may_fault (fault.open_string text unclosed) = stopped_may OpenString text (open_stops text unclosed)
may_fault (fault.open_long text unclosed) = subst (λ g. MayFault g OpenLong text) (sym (bracketed_group text unclosed.0)) tt
may_fault (fault.open_comment rest unclosed) = tt

bad_is_not_open : (rest next : List ℕ) → rest ≡ 92 ∷ next → next ≢ [] → IsEnd rest ⊎ (rest ≡ 92 ∷ []) → ⊥
bad_is_not_open rest next e some (inl end) = false≢true (subst IsEnd e end)
bad_is_not_open rest next e some (inr lone) = some (first_same 92 92 next [] (sym e ∙ lone)).1

same_says : (rest : List ℕ) (w v : LexWhat) → Says w rest → Says v rest → w ≡ v
same_says rest BadEscape BadEscape a b = refl
same_says rest OpenString OpenString a b = refl
same_says rest BadEscape OpenString a b = absurd (bad_is_not_open rest a.0 a.1 a.2.0 b)
same_says rest OpenString BadEscape a b = absurd (bad_is_not_open rest b.0 b.1 b.2.0 a)
same_says rest BadEscape _ a b = absurd b
same_says rest OpenString _ a b = absurd b
same_says rest _ v a b = absurd a

same_stop : (text : List ℕ) (w v : LexWhat) → StopsAt w text → StopsAt v text → w ≡ v
same_stop text w v (q, parts, rest, quote, are, e, says) (p, others, rest', quote', all, f, says') =
    let same : p ≡ q = (first_same p q _ _ (sym f ∙ e)).0 in
    let moved = subst (λ x. AreParts x others rest' × (text ≡ x ∷ (spelling_of others ++ rest'))) same (all, f) in
    let r = same_pieces (IsPartOf q) spelled (parts_determined q) parts others rest rest' are moved.0 (says_stops q rest w quote says) (says_stops q rest' v quote says') (first_same q q _ _ (sym e ∙ moved.1)).1 in
    same_says rest w v says (subst (Says v) (sym r.1) says')

same_fault : (group : Group) (w v : LexWhat) (text : List ℕ) → MayFault group w text → MayFault group v text → w ≡ v
same_fault Quoted w v text a b = same_stop text w v a b
same_fault Bracketed OpenLong OpenLong text a b = refl
same_fault Bracketed OpenLong _ text a b = absurd b
same_fault Bracketed _ v text a b = absurd a
same_fault Commented OpenLong OpenLong text a b = refl
same_fault Commented OpenLong _ text a b = absurd b
same_fault Commented _ v text a b = absurd a
same_fault Numeric BadNumeral BadNumeral text a b = refl
same_fault Numeric BadNumeral _ text a b = absurd b
same_fault Numeric _ v text a b = absurd a
same_fault Other NoToken NoToken text a b = refl
same_fault Other NoToken _ text a b = absurd b
same_fault Other _ v text a b = absurd a

pub one_fault : (text : List ℕ) (w v : LexWhat) → IsFault text w → IsFault text v → w ≡ v
one_fault text w v a b = same_fault (group_of text) w v text (may_fault a) (may_fault b)

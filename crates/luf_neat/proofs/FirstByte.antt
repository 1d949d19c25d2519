-- What a token does not begin with.
use Rattle.std.proofs.Common.{◌≡◌, ℕ, Bool, true, false, cond, eqb, ◌||◌, List, [], ◌∷◌, ◌++◌, length, take, append-nil, refl, sym, ap, ◌∙◌, arith}
use Rattle.std.proofs.lemmas.Bool.{false≢true, false_from_ne_true, or_left, or_right, and_parts}
use Rattle.std.proofs.lemmas.Bool.Decides.{nat_tests}
use Rattle.luf_byte.specs.Class.{is_digit, is_line_byte, is_letter, is_word_byte, is_blank}
use Rattle.luf_str.specs.Bytes.{is_quote}
use Rattle.luf_byte.specs.Front.{begins}
use Rattle.luf_lex.specs.Sign.{sign_spelling}
use Rattle.luf_lex.specs.Spelling.{Spells}
use Rattle.luf_str.specs.LongEnd.{opens_long}
use Rattle.luf_lex.specs.First.{IsFirst, is_tried, group_of, begins_comment, begins_numeral}
use Rattle.luf_lex.specs.declared.group.Group.{Group}
use Rattle.luf_lex.specs.declared.group.Group.TheVariants.{Quoted, Bracketed, Commented, Numeric, Other}
use Rattle.luf_lex.specs.declared.token.Tok.{Tok}
use Rattle.luf_lex.specs.declared.token.Tok.TheVariants.{Name, Number, Short, Long, Word, Sign}
use Rattle.luf_lex.specs.declared.token.Sign.{Sign as Mark}
use Rattle.luf_lex.specs.declared.token.Sign.TheVariants.{Plus, Hash, Assign, Equal}
use Rattle.luf_lex.specs.declared.token.Kind.TheVariants.{Token}
use Rattle.luf_lex.proofs.RunLemmas.{begins_take, begins_weaker}
use Rattle.luf_lex.proofs.PlainLemmas.{keyword_letter, sign_no_blank, sign_no_line}
use Rattle.luf_lex.proofs.LoneKind.{quoted_begins, bracketed_opens}
use Rattle.luf_guard.proofs.Before.{first_before, stops_nothing}

-- what a token that is no sign may begin with
abbrev begins_value : ℕ → Bool
begins_value b = is_word_byte b || (is_quote b || (eqb b 46 || eqb b 91))

letter_value : (b : ℕ) → is_letter b ≡ true → begins_value b ≡ true
letter_value b h = or_left (is_word_byte b) _ (or_left (is_letter b) _ h)

quote_value : (b : ℕ) → is_quote b ≡ true → begins_value b ≡ true
quote_value b h = or_right (is_word_byte b) _ (or_left (is_quote b) _ h)

point_value : (b : ℕ) → eqb b 46 ≡ true → begins_value b ≡ true
point_value b h = or_right (is_word_byte b) _ (or_right (is_quote b) _ (or_left (eqb b 46) _ h))

bracket_value : (b : ℕ) → eqb b 91 ≡ true → begins_value b ≡ true
bracket_value b h = or_right (is_word_byte b) _ (or_right (is_quote b) _ (or_right (eqb b 46) _ h))

digit_value : (b : ℕ) → is_digit b ≡ true → begins_value b ≡ true
digit_value b h = or_left (is_word_byte b) _ (or_right (is_letter b) _ h)

numeric_is : (q l c n : Bool) → cond q Quoted (cond l Bracketed (cond c Commented (cond n Numeric Other))) ≡ Numeric → n ≡ true
numeric_is true l c n e = absurd cc
numeric_is false true c n e = absurd cc
numeric_is false false true n e = absurd cc
numeric_is false false false true e = refl
numeric_is false false false false e = absurd cc

short_group : (g : Group) → is_tried g (Token Short) ≡ true → g ≡ Quoted
short_group Quoted h = refl
short_group _ h = absurd (false≢true h)

long_group : (g : Group) → is_tried g (Token Long) ≡ true → g ≡ Bracketed
long_group Bracketed h = refl
long_group _ h = absurd (false≢true h)

number_group : (g : Group) → is_tried g (Token Number) ≡ true → g ≡ Numeric
number_group Numeric h = refl
number_group _ h = absurd (false≢true h)

either : (x y : Bool) (C : Type 0) → (x || y) ≡ true → (x ≡ true → C) → (y ≡ true → C) → C
either true y C h f g = f refl
either false y C h f g = g h

numeral_value : (text : List ℕ) → begins_numeral text ≡ true → begins begins_value text ≡ true
numeral_value [] h = absurd (false≢true h)
numeral_value (b ∷ text) h = either (is_digit b) _ (begins_value b ≡ true) h (digit_value b) (λ p. point_value b (and_parts (eqb b 46) _ p).0)

long_value : (text : List ℕ) → opens_long text ≡ true → begins begins_value text ≡ true
long_value [] h = absurd (false≢true h)
long_value (b ∷ text) h = bracket_value b (and_parts (eqb b 91) _ h).0

-- a token that is no sign begins with such a byte
value_front : (t : Tok) (text : List ℕ) (n : ℕ) → IsFirst text (Token t) n → ((s : Mark) → t ≡ Sign s → ⊥) → begins begins_value text ≡ true
value_front Name text n h plain = begins_weaker is_letter begins_value letter_value text (sym (begins_take is_letter text n h.some) ∙ h.spelled.first)
value_front (Word w) text n h plain = begins_weaker is_letter begins_value letter_value text (sym (begins_take is_letter text n h.some) ∙ keyword_letter (take n text) w h.spelled)
value_front Short text n h plain = begins_weaker is_quote begins_value quote_value text (quoted_begins text (short_group (group_of text) h.tried))
value_front Long text n h plain = long_value text (bracketed_opens text (long_group (group_of text) h.tried))
value_front Number text n h plain =
    numeral_value text (numeric_is (begins is_quote text) (opens_long text) (begins_comment text) (begins_numeral text) (number_group (group_of text) h.tried))
value_front (Sign s) text n h plain = absurd (plain s refl)

-- no such byte passes this test
abbrev IsApart : (ℕ → Bool) → Type 0
IsApart p = (b : ℕ) → p b ≡ true → begins_value b ≡ true → ⊥

front_apart : (p : ℕ → Bool) (text : List ℕ) → IsApart p → begins begins_value text ≡ true → begins p text ≡ false
front_apart p [] apart h = refl
front_apart p (b ∷ text) apart h = false_from_ne_true (p b) (λ e. apart b e h)

first_apart : (p : ℕ → Bool) (t : Tok) (text : List ℕ) (n : ℕ) → IsApart p → IsFirst text (Token t) n → ((s : Mark) → t ≡ Sign s → begins p (sign_spelling s) ≡ false) → begins p text ≡ false
first_apart p (Sign s) text n apart h signs = sym (begins_take p text n h.some) ∙ ap (begins p) (sym h.spelled) ∙ signs s refl
first_apart p Name text n apart h signs = front_apart p text apart (value_front Name text n h (λ s e. cc))
first_apart p Number text n apart h signs = front_apart p text apart (value_front Number text n h (λ s e. cc))
first_apart p Short text n apart h signs = front_apart p text apart (value_front Short text n h (λ s e. cc))
first_apart p Long text n apart h signs = front_apart p text apart (value_front Long text n h (λ s e. cc))
first_apart p (Word w) text n apart h signs = front_apart p text apart (value_front (Word w) text n h (λ s e. cc))

-- a token begins with no byte that passes such a test, where the sign that it may be begins with none
spelled_apart : (p : ℕ → Bool) (t : Tok) (a : List ℕ) → IsApart p → Spells (Token t) a → ((s : Mark) → t ≡ Sign s → begins p (sign_spelling s) ≡ false) → begins p a ≡ false
spelled_apart p t a apart h signs =
    ap (begins p) (sym (append-nil a)) ∙ first_apart p t (a ++ []) (length a) apart (first_before t a [] h (stops_nothing t a h)) signs

blank_apart : IsApart is_blank
blank_apart b h v = grind (arith, nat_tests)

line_apart : IsApart is_line_byte
line_apart b h v = grind (arith, nat_tests)

hash_apart : IsApart (λ b. eqb b 35)
hash_apart b h v = grind (arith, nat_tests)

equal_apart : IsApart (λ b. eqb b 61)
equal_apart b h v = grind (arith, nat_tests)

mark_apart : IsApart (λ b. eqb 239 b)
mark_apart b h v = grind (arith, nat_tests)

-- no token begins with a blank, a line end or the first byte of a mark
pub no_blank : (t : Tok) (a : List ℕ) → Spells (Token t) a → begins is_blank a ≡ false
no_blank t a h = spelled_apart is_blank t a blank_apart h (λ s e. sign_no_blank s)

pub no_line : (t : Tok) (a : List ℕ) → Spells (Token t) a → begins is_line_byte a ≡ false
no_line t a h = spelled_apart is_line_byte t a line_apart h (λ s e. sign_no_line s)

sign_no_mark : (s : Mark) → begins (λ b. eqb 239 b) (sign_spelling s) ≡ false
sign_no_mark Plus = refl
sign_no_mark _ = refl

pub no_mark : (t : Tok) (a : List ℕ) → Spells (Token t) a → begins (λ b. eqb 239 b) a ≡ false
no_mark t a h = spelled_apart (λ b. eqb 239 b) t a mark_apart h (λ s e. sign_no_mark s)

-- `#` alone begins with one
sign_no_hash : (s : Mark) → (s ≡ Hash → ⊥) → begins (λ b. eqb b 35) (sign_spelling s) ≡ false
sign_no_hash Hash other = absurd (other refl)
sign_no_hash _ other = refl

pub no_hash : (t : Tok) (a : List ℕ) → Spells (Token t) a → (t ≡ Sign Hash → ⊥) → begins (λ b. eqb b 35) a ≡ false
no_hash t a h other = spelled_apart (λ b. eqb b 35) t a hash_apart h (λ s e. sign_no_hash s (λ is. other (e ∙ ap Sign is)))

-- `=` and `==` alone begin with `=`
sign_no_equal : (s : Mark) → (s ≡ Assign → ⊥) → (s ≡ Equal → ⊥) → begins (λ b. eqb b 61) (sign_spelling s) ≡ false
sign_no_equal Assign assign equal = absurd (assign refl)
sign_no_equal Equal assign equal = absurd (equal refl)
sign_no_equal _ assign equal = refl

pub no_equal : (t : Tok) (a : List ℕ) → Spells (Token t) a → (t ≡ Sign Assign → ⊥) → (t ≡ Sign Equal → ⊥) → begins (λ b. eqb b 61) a ≡ false
no_equal t a h assign equal =
    spelled_apart (λ b. eqb b 61) t a equal_apart h (λ s e. sign_no_equal s (λ is. assign (e ∙ ap Sign is)) (λ is. equal (e ∙ ap Sign is)))

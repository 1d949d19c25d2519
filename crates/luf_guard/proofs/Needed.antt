-- What the code decides by the bytes is whether two tokens need a space.
use Rattle.std.proofs.Common.{◌≡◌, ℕ, ◌<◌, ◌⊎◌, ◌↔◌, inl, inr, Bool, true, false, eqb, ◌&&◌, List, [], ◌∷◌, ◌++◌, length, append-nil, refl, sym, ap, ◌∙◌, subst, arith}
use Rattle.std.specs.Prelude.{IsTrue}
use Rattle.std.proofs.lemmas.Bool.{and_left, and_parts, or_cases, or_from, cond-true, cond-false, eqb-true, false≢true}
use Rattle.std.proofs.lemmas.Bool.Decides.{nat_tests}
use Rattle.luf_byte.specs.Class.{is_digit, is_letter, is_word_byte, is_blank}
use Rattle.luf_str.specs.Bytes.{is_quote}
use Rattle.luf_byte.specs.Front.{begins}
use Rattle.luf_lex.specs.Sign.{sign_spelling}
use Rattle.luf_lex.specs.Spelling.{Spells}
use Rattle.luf_str.specs.LongEnd.{opens_long}
use Rattle.luf_lex.specs.First.{IsFirst, begins_numeral}
use Rattle.luf_lex.specs.declared.token.Tok.{Tok}
use Rattle.luf_lex.specs.declared.token.Tok.TheVariants.{Name, Number, Short, Long, Word}
use Rattle.luf_lex.specs.declared.token.Tok.TheVariants as tok
use Rattle.luf_lex.specs.declared.token.Sign.{Sign}
use Rattle.luf_lex.specs.declared.token.Sign.TheVariants.{Plus, LeftBracket}
use Rattle.luf_lex.specs.declared.token.Kind.TheVariants.{Token}
use Rattle.luf_lex.proofs.PlainLemmas.{keyword_letter, sign_no_blank}
use Rattle.luf_str.proofs.BracketLaws.{long_opens}
use Rattle.luf_guard.specs.Space.{IsTokenSpelling, StandApart, NeedSpace}
use Rattle.luf_guard.specs.inner.Joins.{goes_on, sign_goes_on, sign_joins, joins, is_needed}
use Rattle.luf_guard.proofs.Words.{begins_front}
use Rattle.luf_guard.proofs.Numerals.{form_front}
use Rattle.luf_guard.proofs.Strings.{short_some, short_quote, long_some}
use Rattle.luf_guard.proofs.Three.{apart_first, stand_apart}
use Rattle.luf_guard.proofs.Before.{first_before, spelled_some, stops_nothing, token_ends, no_bracket}

-- ---- what a token begins with

long_bracket : (a : List ℕ) → Spells (Token Long) a → begins (λ c. eqb c 91) a ≡ true
long_bracket [] h = absurd (omega (arith, long_some [] h))
long_bracket (b ∷ a) h = (and_parts (eqb b 91) _ (long_opens (b ∷ a) h)).0

-- a class of bytes that begins no token
record IsNoStart (p : ℕ → Bool) : Type 0 where
  letter : (b : ℕ) → is_letter b ≡ true → p b ≡ false
  digit : (b : ℕ) → is_digit b ≡ true → p b ≡ false
  quote : (b : ℕ) → is_quote b ≡ true → p b ≡ false
  point : p 46 ≡ false
  bracket : p 91 ≡ false

begins_other : (p q : ℕ → Bool) → ((b : ℕ) → p b ≡ true → q b ≡ false) → (a : List ℕ) → begins p a ≡ true → begins q a ≡ false
begins_other p q apart [] h = refl
begins_other p q apart (b ∷ a) h = apart b h

numeral_other : (p : ℕ → Bool) → IsNoStart p → (a : List ℕ) → begins_numeral a ≡ true → begins p a ≡ false
numeral_other p none [] h = refl
numeral_other p none (b ∷ a) h = by_cases (or_cases (is_digit b) _ h)
  where
    by_cases : (is_digit b ≡ true) ⊎ ((eqb b 46 && begins is_digit a) ≡ true) → p b ≡ false
    by_cases (inl digit) = none.digit b digit
    by_cases (inr point) = ap p (eqb-true b 46 (and_parts (eqb b 46) _ point).0) ∙ none.point

token_begins : (p : ℕ → Bool) → IsNoStart p → (t : Tok) (a : List ℕ) → Spells (Token t) a → ((s : Sign) → t ≡ tok.Sign s → begins p (sign_spelling s) ≡ false) → begins p a ≡ false
token_begins p none Name a h sign = begins_other is_letter p none.letter a h.first
token_begins p none (Word w) a h sign = begins_other is_letter p none.letter a (keyword_letter a w h)
token_begins p none Number a h sign = numeral_other p none a (form_front a h)
token_begins p none Short a h sign = begins_other is_quote p none.quote a (short_quote a h)
token_begins p none Long a h sign = begins_other (λ c. eqb c 91) p (λ b e. ap p (eqb-true b 91 e) ∙ none.bracket) a (long_bracket a h)
token_begins p none (tok.Sign s) a h sign = ap (begins p) (sym h) ∙ sign s refl

no_blank : IsNoStart is_blank
no_blank = record {
  letter = λ b h. by_letter b h;
  digit = λ b h. by_digit b h;
  quote = λ b h. by_quote b h;
  point = refl;
  bracket = refl;
}
  where
    by_letter : (b : ℕ) → is_letter b ≡ true → is_blank b ≡ false
    by_letter b h = grind (arith, nat_tests)

    by_digit : (b : ℕ) → is_digit b ≡ true → is_blank b ≡ false
    by_digit b h = grind (arith, nat_tests)

    by_quote : (b : ℕ) → is_quote b ≡ true → is_blank b ≡ false
    by_quote b h = grind (arith, nat_tests)

no_equal : IsNoStart (λ c. eqb c 61)
no_equal = record {
  letter = λ b h. by_letter b h;
  digit = λ b h. by_digit b h;
  quote = λ b h. by_quote b h;
  point = refl;
  bracket = refl;
}
  where
    by_letter : (b : ℕ) → is_letter b ≡ true → eqb b 61 ≡ false
    by_letter b h = grind (arith, nat_tests)

    by_digit : (b : ℕ) → is_digit b ≡ true → eqb b 61 ≡ false
    by_digit b h = grind (arith, nat_tests)

    by_quote : (b : ℕ) → is_quote b ≡ true → eqb b 61 ≡ false
    by_quote b h = grind (arith, nat_tests)

-- a `[` and a token that begins with no `[` open no long bracket
alone_sign : (s : Sign) → begins (λ c. eqb c 91) (sign_spelling s) ≡ false → opens_long (91 ∷ sign_spelling s) ≡ false
alone_sign LeftBracket h = absurd (false≢true (sym h))
alone_sign _ h = refl

alone_bracket : (u : Tok) (b : List ℕ) → Spells (Token u) b → begins (λ c. eqb c 91) b ≡ false → opens_long (91 ∷ b) ≡ false
alone_bracket (tok.Sign s) b h none = subst (λ (t : List ℕ). begins (λ c. eqb c 91) t ≡ false → opens_long (91 ∷ t) ≡ false) h (alone_sign s) none
alone_bracket Name b h none = no_bracket b none (token_begins (λ c. eqb c 61) no_equal Name b h (λ s e. absurd cc))
alone_bracket Number b h none = no_bracket b none (token_begins (λ c. eqb c 61) no_equal Number b h (λ s e. absurd cc))
alone_bracket Short b h none = no_bracket b none (token_begins (λ c. eqb c 61) no_equal Short b h (λ s e. absurd cc))
alone_bracket Long b h none = no_bracket b none (token_begins (λ c. eqb c 61) no_equal Long b h (λ s e. absurd cc))
alone_bracket (Word w) b h none = no_bracket b none (token_begins (λ c. eqb c 61) no_equal (Word w) b h (λ s e. absurd cc))

-- a token that stops before the next stands apart from it
pub stops_apart : (t u : Tok) (a b : List ℕ) → Spells (Token t) a → Spells (Token u) b → begins (goes_on t) b ≡ false → StandApart a b
stops_apart t u a b h g stop =
    let first = first_before t a b h (record { next = stop; bracket = λ e. alone_bracket u b g (subst (λ v. begins (goes_on v) b ≡ false) e stop) }) in
    let second : IsFirst b (Token u) (length b) = subst (λ s. IsFirst s (Token u) (length b)) (append-nil b) (first_before u b [] g (stops_nothing u b g)) in
    let blank : begins is_blank (a ++ b) ≡ false = begins_front is_blank a b (spelled_some t a h) ∙ token_begins is_blank no_blank t a h (λ s e. sign_no_blank s) in
    stand_apart (Token t) (Token u) a b blank first second

-- ---- a token shows by its bytes what it goes on over

letter_no_numeral : (a : List ℕ) → begins is_letter a ≡ true → begins_numeral a ≡ false
letter_no_numeral [] h = refl
letter_no_numeral (b ∷ a) h = or_from _ _ (no_digit b h) (and_left _ _ (no_point b h))
  where
    no_digit : (b : ℕ) → is_letter b ≡ true → is_digit b ≡ false
    no_digit b h = grind (arith, nat_tests)

    no_point : (b : ℕ) → is_letter b ≡ true → eqb b 46 ≡ false
    no_point b h = grind (arith, nat_tests)

-- a byte with which a string begins
abbrev IsStringStart : ℕ → Type 0
IsStringStart b = (is_digit b ≡ false) × (eqb b 46 ≡ false) × (is_letter b ≡ false)

quote_start : (b : ℕ) → is_quote b ≡ true → IsStringStart b
quote_start b h = (grind (arith, nat_tests), grind (arith, nat_tests), grind (arith, nat_tests))

string_joins : (a : List ℕ) (c : ℕ) → 1 < length a → ((b : ℕ) (rest : List ℕ) → a ≡ b ∷ rest → IsStringStart b) → joins a c ≡ false
string_joins [] c some start = absurd (omega arith)
string_joins (b ∷ []) c some start = absurd (omega arith)
string_joins (b ∷ d ∷ a) c some start =
    let is = start b (d ∷ a) refl in
    cond-false _ _ _ (or_from _ _ is.0 (and_left _ _ is.1)) ∙ cond-false _ _ _ is.2 ∙ by_length a
  where
    by_length : (a : List ℕ) → sign_joins (b ∷ d ∷ a) c ≡ false
    by_length [] = and_left _ _ (start b (d ∷ a) refl).1
    by_length (e ∷ a) = refl

sign_joins_is : (s : Sign) (c : ℕ) → joins (sign_spelling s) c ≡ sign_goes_on s c
sign_joins_is Plus c = refl
sign_joins_is _ c = refl

word_joins : (a : List ℕ) (c : ℕ) → begins is_letter a ≡ true → joins a c ≡ is_word_byte c
word_joins a c letter = cond-false _ _ _ (letter_no_numeral a letter) ∙ cond-true _ _ _ letter

joins_is : (t : Tok) (a : List ℕ) (c : ℕ) → Spells (Token t) a → joins a c ≡ goes_on t c
joins_is Name a c h = word_joins a c h.first
joins_is (Word w) a c h = word_joins a c (keyword_letter a w h)
joins_is Number a c h = cond-true _ _ _ (form_front a h)
joins_is Short a c h = string_joins a c (short_some a h) (λ b rest e. quote_start b (sym (ap (begins is_quote) e) ∙ short_quote a h))
joins_is Long a c h = string_joins a c (omega (arith, long_some a h)) (λ b rest e. bracket_start b (eqb-true b 91 (sym (ap (begins (λ d. eqb d 91)) e) ∙ long_bracket a h)))
  where
    bracket_start : (b : ℕ) → b ≡ 91 → IsStringStart b
    bracket_start b e = subst IsStringStart (sym e) (refl, refl, refl)
joins_is (tok.Sign s) a c h = ap (λ (t : List ℕ). joins t c) (sym h) ∙ sign_joins_is s c

needed_is : (t : Tok) (a b : List ℕ) → Spells (Token t) a → is_needed a b ≡ begins (goes_on t) b
needed_is t a [] h = refl
needed_is t a (c ∷ b) h = joins_is t a c h

-- ---- what the code decides

pub needed_exact : (a b : List ℕ) (v : Bool) → IsTokenSpelling a → IsTokenSpelling b → v ≡ is_needed a b → IsTrue v ↔ NeedSpace a b
needed_exact a b v (t, h) (u, g) e = (
  λ more apart. let first = apart_first a b apart in token_ends t first.0 a b h (sym (needed_is t a b h) ∙ sym e ∙ more) first.1,
  λ need. by_value v (λ none. need (stops_apart t u a b h g (sym (needed_is t a b h) ∙ sym e ∙ none))),
)
  where
    by_value : (v : Bool) → (v ≡ false → ⊥) → v ≡ true
    by_value true other = refl
    by_value false other = absurd (other refl)

pub needed_apart : (a b : List ℕ) (v : Bool) → IsTokenSpelling a → IsTokenSpelling b → v ≡ is_needed a b → v ≡ false → StandApart a b
needed_apart a b v (t, h) (u, g) e none = stops_apart t u a b h g (sym (needed_is t a b h) ∙ sym e ∙ none)

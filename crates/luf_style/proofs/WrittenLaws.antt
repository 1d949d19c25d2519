-- The tokens of a source as they are written: each is spelled as its token, and the others are as they were.
use Rattle.std.proofs.Common.{◌≡◌, ◌↔◌, ℕ, zero, suc, true, false, Some, List, [], ◌∷◌, ◌++◌, length, get_or, slice_get, codes, refl, sym, ap, ◌∙◌, subst, arith, inl, inr}
use Rattle.std.specs.Prelude.{bytes_eq, count_by, slice_range, ◌==◌}
use Rattle.std.specs.Str.{byte}
use Rattle.std.proofs.lemmas.Bool.{false≢true, false_from_ne_true}
use Rattle.std.proofs.lemmas.List.{length-map}
use Rattle.std.proofs.lemmas.Option.{same_Some}
use Rattle.std.proofs.lemmas.Slice.Eq.{bytes_eq-Decides}
use Rattle.luf_byte.specs.Class.{is_letter}
use Rattle.luf_byte.specs.Front.{begins}
use Rattle.luf_str.specs.Bytes.{is_quote}
use Rattle.luf_str.specs.LongEnd.{opens_long}
use Rattle.luf_str.specs.Pieces.{GrowsBy}
use Rattle.luf_str.specs.Requote.{IsRequoted, inside, quote_byte}
use Rattle.luf_str.specs.declared.quoting.Counts.{Counts}
use Rattle.luf_str.specs.declared.quoting.Quote.{Quote}
use Rattle.luf_str.specs.Value.{IsValue}
use Rattle.luf_str.proofs.Apart.{short_is_spelled}
use Rattle.luf_str.proofs.BracketLaws.{long_opens}
use Rattle.luf_str.proofs.Requoting.{same_string, quote_byte_is_quote}
use Rattle.luf_str.proofs.Unique.{long_is_not_short}
use Rattle.luf_quote.specs.Chosen.{chosen}
use Rattle.luf_quote.specs.declared.quotes.QuoteStyle.{QuoteStyle}
use Rattle.luf_lex.specs.Cut.{IsCut}
use Rattle.luf_lex.specs.First.{begins_numeral}
use Rattle.luf_lex.specs.Sign.{sign_spelling}
use Rattle.luf_lex.specs.Spelling.{Spells, IsShortString}
use Rattle.luf_lex.specs.Tokens.{toks_of, tokens_of, spellings_of}
use Rattle.luf_lex.specs.Word.{word_spelling}
use Rattle.luf_lex.specs.declared.token.Kind.TheVariants.{Token}
use Rattle.luf_lex.specs.declared.token.Piece.{Piece}
use Rattle.luf_lex.specs.declared.token.Sign.{Sign as Mark}
use Rattle.luf_lex.specs.declared.token.Sign.TheVariants as sign
use Rattle.luf_lex.specs.declared.token.Tok.{Tok}
use Rattle.luf_lex.specs.declared.token.Tok.TheVariants.{Name, Number, Short, Long, Word, Sign}
use Rattle.luf_lex.specs.declared.token.Word.{Word as Keyword}
use Rattle.luf_lex.specs.declared.token.Word.TheVariants as keyword
use Rattle.luf_lex.proofs.TokenLemmas.{length_tokens}
use Rattle.luf_lex.proofs.PieceSpellings.{SpelledAt, spelled_at}
use Rattle.luf_bare.specs.Writing.{opens}
use Rattle.luf_guard.proofs.Numerals.{form_front}
use Rattle.luf_guard.proofs.Strings.{short_quote}
use Rattle.luf_draft.specs.Flat.{AreAlike, token_at, is_not, word_is_not}
use Rattle.luf_style.specs.Styled.{AreWritten}
use Rattle.luf_style.specs.Styled as styled
use Rattle.luf_style.specs.inner.Written.{IsWritten, IsText, AreTexts, quote_in}
use Rattle.luf_style.specs.inner.Written as one

-- ---- one token

-- a short string in other quotes is a short string
short_written : (s w : List ℕ) (q : ℕ) → is_quote q ≡ true → IsShortString s → IsRequoted s q w → IsShortString w
short_written s w q quote (value, sv) is =
    let same = same_string s q w quote is in
    let short = same.0 (short_is_spelled s value sv) in
    valued ((same.1 value).0 (inl sv)) short.1.1
  where
    valued : IsValue w value → {next : List ℕ} → w ≡ q ∷ next → IsShortString w
    valued (inl x) front = (value, x)
    valued (inr (n, body, long, text)) front = absurd (long_is_not_short q w _ n body quote front long)

token_written : (quote : List ℕ → ℕ) → ((s : List ℕ) → is_quote (quote s) ≡ true) → (t : Tok) (s w : List ℕ) → Spells (Token t) s → IsWritten quote t s w → Spells (Token t) w
token_written quote quotes _ s w h (one.requoted is) = short_written s w (quote s) (quotes s) h is
token_written quote quotes t s _ h (one.kept other) = h

-- all tokens are written as their kinds are spelled
pub tokens_written : (quote : List ℕ → ℕ) → ((s : List ℕ) → is_quote (quote s) ≡ true) → (toks : List Tok) (spellings written : List (List ℕ)) → AreWritten quote toks spellings written
    → ((i : ℕ) (t : Tok) → slice_get toks i ≡ Some t → Spells (Token t) (get_or spellings i [])) → (i : ℕ) (t : Tok) → slice_get toks i ≡ Some t → Spells (Token t) (get_or written i [])
tokens_written quote quotes _ _ _ styled.nothing spelled i t there = spelled i t there
tokens_written quote quotes _ _ _ (styled.requoted {spelling} {written} is rest) spelled zero t there =
    subst (λ u. Spells (Token u) written) (same_Some Short t there) (short_written spelling written (quote spelling) (quotes spelling) (spelled 0 Short refl) is)
tokens_written quote quotes _ _ _ (styled.requoted is rest) spelled (suc i) t there = tokens_written quote quotes _ _ _ rest (λ n u at. spelled (suc n) u at) i t there
tokens_written quote quotes _ _ _ (styled.kept other rest) spelled zero t there = spelled 0 t there
tokens_written quote quotes _ _ _ (styled.kept other rest) spelled (suc i) t there = tokens_written quote quotes _ _ _ rest (λ n u at. spelled (suc n) u at) i t there

pub as_many_written : {quote : List ℕ → ℕ} {toks : List Tok} {spellings written : List (List ℕ)} → AreWritten quote toks spellings written → length written ≡ length toks
as_many_written styled.nothing = refl
as_many_written (styled.requoted is rest) = let more = as_many_written rest in omega (arith, more)
as_many_written (styled.kept other rest) = let more = as_many_written rest in omega (arith, more)

-- and names as they were
pub names_written : {quote : List ℕ → ℕ} {toks : List Tok} {spellings written : List (List ℕ)} → AreWritten quote toks spellings written
    → (i : ℕ) → slice_get toks i ≡ Some Name → get_or spellings i [] ≡ get_or written i []
names_written styled.nothing i there = refl
names_written (styled.requoted is rest) zero there = absurd cc
names_written (styled.requoted is rest) (suc i) there = names_written rest i there
names_written (styled.kept other rest) zero there = refl
names_written (styled.kept other rest) (suc i) there = names_written rest i there

-- a short string has the value that it had
pub values_written : (quote : List ℕ → ℕ) → ((s : List ℕ) → is_quote (quote s) ≡ true) → (toks : List Tok) (spellings written : List (List ℕ)) → AreWritten quote toks spellings written
    → (i : ℕ) → slice_get toks i ≡ Some Short → (value : List ℕ) → IsValue (get_or spellings i []) value ↔ IsValue (get_or written i []) value
values_written quote quotes _ _ _ styled.nothing i there value = (λ h. h, λ h. h)
values_written quote quotes _ _ _ (styled.requoted {spelling} {written} is rest) zero there value = (same_string spelling (quote spelling) written (quotes spelling) is).1 value
values_written quote quotes _ _ _ (styled.requoted is rest) (suc i) there value = values_written quote quotes _ _ _ rest i there value
values_written quote quotes _ _ _ (styled.kept other rest) zero there value = (λ h. h, λ h. h)
values_written quote quotes _ _ _ (styled.kept other rest) (suc i) there value = values_written quote quotes _ _ _ rest i there value

pub quote_in_is_quote : (style : QuoteStyle) (s : List ℕ) → is_quote (quote_in style s) ≡ true
quote_in_is_quote style s =
    quote_byte_is_quote (chosen style (record { single = count_by (λ b. b == byte "'") (inside s); double = count_by (λ b. b == byte "\"") (inside s) }))

-- a short string as it is requoted
pub requoted_whole : (style : QuoteStyle) (s : List ℕ) (counts : Counts) (q : Quote) (old new written : List ℕ)
    → counts.single ≡ count_by (λ b. b == byte "'") (inside s) → counts.double ≡ count_by (λ b. b == byte "\"") (inside s) → q ≡ chosen style counts
    → old ≡ [] → GrowsBy (IsRequoted s (quote_byte q)) old new → written ≡ new → IsRequoted s (quote_in style s) written
requoted_whole style s counts q old new written single double q_is none (bytes, is, new_is) written_is =
    let same : quote_byte q ≡ quote_in style s = ap quote_byte (q_is ∙ (λ i. chosen style (record { single = single i; double = double i }))) in
    subst (λ (w : List ℕ). IsRequoted s (quote_in style s) w) (sym (written_is ∙ new_is ∙ ap (λ (o : List ℕ). o ++ bytes) none)) (subst (λ n. IsRequoted s n bytes) same is)

pub token_spelled : (source : List ℕ) (pieces : List Piece) → IsCut source pieces → (n : ℕ) (t : Tok) (s : List ℕ) → Some t ≡ slice_get (toks_of pieces) n → Some s ≡ slice_get (spellings_of source pieces) n → Spells (Token t) s
token_spelled source pieces cut n t s tok spelling =
    let here = spelled_at source pieces cut n s (sym spelling) in
    subst (λ u. Spells (Token u) s) (same_Some here.0 t (sym here.1 ∙ sym tok)) here.2

differ : (a b : List ℕ) → (a ≡ b → ⊥) → bytes_eq a b ≡ false
differ a b other = false_from_ne_true (bytes_eq a b) (λ t. other ((bytes_eq-Decides a b).0 t))

word_opens : (k : Keyword) → bytes_eq (word_spelling k) (codes "(") ≡ false
word_opens keyword.And = refl
word_opens _ = refl

word_not : (k : Keyword) → bytes_eq (word_spelling k) (codes "not") ≡ word_is_not k
word_not keyword.Not = refl
word_not keyword.And = refl
word_not _ = refl

mark_opens : (m : Mark) → bytes_eq (sign_spelling m) (codes "(") ≡ opens (Sign m)
mark_opens sign.LeftParen = refl
mark_opens sign.Plus = refl
mark_opens _ = refl

mark_not : (m : Mark) → bytes_eq (sign_spelling m) (codes "not") ≡ false
mark_not sign.Plus = refl
mark_not _ = refl

-- just the sign `(` is written so
opens_alike : (t : Tok) (w : List ℕ) → Spells (Token t) w → bytes_eq w (codes "(") ≡ opens t
opens_alike Name w h = differ w (codes "(") (λ e. false≢true (subst (λ v. begins is_letter v ≡ true) e h.first))
opens_alike Number w h = differ w (codes "(") (λ e. false≢true (subst (λ v. begins_numeral v ≡ true) e (form_front w h)))
opens_alike Short w h = differ w (codes "(") (λ e. false≢true (subst (λ v. begins is_quote v ≡ true) e (short_quote w h)))
opens_alike Long w h = differ w (codes "(") (λ e. false≢true (subst (λ v. opens_long v ≡ true) e (long_opens w h)))
opens_alike (Word k) w h = ap (λ v. bytes_eq v (codes "(")) (sym h) ∙ word_opens k
opens_alike (Sign m) w h = ap (λ v. bytes_eq v (codes "(")) (sym h) ∙ mark_opens m

-- and just the word `not`
not_alike : (t : Tok) (w : List ℕ) → Spells (Token t) w → bytes_eq w (codes "not") ≡ is_not t
not_alike Name w h = differ w (codes "not") (λ e. h.no_keyword keyword.Not (sym e))
not_alike Number w h = differ w (codes "not") (λ e. false≢true (subst (λ v. begins_numeral v ≡ true) e (form_front w h)))
not_alike Short w h = differ w (codes "not") (λ e. false≢true (subst (λ v. begins is_quote v ≡ true) e (short_quote w h)))
not_alike Long w h = differ w (codes "not") (λ e. false≢true (subst (λ v. opens_long v ≡ true) e (long_opens w h)))
not_alike (Word k) w h = ap (λ v. bytes_eq v (codes "not")) (sym h) ∙ word_not k
not_alike (Sign m) w h = ap (λ v. bytes_eq v (codes "not")) (sym h) ∙ mark_not m

-- ---- all tokens

-- each is spelled as its token
data AllSpelled : List Tok → List (List ℕ) → Type 0 where
  nothing : AllSpelled [] []
  also : {t : Tok} {w : List ℕ} {toks : List Tok} {written : List (List ℕ)} → Spells (Token t) w → AllSpelled toks written → AllSpelled (t ∷ toks) (w ∷ written)

written_spelled : (quote : List ℕ → ℕ) → ((s : List ℕ) → is_quote (quote s) ≡ true) → {toks : List Tok} {spellings written : List (List ℕ)} → AreWritten quote toks spellings written
    → ((n : ℕ) (a : List ℕ) → slice_get spellings n ≡ Some a → SpelledAt toks n a) → AllSpelled toks written
written_spelled quote quotes styled.nothing each = nothing
written_spelled quote quotes (styled.requoted {spelling = s} {written = w} is more) each =
    let here = each 0 s refl in
    also (token_written quote quotes Short s w (subst (λ t. Spells (Token t) s) (sym (same_Some Short here.0 here.1)) here.2) (one.requoted is))
    (written_spelled quote quotes more (λ n. each (suc n)))
written_spelled quote quotes (styled.kept {t = t} {spelling = s} other more) each =
    let here = each 0 s refl in
    also (subst (λ u. Spells (Token u) s) (sym (same_Some t here.0 here.1)) here.2) (written_spelled quote quotes more (λ n. each (suc n)))

each_opens : {toks : List Tok} {written : List (List ℕ)} → AllSpelled toks written → (n : ℕ) → bytes_eq (get_or written n []) (codes "(") ≡ opens (token_at toks n)
each_opens nothing zero = refl
each_opens nothing (suc n) = refl
each_opens (also {t = t} {w = w} h more) zero = opens_alike t w h
each_opens (also h more) (suc n) = each_opens more n

each_not : {toks : List Tok} {written : List (List ℕ)} → AllSpelled toks written → (n : ℕ) → bytes_eq (get_or written n []) (codes "not") ≡ is_not (token_at toks n)
each_not nothing zero = refl
each_not nothing (suc n) = refl
each_not (also {t = t} {w = w} h more) zero = not_alike t w h
each_not (also h more) (suc n) = each_not more n

each_text : {toks : List Tok} {written : List (List ℕ)} → AllSpelled toks written → (n : ℕ) → IsText (get_or written n [])
each_text nothing zero = one.none
each_text nothing (suc n) = one.none
each_text (also {t = t} h more) zero = one.spelled (t, h)
each_text (also h more) (suc n) = each_text more n

module _ (source : List ℕ) (pieces : List Piece) (cut : IsCut source pieces) (style : QuoteStyle) (written : List (List ℕ)) (are : AreWritten (quote_in style) (toks_of pieces) (spellings_of source pieces) written) where
  all_spelled : AllSpelled (toks_of pieces) written
  all_spelled = written_spelled (quote_in style) (quote_in_is_quote style) are (spelled_at source pieces cut)

  pub written_alike : AreAlike (toks_of pieces) written
  written_alike = record { same_opens = each_opens all_spelled; same_not = each_not all_spelled }

  pub written_texts : AreTexts written
  written_texts = record { each = each_text all_spelled }

-- ---- one after another

pub as_many : (source : List ℕ) (pieces : List Piece) → length (spellings_of source pieces) ≡ length (toks_of pieces)
as_many source pieces = length-map (tokens_of pieces) (λ p. slice_range source p.span.from p.span.to) ∙ length_tokens pieces

pub with_one : (quote : List ℕ → ℕ) {t : Tok} {s w : List ℕ} {toks : List Tok} {spellings written : List (List ℕ)} → IsWritten quote t s w → AreWritten quote toks spellings written
    → AreWritten quote (t ∷ toks) (s ∷ spellings) (w ∷ written)
with_one quote (one.requoted is) more = styled.requoted is more
with_one quote (one.kept other) more = styled.kept other more

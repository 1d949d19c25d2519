-- A token is the first piece of what begins with it and does not go on from it.
use Rattle.std.proofs.Common.{◌≡◌, ℕ, ◌<◌, true, false, eqb, List, [], ◌∷◌, ◌++◌, length, drop, refl, sym, ap, ◌∙◌, subst, arith}
use Rattle.std.specs.List.{prefix_len}
use Rattle.std.proofs.lemmas.Bool.{false_from_ne_true, false≢true}
use Rattle.luf_byte.specs.Class.{is_letter, is_word_byte}
use Rattle.luf_byte.specs.Front.{begins}
use Rattle.luf_lex.specs.Spelling.{Spells}
use Rattle.luf_str.specs.LongEnd.{opens_long}
use Rattle.luf_lex.specs.First.{IsFirst}
use Rattle.luf_lex.specs.declared.token.Tok.{Tok}
use Rattle.luf_lex.specs.declared.token.Tok.TheVariants.{Name, Number, Short, Long, Word, Sign}
use Rattle.luf_lex.specs.declared.token.Sign.TheVariants.{LeftBracket}
use Rattle.luf_lex.specs.declared.token.Kind.{Kind}
use Rattle.luf_lex.specs.declared.token.Kind.TheVariants.{Token}
use Rattle.luf_lex.proofs.RunLemmas.{begins_weaker}
use Rattle.luf_lex.proofs.PlainLemmas.{keyword_letter, letter_is_word, word_spelled}
use Rattle.luf_guard.specs.Space.{StandApart}
use Rattle.luf_guard.specs.inner.Joins.{goes_on}
use Rattle.luf_guard.proofs.Words.{begins_some, begins_front, run_before, letters_before, word_ends}
use Rattle.luf_guard.proofs.Numerals.{numeral_some, numeral_before, numeral_ends}
use Rattle.luf_guard.proofs.Strings.{short_some, short_before, long_some, long_before}
use Rattle.luf_guard.proofs.Signs.{sign_some, sign_space, sign_before}
use Rattle.luf_guard.proofs.SignEnds.{sign_ends}
use Rattle.luf_guard.proofs.Three.{apart_first}

-- what may directly follow a token without being taken into it
pub record Stops (t : Tok) (a x : List ℕ) : Type 0 where
  pub next : begins (goes_on t) x ≡ false
  pub bracket : t ≡ Sign LeftBracket → opens_long (91 ∷ x) ≡ false

pub first_before : (t : Tok) (a x : List ℕ) → Spells (Token t) a → Stops t a x → IsFirst (a ++ x) (Token t) (length a)
first_before Name a x h stop = letters_before Name a x refl h h.first stop.next
first_before Number a x h stop = numeral_before a x h stop.next
first_before Short a x h stop = short_before a x h
first_before Long a x h stop = long_before a x h
first_before (Word w) a x h stop = letters_before (Word w) a x refl h (keyword_letter a w h) stop.next
first_before (Sign s) a x h stop =
    subst (λ (t : List ℕ). IsFirst (t ++ x) (Token (Sign s)) (length t)) h (sign_before s x stop.next (λ e. stop.bracket (ap Sign e)))

pub spelled_some : (t : Tok) (a : List ℕ) → Spells (Token t) a → 0 < length a
spelled_some Name a h = begins_some is_letter a h.first
spelled_some Number a h = numeral_some a h
spelled_some Short a h = omega (arith, short_some a h)
spelled_some Long a h = omega (arith, long_some a h)
spelled_some (Word w) a h = begins_some is_letter a (keyword_letter a w h)
spelled_some (Sign s) a h = omega (arith, sign_some s, ap length h)

-- any token stops before a space, and before nothing
pub stops_space : (t : Tok) (a x : List ℕ) → Spells (Token t) a → Stops t a (32 ∷ x)
stops_space t a x h = record { next = space t; bracket = λ e. refl }
  where
    space : (t : Tok) → goes_on t 32 ≡ false
    space (Sign s) = sign_space s
    space Name = refl
    space _ = refl

pub stops_nothing : (t : Tok) (a : List ℕ) → Spells (Token t) a → Stops t a []
stops_nothing t a h = record { next = refl; bracket = λ e. refl }

-- a token is not the first piece of what goes on from it
pub token_ends : (t : Tok) (k : Kind) (a b : List ℕ) → Spells (Token t) a → begins (goes_on t) b ≡ true → IsFirst (a ++ b) k (length a) → ⊥
token_ends Name k a b h more first = word_ends k a b h.first h.each more first
token_ends Number k a b h more first = numeral_ends k a b h more first
token_ends (Word w) k a b h more first =
    let letter = keyword_letter a w h in
    word_ends k a b letter (word_spelled (Token (Word w)) a refl h (begins_weaker is_letter is_word_byte letter_is_word a letter)) more first
token_ends (Sign s) k a b h more first = sign_ends s k b more (subst (λ (t : List ℕ). IsFirst (t ++ b) k (length t)) (sym h) first)
token_ends Short k a [] h more first = false≢true more
token_ends Short k a (c ∷ b) h more first = false≢true more
token_ends Long k a [] h more first = false≢true more
token_ends Long k a (c ∷ b) h more first = false≢true more

-- what does not begin with `[`, nor with `=`, makes no long bracket with a `[` before it
pub no_bracket : (x : List ℕ) → begins (λ c. eqb c 91) x ≡ false → begins (λ c. eqb c 61) x ≡ false → opens_long (91 ∷ x) ≡ false
no_bracket x bracket equal = let none : prefix_len (λ c. eqb c 61) x ≡ 0 = run_before (λ c. eqb c 61) [] x refl equal in ap (λ n. begins (λ c. eqb c 91) (drop n x)) none ∙ bracket

-- A token that stands apart from the next one stops before any text that begins with the next one. Only a `[` needs to
-- know that no `=` comes next.
pub apart_stops : (t u : Tok) (a b x : List ℕ) → Spells (Token t) a → Spells (Token u) b → StandApart a b → (t ≡ Sign LeftBracket → begins (λ c. eqb c 61) b ≡ false) → Stops t a (b ++ x)
apart_stops t u a b x h g apart bracket =
    let first = apart_first a b apart in
    let some : 0 < length b = spelled_some u b g in
    let stop : begins (goes_on t) b ≡ false = false_from_ne_true _ (λ more. token_ends t first.0 a b h more first.1) in
    record {
      next = begins_front (goes_on t) b x some ∙ stop;
      bracket = λ e. no_bracket (b ++ x)
          (begins_front (λ c. eqb c 91) b x some ∙ subst (λ v. begins (goes_on v) b ≡ false) e stop)
          (begins_front (λ c. eqb c 61) b x some ∙ bracket e);
    }

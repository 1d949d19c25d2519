-- Signs before what makes a longer piece of them.
use Rattle.std.proofs.Common.{◌≡◌, ℕ, ◌+◌, ◌<◌, ◌≤◌, ◌⊎◌, inl, inr, true, eqb, List, [], ◌∷◌, ◌++◌, length, take, refl, sym, ap, ◌∙◌, subst, arith}
use Rattle.std.proofs.lemmas.Bool.{or_cases, or_left, or_right, eqb-true, false≢true}
use Rattle.luf_byte.specs.Class.{is_digit, is_letter}
use Rattle.luf_num.specs.Numeral.{is_decimal_mark}
use Rattle.luf_byte.specs.Front.{begins}
use Rattle.luf_lex.specs.Sign.{sign_spelling}
use Rattle.luf_lex.specs.Spelling.{Spells}
use Rattle.luf_lex.specs.First.{IsFirst, is_tried, group_of, numeral_tail}
use Rattle.luf_lex.specs.declared.group.Group.TheVariants.{Numeric, Other}
use Rattle.luf_lex.specs.declared.token.Tok.TheVariants as tok
use Rattle.luf_lex.specs.declared.token.Sign.{Sign}
use Rattle.luf_lex.specs.declared.token.Sign.TheVariants.{Minus, Slash, Tilde, ShiftLeft, ShiftRight, SlashSlash, Equal, NotEqual, LessEqual, GreaterEqual, Less, Greater, Assign, LeftBracket, DoubleColon, Colon, Dot, DotDot, Dots}
use Rattle.luf_lex.specs.declared.token.Kind.{Kind}
use Rattle.luf_lex.specs.declared.token.Kind.TheVariants.{Token, Comment}
use Rattle.luf_lex.proofs.LoneKind.{commented_kind, bracketed_kind}
use Rattle.luf_guard.specs.inner.Joins.{goes_word, sign_goes_on}
use Rattle.luf_guard.proofs.Numerals.{numeral_group, tail_some}
use Rattle.luf_guard.proofs.Strings.{long_some}

comment_some : (a : List ℕ) → Spells Comment a → 1 < length a
comment_some a (inl c) = omega (arith, ap length c.spelled)
comment_some a (inr c) = omega (arith, ap length c.spelled)

-- where a longer sign stands, a sign is not the first piece
longer_sign : (s r : Sign) (k : Kind) (c byte : ℕ) (b : List ℕ) → eqb c byte ≡ true → group_of (sign_spelling s ++ byte ∷ b) ≡ Other → length (sign_spelling s) < length (sign_spelling r) → length (sign_spelling r) ≤ length (sign_spelling s ++ byte ∷ b)
    → sign_spelling r ≡ take (length (sign_spelling r)) (sign_spelling s ++ byte ∷ b) → IsFirst (sign_spelling s ++ c ∷ b) k (length (sign_spelling s)) → ⊥
longer_sign s r k c byte b same group more within is first = at_byte (subst (λ x. IsFirst (sign_spelling s ++ x ∷ b) k (length (sign_spelling s))) (eqb-true c byte same) first)
  where
    at_byte : IsFirst (sign_spelling s ++ byte ∷ b) k (length (sign_spelling s)) → ⊥
    at_byte f =
        f.longest (λ numeric. let no : Other ≡ Numeric = sym group ∙ numeric in cc) (Token (tok.Sign r)) (length (sign_spelling r)) (ap (λ g. is_tried g (Token (tok.Sign r))) group) more within is

-- two dashes begin a comment
dash_ends : (k : Kind) (b : List ℕ) → IsFirst (45 ∷ 45 ∷ b) k 1 → ⊥
dash_ends k b first = omega (arith, comment_some (45 ∷ []) (subst (λ j. Spells j (45 ∷ [])) (commented_kind k first.tried) first.spelled))

-- two brackets begin a long bracket
bracket_ends : (k : Kind) (b : List ℕ) → IsFirst (91 ∷ 91 ∷ b) k 1 → ⊥
bracket_ends k b first = omega (arith, long_some (91 ∷ []) (subst (λ j. Spells j (91 ∷ [])) (bracketed_kind k first.tried) first.spelled))

-- a point and a digit begin a numeral
point_ends : (k : Kind) (c : ℕ) (b : List ℕ) → is_digit c ≡ true → IsFirst (46 ∷ c ∷ b) k 1 → ⊥
point_ends k c b digit first =
    let scan : ◌≡◌ {A = ℕ} 1 (1 + numeral_tail is_decimal_mark (c ∷ b)) = first.numeral (numeral_group (46 ∷ c ∷ b) digit) in
    omega (arith, scan, tail_some is_decimal_mark (c ∷ b) (digit_goes c digit))
  where
    digit_goes : (c : ℕ) → is_digit c ≡ true → goes_word c ≡ true
    digit_goes c digit = or_left _ _ (or_right (is_letter c) _ digit)

pub sign_ends : (s : Sign) (k : Kind) (b : List ℕ) → begins (sign_goes_on s) b ≡ true → IsFirst (sign_spelling s ++ b) k (length (sign_spelling s)) → ⊥
sign_ends s k [] more first = false≢true more
sign_ends Minus k (c ∷ b) more first = dash_ends k b (subst (λ x. IsFirst (45 ∷ x ∷ b) k 1) (eqb-true c 45 more) first)
sign_ends LeftBracket k (c ∷ b) more first = bracket_ends k b (subst (λ x. IsFirst (91 ∷ x ∷ b) k 1) (eqb-true c 91 more) first)
sign_ends Dot k (c ∷ b) more first = by_cases (or_cases (eqb c 46) (is_digit c) more)
  where
    by_cases : (eqb c 46 ≡ true) ⊎ (is_digit c ≡ true) → ⊥
    by_cases (inl point) = longer_sign Dot DotDot k c 46 b point refl (omega arith) (omega arith) refl first
    by_cases (inr digit) = point_ends k c b digit first
sign_ends DotDot k (c ∷ b) more first = longer_sign DotDot Dots k c 46 b more refl (omega arith) (omega arith) refl first
sign_ends Slash k (c ∷ b) more first = longer_sign Slash SlashSlash k c 47 b more refl (omega arith) (omega arith) refl first
sign_ends Colon k (c ∷ b) more first = longer_sign Colon DoubleColon k c 58 b more refl (omega arith) (omega arith) refl first
sign_ends Assign k (c ∷ b) more first = longer_sign Assign Equal k c 61 b more refl (omega arith) (omega arith) refl first
sign_ends Tilde k (c ∷ b) more first = longer_sign Tilde NotEqual k c 61 b more refl (omega arith) (omega arith) refl first
sign_ends Less k (c ∷ b) more first = by_cases (or_cases (eqb c 60) (eqb c 61) more)
  where
    by_cases : (eqb c 60 ≡ true) ⊎ (eqb c 61 ≡ true) → ⊥
    by_cases (inl less) = longer_sign Less ShiftLeft k c 60 b less refl (omega arith) (omega arith) refl first
    by_cases (inr equal) = longer_sign Less LessEqual k c 61 b equal refl (omega arith) (omega arith) refl first
sign_ends Greater k (c ∷ b) more first = by_cases (or_cases (eqb c 62) (eqb c 61) more)
  where
    by_cases : (eqb c 62 ≡ true) ⊎ (eqb c 61 ≡ true) → ⊥
    by_cases (inl greater) = longer_sign Greater ShiftRight k c 62 b greater refl (omega arith) (omega arith) refl first
    by_cases (inr equal) = longer_sign Greater GreaterEqual k c 61 b equal refl (omega arith) (omega arith) refl first
sign_ends _ k (c ∷ b) more first = false≢true more

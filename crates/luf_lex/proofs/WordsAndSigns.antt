-- Which keyword a text is, and which is the longest sign that it begins with.
use Rattle.std.proofs.Common.{◌≡◌, ℕ, zero, suc, ◌<◌, ◌≤◌, ◌⊎◌, Bool, true, false, cond, eqb, ◌&&◌, List, [], ◌∷◌, length, take, refl, sym, ap, ◌∙◌, arith, inl, inr}
use Rattle.std.proofs.lemmas.Bool.{cases_order}
use Rattle.std.proofs.lemmas.List.{length-take}
use Rattle.luf_lex.specs.Word.{word_spelling}
use Rattle.luf_lex.specs.Sign.{sign_spelling, StartsWith}
use Rattle.luf_lex.specs.declared.token.Word.{Word as Keyword}
use Rattle.luf_lex.specs.declared.token.Word.TheVariants.{And, Break, Do, Else, ElseIf, End, False, For, Function, Goto, If, In, Local, Nil, Not, Or, Repeat, Return, Then, True, Until, While}
use Rattle.luf_lex.specs.declared.token.Sign.{Sign as Mark}
use Rattle.luf_lex.specs.declared.token.Sign.TheVariants.{Plus, Minus, Star, Slash, Percent, Caret, Hash, Amp, Tilde, Bar, ShiftLeft, ShiftRight, SlashSlash, Equal, NotEqual, LessEqual, GreaterEqual, Less, Greater, Assign, LeftParen, RightParen, LeftBrace, RightBrace, LeftBracket, RightBracket, DoubleColon, Semicolon, Colon, Comma, Dot, DotDot, Dots}
use Rattle.luf_lex.proofs.Decided.{Decided, same_or_not}
use Rattle.luf_lex.proofs.PlainLemmas.{sign_some}

-- ---- a spelling is of one keyword, and of one sign

same : List ℕ → List ℕ → Bool
same [] [] = true
same (a ∷ front) (b ∷ back) = eqb a b && same front back
same [] (b ∷ back) = false
same (a ∷ front) [] = false

pick_word : List Keyword → List ℕ → Keyword
pick_word [] text = And
pick_word (w ∷ words) text = cond (same (word_spelling w) text) w (pick_word words text)

words : List Keyword
words = And ∷ Break ∷ Do ∷ Else ∷ ElseIf ∷ End ∷ False ∷ For ∷ Function ∷ Goto ∷ If ∷ In ∷ Local ∷ Nil ∷ Not ∷ Or ∷ Repeat ∷ Return ∷ Then ∷ True ∷ Until ∷ While ∷ []

picked_word : (w : Keyword) → pick_word words (word_spelling w) ≡ w
unfolding pick_word same words
picked_word And = refl
picked_word _ = refl

pub word_is_one : (v w : Keyword) → word_spelling v ≡ word_spelling w → v ≡ w
word_is_one v w e = sym (picked_word v) ∙ ap (pick_word words) e ∙ picked_word w

pick_sign : List Mark → List ℕ → Mark
pick_sign [] text = Plus
pick_sign (s ∷ signs) text = cond (same (sign_spelling s) text) s (pick_sign signs text)

signs : List Mark
signs = Plus ∷ Minus ∷ Star ∷ Slash ∷ Percent ∷ Caret ∷ Hash ∷ Amp ∷ Tilde ∷ Bar ∷ ShiftLeft ∷ ShiftRight ∷ SlashSlash ∷ Equal ∷ NotEqual ∷ LessEqual ∷ GreaterEqual ∷ Less ∷ Greater ∷ Assign ∷ LeftParen ∷ RightParen ∷ LeftBrace ∷ RightBrace ∷ LeftBracket ∷ RightBracket ∷ DoubleColon ∷ Semicolon ∷ Colon ∷ Comma ∷ Dot ∷ DotDot ∷ Dots ∷ []

picked_sign : (s : Mark) → pick_sign signs (sign_spelling s) ≡ s
unfolding pick_sign same signs
picked_sign Plus = refl
picked_sign _ = refl

pub sign_is_one : (r s : Mark) → sign_spelling r ≡ sign_spelling s → r ≡ s
sign_is_one r s e = sym (picked_sign r) ∙ ap (pick_sign signs) e ∙ picked_sign s

-- ---- whether a text is a keyword, or a sign

pub keyword_or_not : (text : List ℕ) → Decided ((w : Keyword) × (word_spelling w ≡ text))
keyword_or_not text =
    elim (same_or_not (word_spelling (pick_word words text)) text) [
      | inl e ↦ inl (pick_word words text, e)
      | inr other ↦ inr (λ h. other (ap word_spelling (ap (pick_word words) (sym h.1) ∙ picked_word h.0) ∙ h.1))
    ]

sign_or_not : (text : List ℕ) → Decided ((s : Mark) × (sign_spelling s ≡ text))
sign_or_not text =
    elim (same_or_not (sign_spelling (pick_sign signs text)) text) [
      | inl e ↦ inl (pick_sign signs text, e)
      | inr other ↦ inr (λ h. other (ap sign_spelling (ap (pick_sign signs) (sym h.1) ∙ picked_sign h.0) ∙ h.1))
    ]

-- ---- the longest sign of at most so many bytes

abbrev pub LongestSign : ℕ → List ℕ → Type 0
LongestSign most text = (s : Mark) × StartsWith text (sign_spelling s) × ((other : Mark) → length (sign_spelling other) ≤ most → length (sign_spelling s) < length (sign_spelling other) → StartsWith text (sign_spelling other) → ⊥)

abbrev pub NoSign : ℕ → List ℕ → Type 0
NoSign most text = (s : Mark) → length (sign_spelling s) ≤ most → StartsWith text (sign_spelling s) → ⊥

take_again : (n : ℕ) (text : List ℕ) → take (length (take n text)) text ≡ take n text
take_again zero text = refl
take_again (suc n) [] = refl
take_again (suc n) (b ∷ text) = ap (λ t. b ∷ t) (take_again n text)

begins_within : (text : List ℕ) (s : Mark) → StartsWith text (sign_spelling s) → length (sign_spelling s) ≤ length text
begins_within text s h = omega (arith, ap length h, length-take (length (sign_spelling s)) text)

-- a sign that is no front of this length is shorter
shorter : (most : ℕ) (text : List ℕ) → ((s : Mark) × (sign_spelling s ≡ take (suc most) text) → ⊥) → (s : Mark) → length (sign_spelling s) ≤ suc most → StartsWith text (sign_spelling s) → length (sign_spelling s) ≤ most
shorter most text none s few h =
    elim (cases_order (length (sign_spelling s)) (suc most)) [
      | inl e ↦ absurd (none (s, sym h ∙ ap (λ n. take n text) e))
      | inr (inl less) ↦ omega arith
      | inr (inr more) ↦ omega arith
    ]

pub longest_sign : (most : ℕ) (text : List ℕ) → LongestSign most text ⊎ NoSign most text
longest_sign zero text = inr (λ s few h. omega (arith, sign_some s))
longest_sign (suc most) text =
    elim (sign_or_not (take (suc most) text)) [
      | inl h ↦ inl (
        h.0,
        ap (λ t. take (length t) text) h.1 ∙ take_again (suc most) text ∙ sym h.1,
        λ other few more begins. omega (arith, ap length h.1, length-take (suc most) text, begins_within text other begins),
      )
      | inr none ↦ elim (longest_sign most text) [
        | inl h ↦ inl (h.0, h.1, λ other few more begins. h.2 other (shorter most text none other few begins) more begins)
        | inr never ↦ inr (λ s few begins. never s (shorter most text none s few begins) begins)
      ]
    ]

pub sign_few : (s : Mark) → length (sign_spelling s) ≤ 3
sign_few Plus = omega arith
sign_few _ = omega arith

-- The texts of marks are texts, and which of them need a blank.
use Rattle.std.proofs.Common.{◌≡◌, ℕ, ◌+◌, ◌<◌, Bool, true, false, eqb, List, [], ◌∷◌, ◌++◌, length, map, refl, sym, ap, ◌∙◌, arith}
use Rattle.std.proofs.lemmas.Bool.{eqb-true, eqb-false}
use Rattle.std.proofs.lemmas.List.{nil_from_length}
use Rattle.luf_text.specs.declared.Span.{Span}
use Rattle.luf_lex.specs.Cut.{Cuts}
use Rattle.luf_lex.specs.declared.token.Piece.{Piece}
use Rattle.luf_lex.specs.declared.token.Tok.TheVariants as tok
use Rattle.luf_guard.specs.Space.{IsTokenSpelling, StandApart, NeedSpace, span_between}
use Rattle.luf_draft.specs.Flat.{shown}
use Rattle.luf_draft.specs.declared.mark.Mark.{Mark}
use Rattle.luf_draft.specs.declared.mark.Mark.TheVariants as mark
use Rattle.luf_style.specs.inner.Running.{text_of, first_flat}
use Rattle.luf_style.specs.inner.Written.{IsText, AreTexts}
use Rattle.luf_style.specs.inner.Written as written_is

module _ (written : List (List ℕ)) (texts : AreTexts written) where
  pub text_is : (m : Mark) → IsText (text_of (shown written m))
  text_is (mark.Token n) = texts.each n
  text_is (mark.Word w) = written_is.spelled (tok.Word w, refl)
  text_is (mark.Sign s) = written_is.spelled (tok.Sign s, refl)
  text_is (mark.Gap g) = written_is.none
  text_is mark.Trail = written_is.none
  text_is (mark.Open part) = written_is.none
  text_is mark.Close = written_is.none

  pub first_is : (marks : List Mark) → IsText (first_flat (map (shown written) marks))
  first_is [] = written_is.none
  first_is (mark.Token n ∷ marks) = texts.each n
  first_is (mark.Word w ∷ marks) = written_is.spelled (tok.Word w, refl)
  first_is (mark.Sign s ∷ marks) = written_is.spelled (tok.Sign s, refl)
  first_is (mark.Gap g ∷ marks) = first_is marks
  first_is (mark.Trail ∷ marks) = first_is marks
  first_is (mark.Open part ∷ marks) = first_is marks
  first_is (mark.Close ∷ marks) = first_is marks

-- ---- beside no text

-- no piece is empty
whole_pieces : (source : List ℕ) (at to n m : ℕ) (pieces : List Piece) → Cuts source at pieces to
    → map (λ p. p.span) pieces ≡ span_between 0 1 ∷ span_between 1 (1 + n) ∷ span_between (1 + n) (1 + n + m) ∷ [] → (0 < n) × (0 < m)
whole_pieces source at to n m [] cut is = let no : [] ≡ span_between 0 1 ∷ span_between 1 (1 + n) ∷ span_between (1 + n) (1 + n + m) ∷ [] = is in absurd cc
whole_pieces source at to n m (p ∷ []) cut is = let no : [] ≡ span_between 1 (1 + n) ∷ span_between (1 + n) (1 + n + m) ∷ [] = cc in absurd cc
whole_pieces source at to n m (p ∷ q ∷ []) cut is = let no : [] ≡ span_between (1 + n) (1 + n + m) ∷ [] = cc in absurd cc
whole_pieces source at to n m (p ∷ q ∷ r ∷ pieces) cut is =
    let second : q.span ≡ span_between 1 (1 + n) = cc in
    let third : r.span ≡ span_between (1 + n) (1 + n + m) = cc in
    let some = cut.3.2.some in
    let more = cut.3.3.2.some in
    (omega (arith, some, ap (λ (s : Span). s.to) second, ap (λ (s : Span). s.from) second), omega (arith, more, ap (λ (s : Span). s.to) third, ap (λ (s : Span). s.from) third))

two_texts : (a b : List ℕ) → StandApart a b → (0 < length a) × (0 < length b)
two_texts a b apart =
    whole_pieces (32 ∷ (a ++ b)) 0 (length (32 ∷ (a ++ b))) (length a) (length b) apart.cut.rest apart.cut.cut (ap (map (λ p. p.span)) (sym apart.cut.head) ∙ apart.three)

pub none_before : (a b : List ℕ) → a ≡ [] → NeedSpace a b
none_before a b none apart = let some = (two_texts a b apart).0 in absurd (omega (arith, some, ap length none))

pub none_behind : (a b : List ℕ) → b ≡ [] → NeedSpace a b
none_behind a b none apart = let some = (two_texts a b apart).1 in absurd (omega (arith, some, ap length none))

pub token_text : (a : List ℕ) → IsText a → (a ≡ [] → ⊥) → IsTokenSpelling a
token_text _ written_is.none some = absurd (some refl)
token_text a (written_is.spelled is) some = is

-- ---- as the program tests it

pub is_nothing : {A : Type 0} (a : List A) (v : Bool) → v ≡ eqb (length a) 0 → v ≡ true → a ≡ []
is_nothing a v is t = nil_from_length a (eqb-true (length a) 0 (sym is ∙ t))

pub is_something : {A : Type 0} (a : List A) (v : Bool) → v ≡ eqb (length a) 0 → v ≡ false → a ≡ [] → ⊥
is_something a v is f none = eqb-false (length a) 0 (sym is ∙ f) (ap length none)

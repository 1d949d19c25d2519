-- The cut of a blank and two tokens, as two first pieces.
use Rattle.std.proofs.Common.{◌≡◌, ℕ, ◌+◌, ◌-◌, false, List, [], ◌∷◌, ◌++◌, length, length-append, drop, refl, sym, ap, ◌∙◌, subst, arith}
use Rattle.std.specs.Prelude.{map}
use Rattle.std.specs.List.{prefix_len}
use Rattle.std.proofs.Math.Seq.{drop-append_seam, drop-drop}
use Rattle.std.proofs.lemmas.Bool.{cond-false}
use Rattle.luf_text.specs.declared.Span.{Span}
use Rattle.luf_byte.specs.Class.{is_blank}
use Rattle.luf_byte.specs.Front.{begins}
use Rattle.luf_lex.specs.First.{IsFirst}
use Rattle.luf_lex.specs.Cut.{Cuts}
use Rattle.luf_lex.specs.declared.token.Kind.{Kind}
use Rattle.luf_lex.specs.declared.token.Kind.TheVariants.{Blank}
use Rattle.luf_lex.specs.declared.token.Piece.{Piece}
use Rattle.luf_lex.proofs.PlainLemmas.{blank_first}
use Rattle.luf_guard.specs.Space.{StandApart, span_between}

made : Kind → ℕ → ℕ → Piece
made kind from to = record { kind = kind; span = span_between from to }

no_blank : (x : List ℕ) → begins is_blank x ≡ false → prefix_len is_blank x ≡ 0
no_blank [] h = refl
no_blank (b ∷ x) h = cond-false (is_blank b) _ _ h

-- one blank is the first piece
pub blank_before : (x : List ℕ) → begins is_blank x ≡ false → IsFirst (32 ∷ x) Blank 1
blank_before x h = blank_first (32 ∷ x) 1 refl refl (omega (arith, no_blank x h))

second_piece : (source : List ℕ) (pieces : List Piece) (to n : ℕ) (last : Span) → Cuts (32 ∷ source) 0 pieces to → map (λ p. p.span) pieces ≡ span_between 0 1 ∷ span_between 1 (1 + n) ∷ last ∷ [] → (k : Kind) × IsFirst source k n
second_piece source [] to n last cut three = let no : [] ≡ span_between 0 1 ∷ span_between 1 (1 + n) ∷ last ∷ [] = three in absurd cc
second_piece source (p ∷ []) to n last cut three = let no : [] ≡ span_between 1 (1 + n) ∷ last ∷ [] = cc in absurd cc
second_piece source (p ∷ q ∷ pieces) to n last cut three =
    let first : p.span ≡ span_between 0 1 = cc in
    let second : q.span ≡ span_between 1 (1 + n) = cc in
    let size : q.span.to - q.span.from ≡ n = omega (arith, ap (λ (s : Span). s.to) second, ap (λ (s : Span). s.from) second) in
    let there : drop p.span.to (32 ∷ source) ≡ source = ap (λ (s : Span). drop s.to (32 ∷ source)) first in
    (q.kind, subst (λ m. IsFirst source q.kind m) size (subst (λ t. IsFirst t q.kind (q.span.to - q.span.from)) there cut.3.2))

-- of two spellings that stand apart the first is the first piece of both
pub apart_first : (a b : List ℕ) → StandApart a b → (k : Kind) × IsFirst (a ++ b) k (length a)
apart_first a b apart = second_piece (a ++ b) apart.cut.rest _ (length a) _ apart.cut.cut (ap (map (λ p. p.span)) (sym apart.cut.head) ∙ apart.three)

-- and where it is, they stand apart
pub stand_apart : (k j : Kind) (a b : List ℕ) → begins is_blank (a ++ b) ≡ false → IsFirst (a ++ b) k (length a) → IsFirst b j (length b) → StandApart a b
unfolding made
stand_apart k j a b blank first second =
    let la : 1 + length a - 1 ≡ length a = omega arith in
    let lb : 1 + length a + length b - (1 + length a) ≡ length b = omega arith in
    let behind : drop (1 + length a) (32 ∷ (a ++ b)) ≡ b = sym (drop-drop (length a) 1 (32 ∷ (a ++ b))) ∙ drop-append_seam a b in
    let pieces : List Piece = made Blank 0 1 ∷ made k 1 (1 + length a) ∷ made j (1 + length a) (1 + length a + length b) ∷ [] in
    record {
      pieces = pieces;
      cut = record {
        rest = pieces;
        head = refl;
        cut = (
          refl,
          omega arith,
          blank_before (a ++ b) blank,
          (
            refl,
            omega arith,
            subst (λ n. IsFirst (a ++ b) k n) (sym la) first,
            (
              refl,
              omega arith,
              subst (λ n. IsFirst (drop (1 + length a) (32 ∷ (a ++ b))) j n) (sym lb) (subst (λ t. IsFirst t j (length b)) (sym behind) second),
              omega (arith, length-append a b),
            ),
          ),
        );
      };
      three = refl;
    }

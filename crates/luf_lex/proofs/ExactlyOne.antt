-- Each source has exactly one of a cut and a lexical fault.
use Rattle.std.proofs.Common.{ℕ, zero, suc, ◌+◌, ◌≤◌, ◌⊎◌, Bool, true, false, cond, ◌&&◌, eqb, List, [], ◌∷◌, ◌++◌, length, length-drop, drop, refl, subst, arith, inl, inr}
use Rattle.std.specs.List.{prefix_len}
use Rattle.std.proofs.lemmas.Bool.{cases_lt}
use Rattle.std.proofs.lemmas.List.Sums.{prefix_len-le-length}
use Rattle.luf_byte.specs.Class.{in_line}
use Rattle.luf_byte.specs.Front.{begins}
use Rattle.luf_lex.specs.Cut.{Cuts, IsCut, IsLexFault, mark_length, hash_length, head_end, head_of}
use Rattle.luf_lex.specs.declared.fault.LexWhat.{LexWhat}
use Rattle.luf_lex.specs.declared.token.Piece.{Piece}
use Rattle.luf_lex.proofs.CutLemmas.{cuts_next}
use Rattle.luf_lex.proofs.FirstOrFault.{first_or_fault}

-- ---- the head is within the source

mark_within : (source : List ℕ) → mark_length source ≤ length source
mark_within [] = omega arith
mark_within (a ∷ []) = by_test (eqb 239 a)
  where
    by_test : (v : Bool) → cond (v && false) 3 0 ≤ 1
    by_test true = omega arith
    by_test false = omega arith
mark_within (a ∷ b ∷ []) = by_test (eqb 239 a) (eqb 187 b)
  where
    by_test : (v w : Bool) → cond (v && (w && false)) 3 0 ≤ 2
    by_test true true = omega arith
    by_test true false = omega arith
    by_test false w = omega arith
mark_within (a ∷ b ∷ c ∷ source) = by_test (eqb 239 a && (eqb 187 b && (eqb 191 c && true)))
  where
    by_test : (v : Bool) → cond v 3 0 ≤ suc (suc (suc (length source)))
    by_test true = omega arith
    by_test false = omega arith

hash_within : (text : List ℕ) → hash_length text ≤ length text
hash_within text = by_test (begins (λ b. eqb b 35) text)
  where
    by_test : (v : Bool) → cond v (prefix_len in_line text) 0 ≤ length text
    by_test true = prefix_len-le-length in_line text
    by_test false = omega arith

head_within : (source : List ℕ) → head_end source ≤ length source
head_within source = omega (arith, mark_within source, hash_within (drop (mark_length source) source), length-drop (mark_length source) source)

-- ---- piece by piece to the end, or to the first place that has none

abbrev HasCut : List ℕ → Type 0
HasCut source = (pieces : List Piece) × IsCut source pieces

abbrev HasLexFault : List ℕ → Type 0
HasLexFault source = (at : ℕ) × (what : LexWhat) × IsLexFault source at what

-- with at most so many bytes left
cut_from : (left : ℕ) (source : List ℕ) (pieces : List Piece) (at : ℕ) → length source ≤ at + left → at ≤ length source → Cuts source (head_end source) pieces at → HasCut source ⊎ HasLexFault source
cut_from zero source pieces at few within cut =
    inl (head_of source ++ pieces, record { rest = pieces; head = refl; cut = subst (Cuts source (head_end source) pieces) (omega arith) cut })
cut_from (suc left) source pieces at few within cut =
    elim (cases_lt at (length source)) [
      | inr all ↦ inl (head_of source ++ pieces, record { rest = pieces; head = refl; cut = subst (Cuts source (head_end source) pieces) (omega arith) cut })
      | inl inside ↦ elim (first_or_fault (drop at source)) [
        | inr fault ↦ inr (at, fault.0, record { inside = inside; pieces = pieces; before = cut; fault = fault.1 })
        | inl first ↦
            let p : Piece = record { kind = first.0; span = record { from = at; to = at + first.1 } } in
            cut_from left source (pieces ++ p ∷ []) (at + first.1) (omega (arith, first.2.some)) (omega (arith, first.2.within, length-drop at source)) (cuts_next source (head_end source) pieces at first.1 p cut refl refl first.2)
      ]
    ]

pub cut_or_fault : (source : List ℕ) → HasCut source ⊎ HasLexFault source
cut_or_fault source = cut_from (length source) source [] (head_end source) (omega arith) (head_within source) refl

-- The comments of a cut lie in its source.
use Rattle.std.proofs.Common.{◌≡◌, ℕ, Bool, true, false, ◌&&◌, ◌==◌, cond, List, [], ◌∷◌, ◌++◌, length, refl, sym, subst, arith, length-drop}
use Rattle.std.specs.List.{All}
use Rattle.std.proofs.lemmas.List.Elements.{All-cons}
use Rattle.luf_lex.specs.Cut.{Cuts, IsCut, mark_length, head_end}
use Rattle.luf_lex.specs.Note.{is_comment, note_of, lead_from, lead_of}
use Rattle.luf_lex.specs.Tokens.{tokens_of}
use Rattle.luf_lex.specs.declared.token.Piece.{Piece}
use Rattle.luf_gaps.specs.inner.Within.{LiesIn}

none : (source : List ℕ) → All (LiesIn source) []
none source k d inside = absurd (omega arith)

lies : (source : List ℕ) (n : ℕ) (before : List Piece) (at : ℕ) (pieces : List Piece) (to : ℕ) → Cuts source at pieces to → All (LiesIn source) (lead_from n before pieces)
lies source n before at [] to cut = none source
lies source n before at (p ∷ after) to cut = by_test (is_comment p.kind && length (tokens_of before) == n) (lies source n (before ++ p ∷ []) p.span.to after to cut.3)
  where
    by_test : (b : Bool) → All (LiesIn source) (lead_from n (before ++ p ∷ []) after) → All (LiesIn source) (cond b (note_of before p after ∷ []) [] ++ lead_from n (before ++ p ∷ []) after)
    by_test true later = All-cons (LiesIn source) (note_of before p after) (lead_from n (before ++ p ∷ []) after) (cut.1, omega (arith, cut.0, cut.1, cut.2.some, cut.2.within, length-drop at source)) later
    by_test false later = later

-- a piece that is no comment
skip : (source : List ℕ) (n : ℕ) (before : List Piece) (p : Piece) (after : List Piece) → is_comment p.kind ≡ false → All (LiesIn source) (lead_from n (before ++ p ∷ []) after) → All (LiesIn source) (lead_from n before (p ∷ after))
skip source n before p after none later =
    subst (λ b. All (LiesIn source) (cond (b && length (tokens_of before) == n) (note_of before p after ∷ []) [] ++ lead_from n (before ++ p ∷ []) after)) (sym none) later

-- the head has no comment
past_head : (source : List ℕ) (n : ℕ) (marked hashed : Bool) (m h : Piece) (rest : List Piece) → is_comment m.kind ≡ false → is_comment h.kind ≡ false → ((before : List Piece) → All (LiesIn source) (lead_from n before rest)) → All (LiesIn source) (lead_from n [] ((cond marked [] (m ∷ []) ++ cond hashed [] (h ∷ [])) ++ rest))
past_head source n true true m h rest no_m no_h each = each []
past_head source n true false m h rest no_m no_h each = skip source n [] h rest no_h (each (h ∷ []))
past_head source n false true m h rest no_m no_h each = skip source n [] m rest no_m (each (m ∷ []))
past_head source n false false m h rest no_m no_h each = skip source n [] m (h ∷ rest) no_m (skip source n (m ∷ []) h rest no_h (each (m ∷ h ∷ [])))

pub lead_within : (source : List ℕ) (pieces : List Piece) (n : ℕ) → IsCut source pieces → All (LiesIn source) (lead_of pieces n)
lead_within source pieces n cut =
    subst (λ ps. All (LiesIn source) (lead_from n [] ps)) (sym cut.head)
    (past_head source n (mark_length source == 0) (head_end source == mark_length source) _ _ cut.rest refl refl (λ before. lies source n before (head_end source) cut.rest (length source) cut.cut))

-- Where the tokens of a cut lie, and how they are spelled.
use Rattle.std.proofs.Common.{◌≡◌, ℕ, zero, suc, Bool, true, false, cond, Option, Some, None, ◌==◌, ◌≤◌, List, [], ◌∷◌, ◌++◌, length, refl, sym, ap, ◌∙◌, subst, arith, length-drop}
use Rattle.std.specs.Prelude.{slice_get, slice_range}
use Rattle.std.specs.Option.{option_map}
use Rattle.std.proofs.lemmas.Option.{slice_get-map}
use Rattle.luf_lex.specs.Cut.{Cuts, IsCut, head_of, head_end, mark_length}
use Rattle.luf_lex.specs.Tokens.{is_token, tokens_of, spans_of, spellings_of}
use Rattle.luf_lex.specs.declared.token.Piece.{Piece}
use Rattle.luf_text.specs.declared.Span.{Span}

-- each piece lies in the source, from its first byte to its last
piece_within : (source : List ℕ) (at : ℕ) (pieces : List Piece) (to : ℕ) → Cuts source at pieces to → (n : ℕ) (p : Piece) → slice_get (tokens_of pieces) n ≡ Some p → (p.span.from ≤ p.span.to) × (p.span.to ≤ length source)
piece_within source at [] to cut n p found = cc
piece_within source at (q ∷ pieces) to cut n p found =
    by_kind (is_token q.kind) n (λ m h. piece_within source q.span.to pieces to cut.3 m p h) found
  where
    by_kind : (b : Bool) (m : ℕ) → ((m : ℕ) → slice_get (tokens_of pieces) m ≡ Some p → (p.span.from ≤ p.span.to) × (p.span.to ≤ length source)) → slice_get (cond b (q ∷ tokens_of pieces) (tokens_of pieces)) m ≡ Some p → (p.span.from ≤ p.span.to) × (p.span.to ≤ length source)
    by_kind true zero later h =
        let same : q ≡ p = cc in
        subst (λ (r : Piece). (r.span.from ≤ r.span.to) × (r.span.to ≤ length source)) same (cut.1, omega (arith, cut.0, cut.1, cut.2.some, cut.2.within, length-drop at source))
    by_kind true (suc m) later h = later m h
    by_kind false m later h = later m h

-- the head has no token
headless : (marked hashed : Bool) (m h : Piece) (rest : List Piece) → is_token m.kind ≡ false → is_token h.kind ≡ false → tokens_of ((cond marked [] (m ∷ []) ++ cond hashed [] (h ∷ [])) ++ rest) ≡ tokens_of rest
headless true true m h rest no_m no_h = refl
headless true false m h rest no_m no_h = rw no_h
headless false true m h rest no_m no_h = rw no_m
headless false false m h rest no_m no_h = rw (no_m, no_h)

after_head : (source : List ℕ) (rest : List Piece) → tokens_of (head_of source ++ rest) ≡ tokens_of rest
after_head source rest = headless (mark_length source == 0) (head_end source == mark_length source) _ _ rest refl refl

token_within : (source : List ℕ) (pieces : List Piece) (n : ℕ) (p : Piece) → IsCut source pieces → slice_get (tokens_of pieces) n ≡ Some p → (p.span.from ≤ p.span.to) × (p.span.to ≤ length source)
token_within source pieces n p cut found =
    piece_within source (head_end source) cut.rest (length source) cut.cut n p (ap (λ ts. slice_get ts n) (sym (ap tokens_of cut.head ∙ after_head source cut.rest)) ∙ found)

-- where token n lies, and how it is spelled
pub span_within : (source : List ℕ) (pieces : List Piece) (n : ℕ) (span : Span) → IsCut source pieces → Some span ≡ slice_get (spans_of pieces) n → (span.from ≤ span.to) × (span.to ≤ length source)
span_within source pieces n span cut found = by_piece (slice_get (tokens_of pieces) n) refl (found ∙ slice_get-map (λ p. p.span) (tokens_of pieces) n)
  where
    by_piece : (o : Option Piece) → slice_get (tokens_of pieces) n ≡ o → Some span ≡ option_map (λ p. p.span) o → (span.from ≤ span.to) × (span.to ≤ length source)
    by_piece None e h = cc
    by_piece (Some p) e h =
        let same : p.span ≡ span = cc in
        subst (λ (s : Span). (s.from ≤ s.to) × (s.to ≤ length source)) same (token_within source pieces n p cut e)

pub spelling_from : (source : List ℕ) (pieces : List Piece) (n : ℕ) (o : Option Span) → o ≡ slice_get (spans_of pieces) n → option_map (λ s. slice_range source s.from s.to) o ≡ slice_get (spellings_of source pieces) n
spelling_from source pieces n o e =
    ap (λ x. option_map (λ s. slice_range source s.from s.to) x) (e ∙ slice_get-map (λ p. p.span) (tokens_of pieces) n)
    ∙ twice (slice_get (tokens_of pieces) n)
    ∙ sym (slice_get-map (λ p. slice_range source p.span.from p.span.to) (tokens_of pieces) n)
  where
    twice : (x : Option Piece) → option_map (λ s. slice_range source s.from s.to) (option_map (λ p. p.span) x) ≡ option_map (λ p. slice_range source p.span.from p.span.to) x
    twice None = refl
    twice (Some p) = refl

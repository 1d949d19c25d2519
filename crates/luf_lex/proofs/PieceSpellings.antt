-- Each piece of a cut is spelled in the source as its kind is.
use Rattle.std.proofs.Common.{◌≡◌, ℕ, zero, suc, Some, ◌+◌, ◌-◌, Bool, true, false, cond, eqb, List, [], ◌∷◌, ◌++◌, take, drop, refl, sym, ap, ◌∙◌, subst, arith, eq-eqb}
use Rattle.std.specs.Prelude.{map, slice_get, slice_range, nat_eq}
use Rattle.std.specs.Option.{option_to_list}
use Rattle.std.specs.List.{All, prefix_len, starts_with}
use Rattle.std.proofs.lemmas.Bool.{and_parts, eqb-true, false≢true}
use Rattle.std.proofs.lemmas.Bool.Decides.{nat_tests}
use Rattle.std.proofs.lemmas.List.Elements.{All-append, All-cons}
use Rattle.luf_byte.specs.Class.{in_line}
use Rattle.luf_byte.specs.Front.{begins}
use Rattle.luf_lex.specs.Spelling.{Spells, IsHashLine, byte_order_mark}
use Rattle.luf_lex.specs.First.{IsFirst}
use Rattle.luf_lex.specs.Cut.{Cuts, IsCut, mark_length, head_end, head_of}
use Rattle.luf_lex.specs.Tokens.{is_token, tok_of, tokens_of, toks_of, spellings_of}
use Rattle.luf_lex.specs.declared.token.Tok.{Tok}
use Rattle.luf_lex.specs.declared.token.Kind.{Kind}
use Rattle.luf_lex.specs.declared.token.Kind.TheVariants.{Token, HashLine, Mark}
use Rattle.luf_lex.specs.declared.token.Piece.{Piece}
use Rattle.luf_lex.proofs.RunLemmas.{begins_take, begins_weaker, front_passes, run_some}

abbrev pub IsSpelledIn : List ℕ → Piece → Type 0
IsSpelledIn source p = Spells p.kind (slice_range source p.span.from p.span.to)

none_spelled : (source : List ℕ) → All (IsSpelledIn source) []
none_spelled source k d below = absurd (omega arith)

one_spelled : (source : List ℕ) (p : Piece) → IsSpelledIn source p → All (IsSpelledIn source) (p ∷ [])
one_spelled source p h = All-cons (IsSpelledIn source) p [] h (none_spelled source)

-- ---- the head

marked : (source : List ℕ) → starts_with nat_eq source (byte_order_mark) ≡ true → take 3 source ≡ byte_order_mark
marked [] h = absurd (false≢true h)
marked (a ∷ []) h = absurd (false≢true (and_parts _ _ h).1)
marked (a ∷ b ∷ []) h = absurd (false≢true (and_parts _ _ (and_parts _ _ h).1).1)
marked (a ∷ b ∷ c ∷ source) h =
    let first = and_parts _ _ h in
    let second = and_parts _ _ first.1 in
    let third = and_parts _ _ second.1 in
    ap (λ x. x ∷ b ∷ c ∷ []) (sym (eqb-true 0xEF a first.0)) ∙ ap (λ x. 0xEF ∷ x ∷ c ∷ []) (sym (eqb-true 0xBB b second.0)) ∙ ap (λ x. 0xEF ∷ 0xBB ∷ x ∷ []) (sym (eqb-true 0xBF c third.0))

mark_spelled : (source : List ℕ) (v : Bool) → starts_with nat_eq source (byte_order_mark) ≡ v → eqb (cond v 3 0) 0 ≡ false → take (cond v 3 0) source ≡ byte_order_mark
mark_spelled source true e some = marked source e
mark_spelled source false e some = absurd (false≢true (sym some))

sharp_in_line : (b : ℕ) → eqb b 35 ≡ true → in_line b ≡ true
sharp_in_line b h = grind (arith, nat_tests)

hash_spelled : (text : List ℕ) → begins (λ b. eqb b 35) text ≡ true → IsHashLine (take (prefix_len in_line text) text)
hash_spelled text h = record {
  first = begins_take (λ b. eqb b 35) text (prefix_len in_line text) (run_some in_line text (begins_weaker (λ b. eqb b 35) in_line sharp_in_line text h)) ∙ h;
  each = front_passes in_line text;
}

hash_there : (m : ℕ) (text : List ℕ) (v : Bool) → begins (λ b. eqb b 35) text ≡ v → eqb (m + cond v (prefix_len in_line text) 0) m ≡ false → IsHashLine (take (m + cond v (prefix_len in_line text) 0 - m) text)
hash_there m text true e some = subst (λ n. IsHashLine (take n text)) (omega arith) (hash_spelled text e)
hash_there m text false e some = absurd (false≢true (sym some ∙ eq-eqb (m + 0) m (omega arith)))

piece_if : (source : List ℕ) (v : Bool) (p : Piece) → (v ≡ false → IsSpelledIn source p) → All (IsSpelledIn source) (cond v [] (p ∷ []))
piece_if source true p h = none_spelled source
piece_if source false p h = one_spelled source p (h refl)

head_spelled : (source : List ℕ) → All (IsSpelledIn source) (head_of source)
head_spelled source =
    let m : ℕ = mark_length source in
    All-append (IsSpelledIn source) _ _
    (piece_if source (eqb m 0) (record { kind = Mark; span = record { from = 0; to = m } }) (λ some. ap (λ n. take n source) (omega arith) ∙ mark_spelled source (starts_with nat_eq source (byte_order_mark)) refl some))
    (piece_if source (eqb (head_end source) m) (record { kind = HashLine; span = record { from = m; to = head_end source } }) (hash_there m (drop m source) (begins (λ b. eqb b 35) (drop m source)) refl))

-- ---- the pieces behind it

pub cuts_spelled : (source : List ℕ) (at : ℕ) (pieces : List Piece) (to : ℕ) → Cuts source at pieces to → All (IsSpelledIn source) pieces
cuts_spelled source at [] to cut = none_spelled source
cuts_spelled source at (p ∷ pieces) to cut =
    let first = subst (λ i. IsFirst (drop i source) p.kind (p.span.to - p.span.from)) (sym cut.0) cut.2 in
    All-cons (IsSpelledIn source) p pieces first.spelled (cuts_spelled source p.span.to pieces to cut.3)

pub spelled : (source : List ℕ) (pieces : List Piece) → IsCut source pieces → All (IsSpelledIn source) pieces
spelled source pieces cut =
    subst (All (IsSpelledIn source)) (sym cut.head) (All-append (IsSpelledIn source) (head_of source) cut.rest (head_spelled source) (cuts_spelled source (head_end source) cut.rest _ cut.cut))

-- ---- the tokens

-- a token of a list, with this spelling
abbrev pub SpelledAt : List Tok → ℕ → List ℕ → Type 0
SpelledAt toks n a = (t : Tok) × (slice_get toks n ≡ Some t) × Spells (Token t) a

abbrev bytes_of : List ℕ → Piece → List ℕ
bytes_of source p = slice_range source p.span.from p.span.to

by_kind : (source : List ℕ) (p : Piece) (k : Kind) → p.kind ≡ k → (rest : List Piece) → IsSpelledIn source p → ((n : ℕ) (a : List ℕ) → slice_get (spellings_of source rest) n ≡ Some a → SpelledAt (toks_of rest) n a)
    → (n : ℕ) (a : List ℕ) → slice_get (map (bytes_of source) (cond (is_token k) (p ∷ tokens_of rest) (tokens_of rest))) n ≡ Some a → SpelledAt (option_to_list (tok_of k) ++ toks_of rest) n a
by_kind source p (Token t) e rest h later zero a found =
    let same : bytes_of source p ≡ a = cc in
    (t, refl, subst (Spells (Token t)) same (subst (λ k. Spells k (bytes_of source p)) e h))
by_kind source p (Token t) e rest h later (suc n) a found = later n a found
by_kind source p _ e rest h later n a found = later n a found

tokens_spelled : (source : List ℕ) (pieces : List Piece) → All (IsSpelledIn source) pieces → (n : ℕ) (a : List ℕ) → slice_get (spellings_of source pieces) n ≡ Some a → SpelledAt (toks_of pieces) n a
tokens_spelled source [] h n a found = absurd cc
tokens_spelled source (p ∷ pieces) h n a found = by_kind source p p.kind refl pieces (h 0 p (omega arith)) (tokens_spelled source pieces (λ k d below. h (suc k) d (omega arith))) n a found

pub spelled_at : (source : List ℕ) (pieces : List Piece) → IsCut source pieces → (n : ℕ) (a : List ℕ) → slice_get (spellings_of source pieces) n ≡ Some a → SpelledAt (toks_of pieces) n a
spelled_at source pieces cut = tokens_spelled source pieces (spelled source pieces cut)

-- The index of the tokens of a cut.
use Rattle.std.proofs.Common.{◌≡◌, ℕ, zero, suc, ◌+◌, ◌<◌, ◌≤◌, Bool, true, false, cond, Option, Some, None, List, [], ◌∷◌, ◌++◌, length, length-append, get_or, refl, sym, ap, ◌∙◌, subst, arith, append_assoc}
use Rattle.std.specs.Prelude.{slice_get, option_and_then}
use Rattle.std.specs.Option.{option_to_list}
use Rattle.std.proofs.lemmas.Option.{slice_get-get_or, slice_get_past}
use Rattle.luf_lex.specs.Tokens.{is_token, tok_of, tokens_of, toks_of, token_places}
use Rattle.luf_lex.specs.declared.token.Kind.{Kind}
use Rattle.luf_lex.specs.declared.token.Kind.TheVariants.{Token}
use Rattle.luf_lex.specs.declared.token.Piece.{Piece}
use Rattle.luf_lex.specs.declared.token.Tok.{Tok}

-- there are as many places as tokens
length_step : (k : Kind) (at : ℕ) (xs : List ℕ) (n : ℕ) → length xs ≡ n → length (cond (is_token k) (at ∷ xs) xs) ≡ length (option_to_list (tok_of k)) + n
length_step (Token t) at xs n e = omega (arith, e)
length_step _ at xs n e = omega (arith, e)

pub length_places : (at : ℕ) (pieces : List Piece) → length (token_places at pieces) ≡ length (toks_of pieces)
length_places at [] = refl
length_places at (p ∷ pieces) = length_step p.kind at _ _ (length_places (at + 1) pieces) ∙ sym (length-append (option_to_list (tok_of p.kind)) (toks_of pieces))

few_step : (k : Kind) → length (option_to_list (tok_of k)) ≤ 1
few_step (Token t) = omega arith
few_step _ = omega arith

pub length_toks-le : (pieces : List Piece) → length (toks_of pieces) ≤ length pieces
length_toks-le [] = omega arith
length_toks-le (p ∷ pieces) = omega (arith, length_toks-le pieces, length-append (option_to_list (tok_of p.kind)) (toks_of pieces), few_step p.kind)

-- the pieces with a number that are found at a place
abbrev pub found : List Piece → Option ℕ → Option Piece
found pieces None = None
found pieces (Some i) = slice_get pieces i

-- the tokens are the pieces at their places
pub at_seam : {X : Type 0} (front : List X) (x : X) (rest : List X) → slice_get (front ++ x ∷ rest) (length front) ≡ Some x
at_seam [] x rest = refl
at_seam (y ∷ front) x rest = at_seam front x rest

pub token_found : (front pieces : List Piece) (n : ℕ) → slice_get (tokens_of pieces) n ≡ found (front ++ pieces) (slice_get (token_places (length front) pieces) n)
token_found front [] n = refl
token_found front (p ∷ pieces) n =
    let later : (m : ℕ) → slice_get (tokens_of pieces) m ≡ found (front ++ p ∷ pieces) (slice_get (token_places (length front + 1) pieces) m) =
    λ m. token_found (front ++ p ∷ []) pieces m ∙ ap (λ ps. found ps (slice_get (token_places (length (front ++ p ∷ [])) pieces) m)) (append_assoc front (p ∷ []) pieces) ∙ ap (λ i. found (front ++ p ∷ pieces) (slice_get (token_places i pieces) m)) (length-append front (p ∷ [])) in
    by_kind (is_token p.kind) n later
  where
    by_kind : (b : Bool) (m : ℕ) → ((m : ℕ) → slice_get (tokens_of pieces) m ≡ found (front ++ p ∷ pieces) (slice_get (token_places (length front + 1) pieces) m)) → slice_get (cond b (p ∷ tokens_of pieces) (tokens_of pieces)) m ≡ found (front ++ p ∷ pieces) (slice_get (cond b (length front ∷ token_places (length front + 1) pieces) (token_places (length front + 1) pieces)) m)
    by_kind true zero later = sym (at_seam front p pieces)
    by_kind true (suc m) later = later m
    by_kind false m later = later m

-- a place of a token is the place of a piece
pub place_within : (at : ℕ) (pieces : List Piece) (n i : ℕ) → slice_get (token_places at pieces) n ≡ Some i → i < at + length pieces
place_within at [] n i e = cc
place_within at (p ∷ pieces) n i e =
    by_kind (is_token p.kind) n (λ m h. let l : i < at + 1 + length pieces = place_within (at + 1) pieces m i h in omega arith) e
  where
    by_kind : (b : Bool) (m : ℕ) → ((m : ℕ) → slice_get (token_places (at + 1) pieces) m ≡ Some i → i < at + suc (length pieces)) → slice_get (cond b (at ∷ token_places (at + 1) pieces) (token_places (at + 1) pieces)) m ≡ Some i → i < at + suc (length pieces)
    by_kind true zero later h = let same : at ≡ i = cc in omega arith
    by_kind true (suc m) later h = later m h
    by_kind false m later h = later m h

-- a token of the list is the token of its piece
tok_step : (p : Piece) (k : Kind) (toks : List Tok) (pieces : List Piece) (n : ℕ) → tok_of p.kind ≡ tok_of k → ((m : ℕ) → slice_get toks m ≡ option_and_then (λ q. tok_of q.kind) (slice_get pieces m)) → slice_get (option_to_list (tok_of k) ++ toks) n ≡ option_and_then (λ q. tok_of q.kind) (slice_get (cond (is_token k) (p ∷ pieces) pieces) n)
tok_step p (Token t) toks pieces zero e later = sym e
tok_step p (Token t) toks pieces (suc n) e later = later n
tok_step p _ toks pieces n e later = later n

pub tok_at : (pieces : List Piece) (n : ℕ) → slice_get (toks_of pieces) n ≡ option_and_then (λ p. tok_of p.kind) (slice_get (tokens_of pieces) n)
tok_at [] n = refl
tok_at (p ∷ pieces) n = tok_step p p.kind (toks_of pieces) (tokens_of pieces) n refl (tok_at pieces)

tokens_step : (p : Piece) (k : Kind) (pieces : List Piece) (toks : List Tok) → length pieces ≡ length toks → length (cond (is_token k) (p ∷ pieces) pieces) ≡ length (option_to_list (tok_of k) ++ toks)
tokens_step p (Token t) pieces toks e = ap suc e
tokens_step p _ pieces toks e = e

pub length_tokens : (pieces : List Piece) → length (tokens_of pieces) ≡ length (toks_of pieces)
length_tokens [] = refl
length_tokens (p ∷ pieces) = tokens_step p p.kind (tokens_of pieces) (toks_of pieces) (length_tokens pieces)

-- each token of the pieces is one
token_step : (p q : Piece) (b : Bool) (pieces : List Piece) (n : ℕ) → is_token p.kind ≡ b → ((m : ℕ) → slice_get pieces m ≡ Some q → is_token q.kind ≡ true) → slice_get (cond b (p ∷ pieces) pieces) n ≡ Some q → is_token q.kind ≡ true
token_step p q true pieces zero e later h = let same : p ≡ q = cc in subst (λ (r : Piece). is_token r.kind ≡ true) same e
token_step p q true pieces (suc n) e later h = later n h
token_step p q false pieces n e later h = later n h

pub token_is : (pieces : List Piece) (n : ℕ) (q : Piece) → slice_get (tokens_of pieces) n ≡ Some q → is_token q.kind ≡ true
token_is [] n q h = cc
token_is (p ∷ pieces) n q h = token_step p q (is_token p.kind) (tokens_of pieces) n refl (λ m. token_is pieces m q) h

-- the piece that token n is, by the index
pub indexed_within : (tokens : List ℕ) (pieces : List Piece) (n : ℕ) (i : ℕ) → tokens ≡ token_places 0 pieces → n < length tokens → i ≡ get_or tokens n i → i < length pieces
indexed_within tokens pieces n i e within is =
    let at : slice_get (token_places 0 pieces) n ≡ Some i = ap (λ xs. slice_get xs n) (sym e) ∙ slice_get-get_or tokens n i within ∙ ap Some (sym is) in
    omega (arith, place_within 0 pieces n i at)

pub indexed : (tokens : List ℕ) (pieces : List Piece) (n : ℕ) (i : ℕ) (p : Piece) → tokens ≡ token_places 0 pieces → n < length tokens → i ≡ get_or tokens n i → p ≡ get_or pieces i p → Some p ≡ slice_get (tokens_of pieces) n
indexed tokens pieces n i p e within is item =
    let at : slice_get (token_places 0 pieces) n ≡ Some i = ap (λ xs. slice_get xs n) (sym e) ∙ slice_get-get_or tokens n i within ∙ ap Some (sym is) in
    let inside : i < length pieces = omega (arith, place_within 0 pieces n i at) in
    sym (token_found [] pieces n ∙ ap (λ o. found pieces o) at ∙ slice_get-get_or pieces i p inside ∙ ap Some (sym item))

pub not_indexed : (tokens : List ℕ) (pieces : List Piece) (n : ℕ) → tokens ≡ token_places 0 pieces → length tokens ≤ n → slice_get (tokens_of pieces) n ≡ None
not_indexed tokens pieces n e past =
    let count : length (tokens_of pieces) ≡ length tokens = length_tokens pieces ∙ sym (length_places 0 pieces) ∙ ap length (sym e) in
    slice_get_past (tokens_of pieces) n (omega arith)

-- what the reading of a token gives
pub tok_from : (pieces : List Piece) (n : ℕ) (p : Piece) → slice_get (tokens_of pieces) n ≡ Some p → slice_get (toks_of pieces) n ≡ tok_of p.kind
tok_from pieces n p e = tok_at pieces n ∙ ap (λ o. option_and_then (λ q. tok_of q.kind) o) e

pub no_tok_from : (pieces : List Piece) (n : ℕ) → slice_get (tokens_of pieces) n ≡ None → slice_get (toks_of pieces) n ≡ None
no_tok_from pieces n e = tok_at pieces n ∙ ap (λ o. option_and_then (λ q. tok_of q.kind) o) e

pub no_tok : (k : Kind) → ((t : Tok) → k ≡ Token t → ⊥) → tok_of k ≡ None
no_tok (Token t) none = absurd (none t refl)
no_tok _ none = refl

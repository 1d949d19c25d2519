-- What is kept of the pieces while a source is cut, one more piece at a time.
use Rattle.std.proofs.Common.{◌≡◌, ℕ, zero, suc, ◌+◌, ◌<◌, Bool, true, false, cond, Some, List, [], ◌∷◌, ◌++◌, length, get_or, sym, ap, ◌∙◌, subst, arith}
use Rattle.std.proofs.lemmas.Bool.{cond-true, cond-false}
use Rattle.std.specs.Prelude.{slice_get}
use Rattle.std.proofs.lemmas.Option.{slice_get-get_or}
use Rattle.luf_lex.specs.Note.{is_comment}
use Rattle.luf_lex.specs.Tokens.{is_token, token_places}
use Rattle.luf_lex.specs.inner.Growing.{comment_places, IsGrown}
use Rattle.luf_lex.specs.declared.token.Kind.TheVariants.{Token, Comment}
use Rattle.luf_lex.specs.declared.token.Piece.{Piece}
use Rattle.luf_lex.specs.declared.token.Tok.{Tok}

cons_step : (b : Bool) (x : ℕ) (new old more : List ℕ) → new ≡ old ++ more → cond b (x ∷ new) new ≡ cond b (x ∷ old) old ++ more
cons_step true x new old more e = ap (λ l. x ∷ l) e
cons_step false x new old more e = e

keep_step : (b : Bool) (x : ℕ) (new old : List ℕ) → new ≡ old → cond b (x ∷ new) new ≡ cond b (x ∷ old) old
keep_step true x new old e = ap (λ l. x ∷ l) e
keep_step false x new old e = e

-- ---- places
token_place : (at : ℕ) (pieces : List Piece) (p : Piece) → is_token p.kind ≡ true → token_places at (pieces ++ p ∷ []) ≡ token_places at pieces ++ (at + length pieces) ∷ []
token_place at [] p e = cond-true _ _ _ e ∙ ap (λ i. i ∷ []) (omega arith)
token_place at (q ∷ pieces) p e = cons_step (is_token q.kind) at _ _ _ (token_place (at + 1) pieces p e ∙ ap (λ i. token_places (at + 1) pieces ++ i ∷ []) (omega arith))

no_token_place : (at : ℕ) (pieces : List Piece) (p : Piece) → is_token p.kind ≡ false → token_places at (pieces ++ p ∷ []) ≡ token_places at pieces
no_token_place at [] p e = cond-false _ _ _ e
no_token_place at (q ∷ pieces) p e = keep_step (is_token q.kind) at _ _ (no_token_place (at + 1) pieces p e)

comment_place : (at : ℕ) (pieces : List Piece) (p : Piece) → is_comment p.kind ≡ true → comment_places at (pieces ++ p ∷ []) ≡ comment_places at pieces ++ (at + length pieces) ∷ []
comment_place at [] p e = cond-true _ _ _ e ∙ ap (λ i. i ∷ []) (omega arith)
comment_place at (q ∷ pieces) p e = cons_step (is_comment q.kind) at _ _ _ (comment_place (at + 1) pieces p e ∙ ap (λ i. comment_places (at + 1) pieces ++ i ∷ []) (omega arith))

no_comment_place : (at : ℕ) (pieces : List Piece) (p : Piece) → is_comment p.kind ≡ false → comment_places at (pieces ++ p ∷ []) ≡ comment_places at pieces
no_comment_place at [] p e = cond-false _ _ _ e
no_comment_place at (q ∷ pieces) p e = keep_step (is_comment q.kind) at _ _ (no_comment_place (at + 1) pieces p e)

-- a place of a comment is the place of a piece
within_step : (b : Bool) (at n i end : ℕ) (places : List ℕ) → at < end → ((m : ℕ) → slice_get places m ≡ Some i → i < end) → slice_get (cond b (at ∷ places) places) n ≡ Some i → i < end
within_step true at zero i end places first later e = let same : at ≡ i = cc in omega arith
within_step true at (suc n) i end places first later e = later n e
within_step false at n i end places first later e = later n e

comment_within : (at : ℕ) (pieces : List Piece) (n i : ℕ) → slice_get (comment_places at pieces) n ≡ Some i → i < at + length pieces
comment_within at [] n i e = cc
comment_within at (p ∷ pieces) n i e = within_step (is_comment p.kind) at n i _ (comment_places (at + 1) pieces) (omega arith) (λ m h. let l : i < at + 1 + length pieces = comment_within (at + 1) pieces m i h in omega arith) e

pub comment_inside : (comments : List ℕ) (pieces : List Piece) (n : ℕ) → comments ≡ comment_places 0 pieces → n < length comments → get_or comments n 0 < length pieces
comment_inside comments pieces n e within = omega (arith, comment_within 0 pieces n (get_or comments n 0) (ap (λ xs. slice_get xs n) (sym e) ∙ slice_get-get_or comments n 0 within))

-- ---- one more piece
pub grown_token : (tokens comments : List ℕ) (pieces : List Piece) (p : Piece) (t : Tok) (new_tokens : List ℕ) (new : List Piece) → p.kind ≡ Token t → new_tokens ≡ tokens ++ length pieces ∷ [] → new ≡ pieces ++ p ∷ [] → IsGrown tokens comments pieces → IsGrown new_tokens comments new
grown_token tokens comments pieces p t new_tokens new kind ts ps h =
    subst (IsGrown new_tokens comments) (sym ps) (record {
      tokens_at = ts ∙ ap (λ xs. xs ++ length pieces ∷ []) h.tokens_at ∙ ap (λ i. token_places 0 pieces ++ i ∷ []) (omega arith) ∙ sym (token_place 0 pieces p (ap is_token kind));
      comments_at = h.comments_at ∙ sym (no_comment_place 0 pieces p (ap is_comment kind));
    })

pub grown_comment : (tokens comments : List ℕ) (pieces : List Piece) (p : Piece) (new_comments : List ℕ) (new : List Piece) → p.kind ≡ Comment → new_comments ≡ comments ++ length pieces ∷ [] → new ≡ pieces ++ p ∷ [] → IsGrown tokens comments pieces → IsGrown tokens new_comments new
grown_comment tokens comments pieces p new_comments new kind cs ps h =
    subst (IsGrown tokens new_comments) (sym ps) (record {
      tokens_at = h.tokens_at ∙ sym (no_token_place 0 pieces p (ap is_token kind));
      comments_at = cs ∙ ap (λ xs. xs ++ length pieces ∷ []) h.comments_at ∙ ap (λ i. comment_places 0 pieces ++ i ∷ []) (omega arith) ∙ sym (comment_place 0 pieces p (ap is_comment kind));
    })

pub grown_other : (tokens comments : List ℕ) (pieces : List Piece) (p : Piece) (new : List Piece) → is_token p.kind ≡ false → is_comment p.kind ≡ false → new ≡ pieces ++ p ∷ [] → IsGrown tokens comments pieces → IsGrown tokens comments new
grown_other tokens comments pieces p new no_token no_comment ps h =
    subst (IsGrown tokens comments) (sym ps) (record {
      tokens_at = h.tokens_at ∙ sym (no_token_place 0 pieces p no_token);
      comments_at = h.comments_at ∙ sym (no_comment_place 0 pieces p no_comment);
    })

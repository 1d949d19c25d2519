-- What the cut says before each token, piece for piece.
use Rattle.std.specs.Prelude.{slice_index_or}
use Rattle.std.proofs.Common.{◌≡◌, ℕ, zero, suc, ◌+◌, ◌<◌, Bool, true, false, ◌&&◌, cond, eqb, List, [], ◌∷◌, ◌++◌, length, take, reverse, refl, sym, ap, ◌∙◌, arith, append-nil}
use Rattle.std.proofs.lemmas.Bool.{ne_eqb}
use Rattle.std.proofs.lemmas.List.{reverse-append, append_assoc, length-reverse}
use Rattle.std.proofs.Math.Seq.{take-append_seam, take-length}
use Rattle.luf_lex.specs.Note.{is_comment, has_empty_line, note_of, lead_from, blank_of}
use Rattle.luf_lex.specs.Tokens.{is_token, token_places}
use Rattle.luf_lex.specs.declared.note.Note.{Note}
use Rattle.luf_lex.specs.declared.token.Piece as lexed
use Rattle.luf_again.proofs.LexedKinds.{tokens_in, tokens_at}

-- ---- the comments before token n, by recursion over what is left

pub push : (rev : List lexed.Piece) (p : lexed.Piece) → reverse rev ++ p ∷ [] ≡ reverse (p ∷ rev)
push rev p = sym (reverse-append (p ∷ []) rev)

abbrev pub leads_in : ℕ → List lexed.Piece → List lexed.Piece → List Note
leads_in n rev [] = []
leads_in n rev (p ∷ after) = cond (is_comment p.kind && eqb (tokens_in rev) n) (note_of (reverse rev) p after ∷ []) [] ++ leads_in n (p ∷ rev) after

pub leads_at : (n : ℕ) (rev after : List lexed.Piece) → lead_from n (reverse rev) after ≡ leads_in n rev after
leads_at n rev [] = refl
leads_at n rev (p ∷ after) =
    (λ i. cond (is_comment p.kind && eqb (tokens_at rev i) n) (note_of (reverse rev) p after ∷ []) [] ++ lead_from n (push rev p i) after)
    ∙ ap (λ (l : List Note). cond (is_comment p.kind && eqb (tokens_in rev) n) (note_of (reverse rev) p after ∷ []) [] ++ l) (leads_at n (p ∷ rev) after)

-- one piece more
pub none_here : (n : ℕ) (rev : List lexed.Piece) (p : lexed.Piece) (after : List lexed.Piece) → is_comment p.kind ≡ false → leads_in n rev (p ∷ after) ≡ leads_in n (p ∷ rev) after
none_here n rev p after is = ap (λ (b : Bool). cond (b && eqb (tokens_in rev) n) (note_of (reverse rev) p after ∷ []) [] ++ leads_in n (p ∷ rev) after) is

pub one_here : (n : ℕ) (rev : List lexed.Piece) (p : lexed.Piece) (after : List lexed.Piece) → is_comment p.kind ≡ true → eqb (tokens_in rev) n ≡ true
    → leads_in n rev (p ∷ after) ≡ note_of (reverse rev) p after ∷ leads_in n (p ∷ rev) after
one_here n rev p after is here = λ i. cond (is i && here i) (note_of (reverse rev) p after ∷ []) [] ++ leads_in n (p ∷ rev) after

pub not_here : (n : ℕ) (rev : List lexed.Piece) (p : lexed.Piece) (after : List lexed.Piece) → eqb (tokens_in rev) n ≡ false → leads_in n rev (p ∷ after) ≡ leads_in n (p ∷ rev) after
not_here n rev p after here =
    ap (λ (b : Bool). cond (is_comment p.kind && b) (note_of (reverse rev) p after ∷ []) [] ++ leads_in n (p ∷ rev) after) here
    ∙ by (is_comment p.kind)
  where
    by : (b : Bool) → cond (b && false) (note_of (reverse rev) p after ∷ []) [] ++ leads_in n (p ∷ rev) after ≡ leads_in n (p ∷ rev) after
    by true = refl
    by false = refl

more_tokens : (rev : List lexed.Piece) (p : lexed.Piece) (n : ℕ) → n < tokens_in rev → n < tokens_in (p ∷ rev)
more_tokens rev p n before = by (is_token p.kind)
  where
    by : (b : Bool) → n < cond b (suc (tokens_in rev)) (tokens_in rev)
    by true = omega (arith, before)
    by false = before

-- before a token that has been passed nothing more is found
pub passed : (n : ℕ) (rev after : List lexed.Piece) → n < tokens_in rev → leads_in n rev after ≡ []
passed n rev [] before = refl
passed n rev (p ∷ after) before = not_here n rev p after (ne_eqb (tokens_in rev) n (λ e. absurd (omega (arith, e, before)))) ∙ passed n (p ∷ rev) after (more_tokens rev p n before)

-- ---- whether an empty line stands before token n, by recursion over what is left

abbrev pub blanks_in : ℕ → List lexed.Piece → List lexed.Piece → Bool
blanks_in n rev [] = has_empty_line (reverse rev)
blanks_in zero rev (p ∷ after) = cond (is_token p.kind) (has_empty_line (reverse rev)) (blanks_in zero (p ∷ rev) after)
blanks_in (suc n) rev (p ∷ after) = cond (is_token p.kind) (blanks_in n (p ∷ rev) after) (blanks_in (suc n) (p ∷ rev) after)

pub skipped : (n : ℕ) (rev : List lexed.Piece) (p : lexed.Piece) (after : List lexed.Piece) → is_token p.kind ≡ false → blanks_in n rev (p ∷ after) ≡ blanks_in n (p ∷ rev) after
skipped zero rev p after is = ap (λ (b : Bool). cond b (has_empty_line (reverse rev)) (blanks_in zero (p ∷ rev) after)) is
skipped (suc n) rev p after is = ap (λ (b : Bool). cond b (blanks_in n (p ∷ rev) after) (blanks_in (suc n) (p ∷ rev) after)) is

-- `w`: all pieces, of which `k` have been passed
blanks_from : (n k : ℕ) (w rev after : List lexed.Piece) → k ≡ length rev → w ≡ reverse rev ++ after → has_empty_line (take (slice_index_or (token_places k after) n (length w)) w) ≡ blanks_in n rev after
blanks_from zero k w rev [] count whole = ap has_empty_line (take-length w ∙ whole ∙ append-nil (reverse rev))
blanks_from (suc n) k w rev [] count whole = ap has_empty_line (take-length w ∙ whole ∙ append-nil (reverse rev))
blanks_from zero k w rev (p ∷ after) count whole =
    by (is_token p.kind) (blanks_from zero (k + 1) w (p ∷ rev) after (omega (arith, count)) (whole ∙ sym (append_assoc (reverse rev) (p ∷ []) after) ∙ ap (λ (l : List lexed.Piece). l ++ after) (push rev p)))
  where
    here : take k w ≡ reverse rev
    here = (λ i. take ((count ∙ sym (length-reverse rev)) i) (whole i)) ∙ take-append_seam (reverse rev) (p ∷ after)

    by : (b : Bool) → has_empty_line (take (slice_index_or (token_places (k + 1) after) zero (length w)) w) ≡ blanks_in zero (p ∷ rev) after
        → has_empty_line (take (slice_index_or (cond b (k ∷ token_places (k + 1) after) (token_places (k + 1) after)) zero (length w)) w)
        ≡ cond b (has_empty_line (reverse rev)) (blanks_in zero (p ∷ rev) after)
    by true rest = ap has_empty_line here
    by false rest = rest
blanks_from (suc n) k w rev (p ∷ after) count whole =
    by (is_token p.kind) (blanks_from n (k + 1) w (p ∷ rev) after (omega (arith, count)) (whole ∙ sym (append_assoc (reverse rev) (p ∷ []) after) ∙ ap (λ (l : List lexed.Piece). l ++ after) (push rev p)))
    (blanks_from (suc n) (k + 1) w (p ∷ rev) after (omega (arith, count)) (whole ∙ sym (append_assoc (reverse rev) (p ∷ []) after) ∙ ap (λ (l : List lexed.Piece). l ++ after) (push rev p)))
  where
    by : (b : Bool) → has_empty_line (take (slice_index_or (token_places (k + 1) after) n (length w)) w) ≡ blanks_in n (p ∷ rev) after
        → has_empty_line (take (slice_index_or (token_places (k + 1) after) (suc n) (length w)) w) ≡ blanks_in (suc n) (p ∷ rev) after
        → has_empty_line (take (slice_index_or (cond b (k ∷ token_places (k + 1) after) (token_places (k + 1) after)) (suc n) (length w)) w)
        ≡ cond b (blanks_in n (p ∷ rev) after) (blanks_in (suc n) (p ∷ rev) after)
    by true here later = here
    by false here later = later

pub blanks_at : (n : ℕ) (pieces : List lexed.Piece) → blank_of pieces n ≡ blanks_in n [] pieces
blanks_at n pieces = blanks_from n 0 pieces [] pieces refl refl

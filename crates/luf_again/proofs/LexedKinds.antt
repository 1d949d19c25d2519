-- What the definitions of a cut say of a place, by recursion over the pieces before it, the last first, and those behind it.
use Rattle.std.specs.Prelude.{count_by, take_while}
use Rattle.std.specs.List.{list_all, suffix_len, prefix_len}
use Rattle.std.proofs.Common.{◌≡◌, ℕ, suc, ◌+◌, ◌-◌, ◌≤◌, Bool, true, false, not, ◌&&◌, cond, List, [], ◌∷◌, ◌++◌, length, drop, reverse, nat_le, refl, ap, ◌∙◌, arith, length-append}
use Rattle.std.proofs.lemmas.Bool.{false≢true}
use Rattle.std.proofs.lemmas.List.{reverse-append, reverse-reverse, drop-append-le}
use Rattle.std.proofs.lemmas.List.Sums.{take_while-cons, sum_by-append, suffix_len-le-length}
use Rattle.luf_lex.specs.Note.{is_comment, is_blank_kind, is_line_end, is_content, at_line_start, at_line_end, last_gap, has_empty_line}
use Rattle.luf_lex.specs.Tokens.{is_token, tokens_of}
use Rattle.luf_lex.specs.declared.token.Kind.{Kind}
use Rattle.luf_lex.specs.declared.token.Kind.TheVariants.{Token, Comment, Blank, LineEnd, HashLine, Mark}
use Rattle.luf_lex.specs.declared.token.Piece.{Piece}

-- a token is no comment, no blank and no line end
pub token_kind : (k : Kind) → is_token k ≡ true → (is_comment k ≡ false) × (is_blank_kind k ≡ false) × (is_line_end k ≡ false)
token_kind (Token t) is = (refl, refl, refl)
token_kind Comment is = absurd (false≢true is)
token_kind Blank is = absurd (false≢true is)
token_kind LineEnd is = absurd (false≢true is)
token_kind HashLine is = absurd (false≢true is)
token_kind Mark is = absurd (false≢true is)

-- ---- no token and no comment stands earlier on the line

abbrev pub starts : List Piece → Bool
starts [] = true
starts (p ∷ rev) = cond (is_line_end p.kind) true (not (is_content p.kind) && starts rev)

starts_all : (rev : List Piece) → list_all (λ p. not (is_content p.kind)) (take_while (λ p. not (is_line_end p.kind)) rev) ≡ starts rev
starts_all [] = refl
starts_all (p ∷ rev) =
    ap (list_all (λ q. not (is_content q.kind))) (take_while-cons (λ q. not (is_line_end q.kind)) p rev)
    ∙ by (is_line_end p.kind) (starts_all rev)
  where
    by : (b : Bool) → list_all (λ q. not (is_content q.kind)) (take_while (λ q. not (is_line_end q.kind)) rev) ≡ starts rev → list_all (λ q. not (is_content q.kind)) (cond (not b) (p ∷ take_while (λ q. not (is_line_end q.kind)) rev) []) ≡ cond b true (not (is_content p.kind) && starts rev)
    by true rest = refl
    by false rest = ap (λ (b : Bool). not (is_content p.kind) && b) rest

pub starts_at : (rev : List Piece) → at_line_start (reverse rev) ≡ starts rev
starts_at rev = ap (λ (l : List Piece). list_all (λ p. not (is_content p.kind)) (take_while (λ p. not (is_line_end p.kind)) l)) (reverse-reverse rev) ∙ starts_all rev

-- ---- only blanks stand up to a line end or the end

abbrev pub stops : List Piece → Bool
stops [] = true
stops (p ∷ after) = cond (is_line_end p.kind) true (is_blank_kind p.kind && stops after)

pub stops_at : (after : List Piece) → at_line_end after ≡ stops after
stops_at [] = refl
stops_at (p ∷ after) =
    ap (list_all (λ q. is_blank_kind q.kind)) (take_while-cons (λ q. not (is_line_end q.kind)) p after)
    ∙ by (is_line_end p.kind) (stops_at after)
  where
    by : (b : Bool) → at_line_end after ≡ stops after → list_all (λ q. is_blank_kind q.kind) (cond (not b) (p ∷ take_while (λ q. not (is_line_end q.kind)) after) []) ≡ cond b true (is_blank_kind p.kind && stops after)
    by true rest = refl
    by false rest = ap (λ (b : Bool). is_blank_kind p.kind && b) rest

-- ---- the line ends behind the last token and the last comment

abbrev pub ends_in : List Piece → ℕ
ends_in [] = 0
ends_in (p ∷ rev) = cond (is_content p.kind) 0 (cond (is_line_end p.kind) (1 + ends_in rev) (ends_in rev))

abbrev plain : Piece → Bool
plain p = not (is_content p.kind)

-- one more piece in the last gap
gap_more : (before : List Piece) (p : Piece) → last_gap (before ++ p ∷ []) ≡ cond (is_content p.kind) [] (last_gap before ++ p ∷ [])
gap_more before p =
    ap (λ n. drop (n - suffix_len plain (before ++ p ∷ [])) (before ++ p ∷ [])) (length-append before (p ∷ []))
    ∙ ap (λ n. drop ((length before + 1) - n) (before ++ p ∷ [])) measured
    ∙ by (is_content p.kind)
  where
    measured : suffix_len plain (before ++ p ∷ []) ≡ cond (not (is_content p.kind)) (1 + suffix_len plain before) 0
    measured = ap (prefix_len plain) (reverse-append before (p ∷ []))

    within : suffix_len plain before ≤ length before
    within = suffix_len-le-length plain before

    kept : (length before + 1) - (1 + suffix_len plain before) ≡ length before - suffix_len plain before
    kept = omega (arith, within)

    whole : (length before + 1) - 0 ≡ length (before ++ p ∷ [])
    whole = omega (arith, length-append before (p ∷ []))

    by : (b : Bool) → drop ((length before + 1) - cond (not b) (1 + suffix_len plain before) 0) (before ++ p ∷ []) ≡ cond b [] (last_gap before ++ p ∷ [])
    by true = ap (λ n. drop n (before ++ p ∷ [])) whole ∙ drop_all (before ++ p ∷ [])
      where
        drop_all : (l : List Piece) → drop (length l) l ≡ []
        drop_all [] = refl
        drop_all (x ∷ xs) = drop_all xs
    by false = ap (λ n. drop n (before ++ p ∷ [])) kept ∙ drop-append-le (length before - suffix_len plain before) before (p ∷ []) (omega arith)

one : (n m s : ℕ) (c : Bool) → n ≡ m → s ≡ cond c 1 0 → n + s ≡ cond c (1 + m) m
one n m s true same single = omega (arith, same, single)
one n m s false same single = omega (arith, same, single)

single : (p : Piece) → count_by (λ q. is_line_end q.kind) (p ∷ []) ≡ cond (is_line_end p.kind) 1 0
single p = by (is_line_end p.kind)
  where
    by : (b : Bool) → 0 + cond b 1 0 ≡ cond b 1 0
    by true = refl
    by false = refl

ends_all : (rev : List Piece) → count_by (λ p. is_line_end p.kind) (last_gap (reverse rev)) ≡ ends_in rev
ends_all [] = refl
ends_all (p ∷ rev) =
    (λ i. count_by (λ q. is_line_end q.kind) (last_gap (reverse-append (p ∷ []) rev i)))
    ∙ ap (count_by (λ q. is_line_end q.kind)) (gap_more (reverse rev) p)
    ∙ by (is_content p.kind) (ends_all rev)
  where
    by : (b : Bool) → count_by (λ q. is_line_end q.kind) (last_gap (reverse rev)) ≡ ends_in rev → count_by (λ q. is_line_end q.kind) (cond b [] (last_gap (reverse rev) ++ p ∷ [])) ≡ cond b 0 (cond (is_line_end p.kind) (1 + ends_in rev) (ends_in rev))
    by true rest = refl
    by false rest =
        let sum = sum_by-append (λ q. cond (is_line_end q.kind) 1 0) (last_gap (reverse rev)) (p ∷ []) in
        sum ∙ one (count_by (λ q. is_line_end q.kind) (last_gap (reverse rev))) (ends_in rev) (count_by (λ q. is_line_end q.kind) (p ∷ [])) (is_line_end p.kind) rest (single p)

pub ends_at : (rev : List Piece) → has_empty_line (reverse rev) ≡ nat_le 2 (ends_in rev)
ends_at rev = ap (nat_le 2) (ends_all rev)

-- ---- the tokens before a place

abbrev pub tokens_in : List Piece → ℕ
tokens_in [] = 0
tokens_in (p ∷ rev) = cond (is_token p.kind) (suc (tokens_in rev)) (tokens_in rev)

token_more : (before : List Piece) (p : Piece) → length (tokens_of (before ++ p ∷ [])) ≡ cond (is_token p.kind) (suc (length (tokens_of before))) (length (tokens_of before))
token_more [] p = by (is_token p.kind)
  where
    by : (b : Bool) → length (cond b (p ∷ []) []) ≡ cond b 1 0
    by true = refl
    by false = refl
token_more (q ∷ before) p = by (is_token q.kind) (is_token p.kind) (token_more before p)
  where
    by : (b c : Bool) → length (tokens_of (before ++ p ∷ [])) ≡ cond c (suc (length (tokens_of before))) (length (tokens_of before))
        → length (cond b (q ∷ tokens_of (before ++ p ∷ [])) (tokens_of (before ++ p ∷ [])))
        ≡ cond c (suc (length (cond b (q ∷ tokens_of before) (tokens_of before)))) (length (cond b (q ∷ tokens_of before) (tokens_of before)))
    by true true same = ap suc same
    by true false same = ap suc same
    by false true same = same
    by false false same = same

pub tokens_at : (rev : List Piece) → length (tokens_of (reverse rev)) ≡ tokens_in rev
tokens_at [] = refl
tokens_at (p ∷ rev) =
    (λ i. length (tokens_of (reverse-append (p ∷ []) rev i))) ∙ token_more (reverse rev) p
    ∙ ap (λ n. cond (is_token p.kind) (suc n) n) (tokens_at rev)

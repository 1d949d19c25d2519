-- Blanks say nothing of tokens, comments and empty lines: of pieces with their blanks the same is said as of those without.
use Rattle.std.proofs.Common.{◌≡◌, ℕ, zero, suc, ◌+◌, ◌-◌, ◌≤◌, Bool, true, false, not, ◌==◌, ◌&&◌, cond, List, [], ◌∷◌, ◌++◌, length, take, drop, get_or, refl, sym, ap, ◌∙◌, arith, append_assoc, append-nil}
use Rattle.std.specs.Prelude.{count_by, filter, nat_le, reverse, take_while}
use Rattle.std.specs.Option.{option_to_list}
use Rattle.std.specs.List.{list_all, suffix_len}
use Rattle.std.proofs.lemmas.List.{drop_all, drop-append-le, length-reverse, reverse-append, reverse-reverse}
use Rattle.std.proofs.lemmas.List.Elements.{filter-append}
use Rattle.std.proofs.lemmas.List.Sums.{sum_by-append, sum_by-cons, take_while-cons}
use Rattle.luf_lex.specs.Note.{is_comment, is_content, is_blank_kind, is_line_end, note_of, lead_from, lead_of, last_gap, at_line_start, at_line_end, has_empty_line, before_token, blank_of}
use Rattle.luf_lex.specs.Tokens.{is_token, tok_of, tokens_of, toks_of, token_places}
use Rattle.std.proofs.lemmas.Bool.{cond-true, eq-eqb}
use Rattle.luf_lex.specs.inner.Filled.{blank_between, filled, last_end}
use Rattle.luf_lex.specs.declared.note.Note.{Note}
use Rattle.luf_lex.specs.declared.token.Kind.{Kind}
use Rattle.luf_lex.specs.declared.token.Kind.TheVariants.{Token, Comment, Blank}
use Rattle.luf_lex.specs.declared.token.Piece.{Piece}
use Rattle.luf_lex.specs.declared.token.Tok.{Tok}

through : {X Y : Type 0} (f : X → Y) (b : Bool) (x y : X) → f (cond b x y) ≡ cond b (f x) (f y)
through f true x y = refl
through f false x y = refl

abbrev is_solid : Piece → Bool
is_solid p = not (is_blank_kind p.kind)

-- the pieces but the blanks
abbrev solid : List Piece → List Piece
solid pieces = filter is_solid pieces

-- ---- the blanks put back and taken away again
solid_between : (from to : ℕ) → solid (blank_between from to) ≡ []
solid_between from to = by_test (from == to)
  where
    by_test : (b : Bool) → solid (cond b [] (record { kind = Blank; span = record { from = from; to = to } } ∷ [])) ≡ []
    by_test true = refl
    by_test false = refl

solid_filled : (at : ℕ) (pieces : List Piece) (end : ℕ) → solid (filled at pieces end) ≡ solid pieces
solid_filled at [] end = solid_between at end
solid_filled at (p ∷ pieces) end =
    filter-append is_solid (blank_between at p.span.from) (p ∷ filled p.span.to pieces end)
    ∙ ap (λ l. l ++ solid (p ∷ filled p.span.to pieces end)) (solid_between at p.span.from)
    ∙ ap (λ l. cond (is_solid p) (p ∷ l) l) (solid_filled p.span.to pieces end)

solid_reverse : (pieces : List Piece) → solid (reverse pieces) ≡ reverse (solid pieces)
solid_reverse [] = refl
solid_reverse (p ∷ pieces) =
    ap solid (reverse-append (p ∷ []) pieces)
    ∙ filter-append is_solid (reverse pieces) (p ∷ [])
    ∙ ap (λ l. l ++ cond (is_solid p) (p ∷ []) []) (solid_reverse pieces)
    ∙ by_test (is_solid p)
  where
    by_test : (b : Bool) → reverse (solid pieces) ++ cond b (p ∷ []) [] ≡ reverse (cond b (p ∷ solid pieces) (solid pieces))
    by_test true = sym (reverse-append (p ∷ []) (solid pieces))
    by_test false = append-nil (reverse (solid pieces))

-- ---- tokens
tokens_step : (k : Kind) (p : Piece) (us : List Piece) → cond (not (is_blank_kind k)) (cond (is_token k) (p ∷ us) us) us ≡ cond (is_token k) (p ∷ us) us
tokens_step Blank p us = refl
tokens_step _ p us = refl

tokens_solid : (pieces : List Piece) → tokens_of (solid pieces) ≡ tokens_of pieces
tokens_solid [] = refl
tokens_solid (p ∷ pieces) =
    through tokens_of (is_solid p) (p ∷ solid pieces) (solid pieces)
    ∙ ap (λ us. cond (is_solid p) (cond (is_token p.kind) (p ∷ us) us) us) (tokens_solid pieces)
    ∙ tokens_step p.kind p (tokens_of pieces)

pub tokens_filled : (at : ℕ) (pieces : List Piece) (end : ℕ) → tokens_of (filled at pieces end) ≡ tokens_of pieces
tokens_filled at pieces end = sym (tokens_solid (filled at pieces end)) ∙ ap tokens_of (solid_filled at pieces end) ∙ tokens_solid pieces

toks_step : (k : Kind) (ts : List Tok) → cond (not (is_blank_kind k)) (option_to_list (tok_of k) ++ ts) ts ≡ option_to_list (tok_of k) ++ ts
toks_step Blank ts = refl
toks_step _ ts = refl

toks_solid : (pieces : List Piece) → toks_of (solid pieces) ≡ toks_of pieces
toks_solid [] = refl
toks_solid (p ∷ pieces) =
    through toks_of (is_solid p) (p ∷ solid pieces) (solid pieces)
    ∙ ap (λ ts. cond (is_solid p) (option_to_list (tok_of p.kind) ++ ts) ts) (toks_solid pieces)
    ∙ toks_step p.kind (toks_of pieces)

pub toks_filled : (at : ℕ) (pieces : List Piece) (end : ℕ) → toks_of (filled at pieces end) ≡ toks_of pieces
toks_filled at pieces end = sym (toks_solid (filled at pieces end)) ∙ ap toks_of (solid_filled at pieces end) ∙ toks_solid pieces

-- ---- line starts and line ends
abbrev blank_to_end : List Piece → Bool
blank_to_end pieces = list_all (λ p. is_blank_kind p.kind) (take_while (λ p. not (is_line_end p.kind)) pieces)

abbrev bare_to_end : List Piece → Bool
bare_to_end pieces = list_all (λ p. not (is_content p.kind)) (take_while (λ p. not (is_line_end p.kind)) pieces)

abbrev ends_in : List Piece → ℕ
ends_in pieces = count_by (λ p. is_line_end p.kind) (take_while (λ p. not (is_content p.kind)) pieces)

blank_cons : (p : Piece) (pieces : List Piece) → blank_to_end (p ∷ pieces) ≡ cond (not (is_line_end p.kind)) (is_blank_kind p.kind && blank_to_end pieces) true
blank_cons p pieces =
    ap (list_all (λ q. is_blank_kind q.kind)) (take_while-cons (λ q. not (is_line_end q.kind)) p pieces)
    ∙ through (list_all (λ q. is_blank_kind q.kind)) (not (is_line_end p.kind)) (p ∷ take_while (λ q. not (is_line_end q.kind)) pieces) []

blank_step : (k : Kind) (v : Bool) → cond (not (is_blank_kind k)) (cond (not (is_line_end k)) (is_blank_kind k && v) true) v ≡ cond (not (is_line_end k)) (is_blank_kind k && v) true
blank_step Blank v = refl
blank_step _ v = refl

blank_solid : (pieces : List Piece) → blank_to_end (solid pieces) ≡ blank_to_end pieces
blank_solid [] = refl
blank_solid (p ∷ pieces) =
    through blank_to_end (is_solid p) (p ∷ solid pieces) (solid pieces)
    ∙ ap (λ v. cond (is_solid p) v (blank_to_end (solid pieces))) (blank_cons p (solid pieces))
    ∙ ap (λ v. cond (is_solid p) (cond (not (is_line_end p.kind)) (is_blank_kind p.kind && v) true) v) (blank_solid pieces)
    ∙ blank_step p.kind (blank_to_end pieces)
    ∙ sym (blank_cons p pieces)

bare_cons : (p : Piece) (pieces : List Piece) → bare_to_end (p ∷ pieces) ≡ cond (not (is_line_end p.kind)) (not (is_content p.kind) && bare_to_end pieces) true
bare_cons p pieces =
    ap (list_all (λ q. not (is_content q.kind))) (take_while-cons (λ q. not (is_line_end q.kind)) p pieces)
    ∙ through (list_all (λ q. not (is_content q.kind))) (not (is_line_end p.kind)) (p ∷ take_while (λ q. not (is_line_end q.kind)) pieces) []

bare_step : (k : Kind) (v : Bool) → cond (not (is_blank_kind k)) (cond (not (is_line_end k)) (not (is_content k) && v) true) v ≡ cond (not (is_line_end k)) (not (is_content k) && v) true
bare_step Blank v = refl
bare_step _ v = refl

bare_solid : (pieces : List Piece) → bare_to_end (solid pieces) ≡ bare_to_end pieces
bare_solid [] = refl
bare_solid (p ∷ pieces) =
    through bare_to_end (is_solid p) (p ∷ solid pieces) (solid pieces)
    ∙ ap (λ v. cond (is_solid p) v (bare_to_end (solid pieces))) (bare_cons p (solid pieces))
    ∙ ap (λ v. cond (is_solid p) (cond (not (is_line_end p.kind)) (not (is_content p.kind) && v) true) v) (bare_solid pieces)
    ∙ bare_step p.kind (bare_to_end pieces)
    ∙ sym (bare_cons p pieces)

start_solid : (before : List Piece) → at_line_start (solid before) ≡ at_line_start before
start_solid before = ap bare_to_end (sym (solid_reverse before)) ∙ bare_solid (reverse before)

-- ---- empty lines
ends_cons : (p : Piece) (pieces : List Piece) → ends_in (p ∷ pieces) ≡ cond (not (is_content p.kind)) (cond (is_line_end p.kind) 1 0 + ends_in pieces) 0
ends_cons p pieces =
    ap (count_by (λ q. is_line_end q.kind)) (take_while-cons (λ q. not (is_content q.kind)) p pieces)
    ∙ through (count_by (λ q. is_line_end q.kind)) (not (is_content p.kind)) (p ∷ take_while (λ q. not (is_content q.kind)) pieces) []
    ∙ ap (λ n. cond (not (is_content p.kind)) n 0) (sum_by-cons (λ q. cond (is_line_end q.kind) 1 0) p (take_while (λ q. not (is_content q.kind)) pieces))

ends_step : (k : Kind) (n : ℕ) → cond (not (is_blank_kind k)) (cond (not (is_content k)) (cond (is_line_end k) 1 0 + n) 0) n ≡ cond (not (is_content k)) (cond (is_line_end k) 1 0 + n) 0
ends_step Blank n = omega arith
ends_step _ n = refl

ends_solid : (pieces : List Piece) → ends_in (solid pieces) ≡ ends_in pieces
ends_solid [] = refl
ends_solid (p ∷ pieces) =
    through ends_in (is_solid p) (p ∷ solid pieces) (solid pieces)
    ∙ ap (λ n. cond (is_solid p) n (ends_in (solid pieces))) (ends_cons p (solid pieces))
    ∙ ap (λ n. cond (is_solid p) (cond (not (is_content p.kind)) (cond (is_line_end p.kind) 1 0 + n) 0) n) (ends_solid pieces)
    ∙ ends_step p.kind (ends_in pieces)
    ∙ sym (ends_cons p pieces)

-- what is counted of a list's end is what is counted of the start of its reverse
counted_back : (q : Piece → Bool) (r : List Piece) (k : ℕ) → count_by q (drop (length r - k) (reverse r)) ≡ count_by q (take k r)
counted_back q [] zero = refl
counted_back q [] (suc k) = ap (count_by q) (drop_all (0 - suc k) (reverse {A = Piece} []) (omega arith))
counted_back q (x ∷ r) zero = ap (count_by q) (drop_all (suc (length r) - 0) (reverse (x ∷ r)) (omega (arith, length-reverse (x ∷ r))))
counted_back q (x ∷ r) (suc k) =
    ap (λ n. count_by q (drop n (reverse (x ∷ r)))) less
    ∙ ap (λ l. count_by q (drop (length r - k) l)) (reverse-append (x ∷ []) r)
    ∙ ap (count_by q) (drop-append-le (length r - k) (reverse r) (x ∷ []) (omega (arith, length-reverse r)))
    ∙ sum_by-append (λ y. cond (q y) 1 0) (drop (length r - k) (reverse r)) (x ∷ [])
    ∙ ap (λ n. n + count_by q (x ∷ [])) (counted_back q r k)
    ∙ ap (λ n. count_by q (take k r) + n) (sum_by-cons (λ y. cond (q y) 1 0) x [])
    ∙ turned (cond (q x) 1 0) (count_by q (take k r))
    ∙ sym (sum_by-cons (λ y. cond (q y) 1 0) x (take k r))
  where
    less : suc (length r) - suc k ≡ length r - k
    less = omega arith

    turned : (a b : ℕ) → b + (a + 0) ≡ a + b
    turned a b = omega arith

ends_back : (before : List Piece) → count_by (λ p. is_line_end p.kind) (last_gap before) ≡ ends_in (reverse before)
ends_back before =
    ap (λ l. count_by (λ p. is_line_end p.kind) (drop (length before - suffix_len (λ p. not (is_content p.kind)) before) l)) (sym (reverse-reverse before))
    ∙ ap (λ n. count_by (λ p. is_line_end p.kind) (drop (n - suffix_len (λ p. not (is_content p.kind)) before) (reverse (reverse before)))) (sym (length-reverse before))
    ∙ counted_back (λ p. is_line_end p.kind) (reverse before) (suffix_len (λ p. not (is_content p.kind)) before)

empty_solid : (before : List Piece) → has_empty_line (solid before) ≡ has_empty_line before
empty_solid before =
    ap (nat_le 2) (ends_back (solid before) ∙ ap ends_in (sym (solid_reverse before)) ∙ ends_solid (reverse before) ∙ sym (ends_back before))

-- ---- comments
note_solid : (before : List Piece) (p : Piece) (after : List Piece) → note_of (solid before) p (solid after) ≡ note_of before p after
note_solid before p after =
    ap (λ v. made v (at_line_end (solid after)) (has_empty_line (solid before))) (start_solid before)
    ∙ ap (λ v. made (at_line_start before) v (has_empty_line (solid before))) (blank_solid after)
    ∙ ap (λ v. made (at_line_start before) (at_line_end after) v) (empty_solid before)
  where
    made : Bool → Bool → Bool → Note
    made start end empty = record { span = p.span; own_line = start; line_after = end; blank_before = empty }

blank_no_comment : (k : Kind) → is_blank_kind k ≡ true → is_comment k ≡ false
blank_no_comment Blank h = refl
blank_no_comment (Token t) h = refl
blank_no_comment Comment h = absurd cc
blank_no_comment _ h = refl

solid_push : (before : List Piece) (p : Piece) → solid (before ++ p ∷ []) ≡ solid before ++ cond (is_solid p) (p ∷ []) []
solid_push before p = filter-append is_solid before (p ∷ [])

lead_solid : (n : ℕ) (before after : List Piece) → lead_from n (solid before) (solid after) ≡ lead_from n before after
lead_solid n before [] = refl
lead_solid n before (p ∷ after) = by_test (is_blank_kind p.kind) refl (lead_solid n (before ++ p ∷ []) after)
  where
    by_test : (b : Bool) → is_blank_kind p.kind ≡ b → lead_from n (solid (before ++ p ∷ [])) (solid after) ≡ lead_from n (before ++ p ∷ []) after
        → lead_from n (solid before) (cond (not b) (p ∷ solid after) (solid after)) ≡ cond (is_comment p.kind && (length (tokens_of before) == n)) (note_of before p after ∷ []) [] ++ lead_from n (before ++ p ∷ []) after
    by_test true e later =
        ap (λ l. lead_from n l (solid after)) (sym (solid_push before p ∙ ap (λ b. solid before ++ cond (not b) (p ∷ []) []) e ∙ append-nil (solid before)))
        ∙ later
        ∙ ap (λ c. cond (c && (length (tokens_of before) == n)) (note_of before p after ∷ []) [] ++ lead_from n (before ++ p ∷ []) after) (sym (blank_no_comment p.kind e))
    by_test false e later =
        ap (λ ts. cond (is_comment p.kind && (length ts == n)) (note_of (solid before) p (solid after) ∷ []) [] ++ lead_from n (solid before ++ p ∷ []) (solid after)) (tokens_solid before)
        ∙ ap (λ x. cond (is_comment p.kind && (length (tokens_of before) == n)) (x ∷ []) [] ++ lead_from n (solid before ++ p ∷ []) (solid after)) (note_solid before p after)
        ∙ ap (λ l. cond (is_comment p.kind && (length (tokens_of before) == n)) (note_of before p after ∷ []) [] ++ lead_from n l (solid after)) (sym (solid_push before p ∙ ap (λ b. solid before ++ cond (not b) (p ∷ []) []) e))
        ∙ ap (λ l. cond (is_comment p.kind && (length (tokens_of before) == n)) (note_of before p after ∷ []) [] ++ l) later

pub lead_filled : (at : ℕ) (pieces : List Piece) (end n : ℕ) → lead_of (filled at pieces end) n ≡ lead_of pieces n
lead_filled at pieces end n = sym (lead_solid n [] (filled at pieces end)) ∙ ap (lead_from n []) (solid_filled at pieces end) ∙ lead_solid n [] pieces

-- ---- the pieces before a token
abbrev place_in : ℕ → List Piece → ℕ
place_in n [] = 0
place_in zero (p ∷ pieces) = cond (is_token p.kind) 0 (suc (place_in zero pieces))
place_in (suc n) (p ∷ pieces) = suc (cond (is_token p.kind) (place_in n pieces) (place_in (suc n) pieces))

place_is : (at n : ℕ) (pieces : List Piece) → get_or (token_places at pieces) n (at + length pieces) ≡ at + place_in n pieces
place_is at zero [] = refl
place_is at (suc n) [] = refl
place_is at zero (p ∷ pieces) = by_test (is_token p.kind) (place_is (at + 1) zero pieces)
  where
    by_test : (b : Bool) → get_or (token_places (at + 1) pieces) zero (at + 1 + length pieces) ≡ at + 1 + place_in zero pieces
        → get_or (cond b (at ∷ token_places (at + 1) pieces) (token_places (at + 1) pieces)) zero (at + suc (length pieces)) ≡ at + cond b 0 (suc (place_in zero pieces))
    by_test true e = omega arith
    by_test false e = ap (get_or (token_places (at + 1) pieces) zero) (omega arith) ∙ e ∙ omega arith
place_is at (suc n) (p ∷ pieces) = by_test (is_token p.kind) (place_is (at + 1) n pieces) (place_is (at + 1) (suc n) pieces)
  where
    by_test : (b : Bool) → get_or (token_places (at + 1) pieces) n (at + 1 + length pieces) ≡ at + 1 + place_in n pieces → get_or (token_places (at + 1) pieces) (suc n) (at + 1 + length pieces) ≡ at + 1 + place_in (suc n) pieces
        → get_or (cond b (at ∷ token_places (at + 1) pieces) (token_places (at + 1) pieces)) (suc n) (at + suc (length pieces)) ≡ at + suc (cond b (place_in n pieces) (place_in (suc n) pieces))
    by_test true e f = ap (get_or (token_places (at + 1) pieces) n) (omega arith) ∙ e ∙ omega arith
    by_test false e f = ap (get_or (token_places (at + 1) pieces) (suc n)) (omega arith) ∙ f ∙ omega arith

place_le : (n : ℕ) (pieces : List Piece) → place_in n pieces ≤ length pieces
place_le zero [] = omega arith
place_le (suc n) [] = omega arith
place_le zero (p ∷ pieces) = by_test (is_token p.kind) (place_le zero pieces)
  where
    by_test : (b : Bool) → place_in zero pieces ≤ length pieces → cond b 0 (suc (place_in zero pieces)) ≤ suc (length pieces)
    by_test true e = omega arith
    by_test false e = omega arith
place_le (suc n) (p ∷ pieces) = by_test (is_token p.kind) (place_le n pieces) (place_le (suc n) pieces)
  where
    by_test : (b : Bool) → place_in n pieces ≤ length pieces → place_in (suc n) pieces ≤ length pieces → suc (cond b (place_in n pieces) (place_in (suc n) pieces)) ≤ suc (length pieces)
    by_test true e f = omega arith
    by_test false e f = omega arith

place_from_start : (pieces : List Piece) (n : ℕ) → get_or (token_places 0 pieces) n (length pieces) ≡ place_in n pieces
place_from_start pieces n = ap (get_or (token_places 0 pieces) n) (omega arith) ∙ place_is 0 n pieces ∙ omega arith

pub place_within_all : (pieces : List Piece) (n : ℕ) → get_or (token_places 0 pieces) n (length pieces) ≤ length pieces
place_within_all pieces n = omega (arith, place_from_start pieces n, place_le n pieces)

-- the same, as the code reads it
pub read_within : (tokens : List ℕ) (pieces : List Piece) (n place len : ℕ) → tokens ≡ token_places 0 pieces → len ≡ length pieces → place ≡ get_or tokens n len → place ≤ length pieces
read_within tokens pieces n place len e same is = omega (arith, is ∙ ap (λ ts. get_or ts n len) e ∙ ap (get_or (token_places 0 pieces) n) same, place_within_all pieces n)

pub read_before : (tokens : List ℕ) (pieces : List Piece) (n place len : ℕ) → tokens ≡ token_places 0 pieces → len ≡ length pieces → place ≡ get_or tokens n len → take place pieces ≡ before_token pieces n
read_before tokens pieces n place len e same is = ap (λ i. take i pieces) (is ∙ ap (λ ts. get_or ts n len) e ∙ ap (get_or (token_places 0 pieces) n) same)

-- the pieces before a token are those of its place
before_is : (pieces : List Piece) (n : ℕ) → before_token pieces n ≡ take (place_in n pieces) pieces
before_is pieces n = ap (λ i. take i pieces) (place_from_start pieces n)

token_no_blank : (k : Kind) → is_token k ≡ true → not (is_blank_kind k) ≡ true
token_no_blank (Token t) h = refl
token_no_blank Blank h = absurd cc
token_no_blank _ h = refl

no_both : (b : Bool) → b ≡ true → b ≡ false → ⊥
no_both b yea nay = cc

before_solid : (n : ℕ) (pieces : List Piece) → solid (take (place_in n pieces) pieces) ≡ take (place_in n (solid pieces)) (solid pieces)
before_solid zero [] = refl
before_solid (suc n) [] = refl
before_solid zero (p ∷ pieces) = by_test (is_token p.kind) (is_solid p) refl refl (before_solid zero pieces)
  where
    by_test : (t s : Bool) → is_token p.kind ≡ t → is_solid p ≡ s → solid (take (place_in zero pieces) pieces) ≡ take (place_in zero (solid pieces)) (solid pieces)
        → solid (take (cond t 0 (suc (place_in zero pieces))) (p ∷ pieces)) ≡ take (place_in zero (cond s (p ∷ solid pieces) (solid pieces))) (cond s (p ∷ solid pieces) (solid pieces))
    by_test true true e f later = ap (λ b. take (cond b 0 (suc (place_in zero (solid pieces)))) (p ∷ solid pieces)) (sym e)
    by_test true false e f later = absurd (no_both (is_solid p) (token_no_blank p.kind e) f)
    by_test false true e f later = ap (λ b. cond b (p ∷ solid (take (place_in zero pieces) pieces)) (solid (take (place_in zero pieces) pieces))) f ∙ ap (λ l. p ∷ l) later ∙ ap (λ b. take (cond b 0 (suc (place_in zero (solid pieces)))) (p ∷ solid pieces)) (sym e)
    by_test false false e f later = ap (λ b. cond b (p ∷ solid (take (place_in zero pieces) pieces)) (solid (take (place_in zero pieces) pieces))) f ∙ later
before_solid (suc n) (p ∷ pieces) = by_test (is_token p.kind) (is_solid p) refl refl (before_solid n pieces) (before_solid (suc n) pieces)
  where
    by_test : (t s : Bool) → is_token p.kind ≡ t → is_solid p ≡ s → solid (take (place_in n pieces) pieces) ≡ take (place_in n (solid pieces)) (solid pieces) → solid (take (place_in (suc n) pieces) pieces) ≡ take (place_in (suc n) (solid pieces)) (solid pieces)
        → cond (is_solid p) (p ∷ solid (take (cond t (place_in n pieces) (place_in (suc n) pieces)) pieces)) (solid (take (cond t (place_in n pieces) (place_in (suc n) pieces)) pieces)) ≡ take (place_in (suc n) (cond s (p ∷ solid pieces) (solid pieces))) (cond s (p ∷ solid pieces) (solid pieces))
    by_test true true e f here later = ap (λ b. cond b (p ∷ solid (take (place_in n pieces) pieces)) (solid (take (place_in n pieces) pieces))) f ∙ ap (λ l. p ∷ l) here ∙ ap (λ b. p ∷ take (cond b (place_in n (solid pieces)) (place_in (suc n) (solid pieces))) (solid pieces)) (sym e)
    by_test true false e f here later = absurd (no_both (is_solid p) (token_no_blank p.kind e) f)
    by_test false true e f here later = ap (λ b. cond b (p ∷ solid (take (place_in (suc n) pieces) pieces)) (solid (take (place_in (suc n) pieces) pieces))) f ∙ ap (λ l. p ∷ l) later ∙ ap (λ b. p ∷ take (cond b (place_in n (solid pieces)) (place_in (suc n) (solid pieces))) (solid pieces)) (sym e)
    by_test false false e f here later = ap (λ b. cond b (p ∷ solid (take (place_in (suc n) pieces) pieces)) (solid (take (place_in (suc n) pieces) pieces))) f ∙ later

blank_of_solid : (pieces : List Piece) (n : ℕ) → blank_of (solid pieces) n ≡ blank_of pieces n
blank_of_solid pieces n =
    ap has_empty_line (before_is (solid pieces) n ∙ sym (before_solid n pieces))
    ∙ empty_solid (take (place_in n pieces) pieces)
    ∙ ap has_empty_line (sym (before_is pieces n))

pub blank_filled : (at : ℕ) (pieces : List Piece) (end n : ℕ) → blank_of (filled at pieces end) n ≡ blank_of pieces n
blank_filled at pieces end n = sym (blank_of_solid (filled at pieces end) n) ∙ ap (λ ps. blank_of ps n) (solid_filled at pieces end) ∙ blank_of_solid pieces n

-- ---- pieces put behind others
between_none : (at : ℕ) → blank_between at at ≡ []
between_none at = cond-true (at == at) _ _ (eq-eqb at at refl)

-- the pieces so far, with the blanks between them, and the rest are all
pub filled_first : (at : ℕ) (old more : List Piece) (mid end : ℕ) → last_end at old ≡ mid → filled at (old ++ more) end ≡ filled at old mid ++ filled mid more end
filled_first at [] more mid end last =
    ap (λ i. filled i more end) last ∙ ap (λ l. l ++ filled mid more end) (sym (between_none mid) ∙ ap (λ i. blank_between i mid) (sym last))
filled_first at (p ∷ old) more mid end last =
    ap (λ l. blank_between at p.span.from ++ p ∷ l) (filled_first p.span.to old more mid end last)
    ∙ sym (append_assoc (blank_between at p.span.from) (p ∷ filled p.span.to old mid) (filled mid more end))

pub filled_one : (at : ℕ) (p : Piece) → filled at (p ∷ []) p.span.to ≡ blank_between at p.span.from ++ p ∷ []
filled_one at p = ap (λ l. blank_between at p.span.from ++ p ∷ l) (between_none p.span.to)

pub last_first : (at : ℕ) (old more : List Piece) → last_end at (old ++ more) ≡ last_end (last_end at old) more
last_first at [] more = refl
last_first at (p ∷ old) more = last_first p.span.to old more

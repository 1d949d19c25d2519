-- Pieces that no next byte lengthens are the cut of their text.
use Rattle.std.proofs.Common.{◌≡◌, ℕ, suc, ◌+◌, ◌<◌, ◌≤◌, inl, inr, Bool, true, false, cond, not, eqb, ◌||◌, ◌&&◌, List, [], ◌∷◌, ◌++◌, length, length-append, drop, refl, sym, ap, ◌∙◌, subst, arith}
use Rattle.std.specs.List.{list_all, prefix_len}
use Rattle.std.proofs.Math.Seq.{take-append_seam}
use Rattle.std.proofs.lemmas.Bool.{and_left, cond-true, cond-false, false≢true}
use Rattle.std.proofs.lemmas.Bool.Decides.{nat_tests}
use Rattle.luf_byte.specs.LineEnd.{IsLineEnd, is_line_pair, line_end_length}
use Rattle.luf_byte.specs.Class.{is_digit}
use Rattle.luf_str.specs.Bytes.{is_quote}
use Rattle.luf_str.specs.Spelling.{IsLongSpelling}
use Rattle.luf_byte.specs.Class.{is_blank, in_line}
use Rattle.luf_byte.specs.Front.{begins}
use Rattle.luf_lex.specs.Spelling.{Spells, IsRun, IsShortComment, IsLongComment}
use Rattle.luf_str.specs.LongEnd.{opens_long}
use Rattle.luf_lex.specs.First.{IsFirst}
use Rattle.luf_lex.specs.declared.token.Tok.{Tok}
use Rattle.luf_lex.specs.declared.token.Tok.TheVariants.{Sign}
use Rattle.luf_lex.specs.declared.token.Sign.TheVariants.{LeftBracket}
use Rattle.luf_lex.specs.declared.token.Kind.{Kind}
use Rattle.luf_lex.specs.declared.token.Kind.TheVariants.{Token, Comment, Blank, LineEnd}
use Rattle.luf_lex.proofs.RunLemmas.{passing_front}
use Rattle.luf_lex.proofs.PlainLemmas.{blank_first, line_end_first}
use Rattle.luf_lex.proofs.CommentLemmas.{short_comment, long_comment}
use Rattle.luf_guard.specs.inner.Joins.{goes_on}
use Rattle.luf_neat.specs.Pieces.{is_bracket, line_goes_on, lengthens, is_loose}
use Rattle.luf_guard.proofs.Words.{group_is, run_before, begins_some}
use Rattle.luf_guard.proofs.Before.{Stops, first_before, spelled_some, no_bracket}

neither : (x y : Bool) → (x || y) ≡ false → (x ≡ false) × (y ≡ false)
neither true y h = absurd (false≢true (sym h))
neither false y h = (refl, h)

left_none : (p q : ℕ → Bool) (x : List ℕ) → begins (λ c. p c || q c) x ≡ false → begins p x ≡ false
left_none p q [] h = refl
left_none p q (c ∷ x) h = (neither (p c) (q c) h).0

right_none : (p q : ℕ → Bool) (x : List ℕ) → begins (λ c. p c || q c) x ≡ false → begins q x ≡ false
right_none p q [] h = refl
right_none p q (c ∷ x) h = (neither (p c) (q c) h).1

-- ---- a token

token_stops : (t : Tok) (a x : List ℕ) → begins (lengthens (Token t) a) x ≡ false → Stops t a x
token_stops t a x h = record {
  next = left_none (goes_on t) (λ c. is_bracket t && eqb c 61) x h;
  bracket = λ e.
      let is : begins (lengthens (Token (Sign LeftBracket)) a) x ≡ false = subst (λ v. begins (lengthens (Token v) a) x ≡ false) e h in
      no_bracket x (left_none (λ c. eqb c 91) (λ c. eqb c 61) x is) (right_none (λ c. eqb c 91) (λ c. eqb c 61) x is);
}

-- ---- a comment

-- behind a run of `p`, what follows adds nothing
after_run : (p q : ℕ → Bool) (r x : List ℕ) → begins p x ≡ false → begins q x ≡ false → begins q (drop (prefix_len p (r ++ x)) (r ++ x)) ≡ begins q (drop (prefix_len p r) r)
after_run p q [] [] np nq = refl
after_run p q [] (c ∷ x) np nq = ap (λ n. begins q (drop n (c ∷ x))) (cond-false (p c) _ _ np) ∙ nq
after_run p q (b ∷ r) x np nq = by_first (p b) refl (after_run p q r x np nq)
  where
    by_first : (v : Bool) → p b ≡ v → begins q (drop (prefix_len p (r ++ x)) (r ++ x)) ≡ begins q (drop (prefix_len p r) r)
        → begins q (drop (cond (p b) (1 + prefix_len p (r ++ x)) 0) (b ∷ (r ++ x))) ≡ begins q (drop (cond (p b) (1 + prefix_len p r) 0) (b ∷ r))
    by_first true e ih =
        let long : cond (p b) (1 + prefix_len p (r ++ x)) 0 ≡ suc (prefix_len p (r ++ x)) = omega (arith, cond-true (p b) (1 + prefix_len p (r ++ x)) 0 e) in
        let short : cond (p b) (1 + prefix_len p r) 0 ≡ suc (prefix_len p r) = omega (arith, cond-true (p b) (1 + prefix_len p r) 0 e) in
        ap (λ n. begins q (drop n (b ∷ (r ++ x)))) long ∙ ih ∙ sym (ap (λ n. begins q (drop n (b ∷ r))) short)
    by_first false e ih =
        ap (λ n. begins q (drop n (b ∷ (r ++ x)))) (cond-false (p b) (1 + prefix_len p (r ++ x)) 0 e)
        ∙ sym (ap (λ n. begins q (drop n (b ∷ r))) (cond-false (p b) (1 + prefix_len p r) 0 e))

line_other : (p : ℕ → Bool) → ((c : ℕ) → in_line c ≡ false → p c ≡ false) → (x : List ℕ) → begins in_line x ≡ false → begins p x ≡ false
line_other p other [] h = refl
line_other p other (c ∷ x) h = other c h

no_bracket_byte : (c : ℕ) → in_line c ≡ false → eqb c 91 ≡ false
no_bracket_byte c h = grind (arith, nat_tests)

no_equal_byte : (c : ℕ) → in_line c ≡ false → eqb c 61 ≡ false
no_equal_byte c h = grind (arith, nat_tests)

-- a line end opens no long bracket, and closes the front of none
still_plain : (r x : List ℕ) → opens_long r ≡ false → begins in_line x ≡ false → opens_long (r ++ x) ≡ false
still_plain [] [] h stop = refl
still_plain [] (c ∷ x) h stop = and_left _ _ (no_bracket_byte c stop)
still_plain (b ∷ r) x h stop =
    ap (λ v. eqb b 91 && v) (after_run (λ c. eqb c 61) (λ c. eqb c 91) r x (line_other _ no_equal_byte x stop) (line_other _ no_bracket_byte x stop)) ∙ h

short_before : (a x : List ℕ) → IsShortComment a → begins in_line x ≡ false → IsFirst (a ++ x) Comment (length a)
short_before a x c stop =
    let run : prefix_len in_line (c.rest ++ x) ≡ length c.rest = run_before in_line c.rest x c.each stop in
    short_comment (a ++ x) (c.rest ++ x) (length a) (length c.rest) (ap (λ t. t ++ x) (sym c.spelled)) (ap length c.spelled) (still_plain c.rest x c.plain stop)
    (omega (arith, length-append c.rest x)) (subst (λ t. list_all in_line t ≡ true) (sym (take-append_seam c.rest x)) c.each)
    (λ m more within each. omega (arith, run, passing_front in_line (c.rest ++ x) m within each))

long_before : (a x : List ℕ) → IsLongComment a → IsFirst (a ++ x) Comment (length a)
long_before a x c =
    long_comment (a ++ x) (c.rest ++ x) (length a) (length c.rest) (ap (λ t. t ++ x) (sym c.spelled)) (ap length c.spelled)
    (omega (arith, length-append c.rest x)) (subst IsLongSpelling (sym (take-append_seam c.rest x)) c.long)

plain_stops : (v : Bool) (x : List ℕ) → v ≡ false → begins (λ c. not v && in_line c) x ≡ false → begins in_line x ≡ false
plain_stops true x e h = absurd (false≢true (sym e))
plain_stops false x e h = h

short_stops : (a x : List ℕ) → IsShortComment a → begins (lengthens Comment a) x ≡ false → begins in_line x ≡ false
short_stops a x c h = plain_stops (opens_long (drop 2 a)) x (ap (λ t. opens_long (drop 2 t)) c.spelled ∙ c.plain) h

-- ---- blanks

pub blank_others : (b : ℕ) → is_blank b ≡ true → (is_quote b ≡ false) × (eqb b 91 ≡ false) × (eqb b 45 ≡ false) × (eqb b 46 ≡ false) × (is_digit b ≡ false)
blank_others b h = (grind (arith, nat_tests), grind (arith, nat_tests), grind (arith, nat_tests), grind (arith, nat_tests), grind (arith, nat_tests))

blanks_before : (a x : List ℕ) → IsRun is_blank a → begins is_blank x ≡ false → IsFirst (a ++ x) Blank (length a)
blanks_before [] x h stop = absurd (false≢true h.first)
blanks_before (b ∷ a) x h stop =
    let no = blank_others b h.first in
    blank_first (b ∷ (a ++ x)) (suc (length a)) (group_is b (a ++ x) no.0 no.1 no.2 no.3 false no.4) h.first (sym (run_before is_blank (b ∷ a) x h.each stop))

-- ---- a line end

line_size : (a : List ℕ) → IsLineEnd a → (0 < length a) × (length a ≤ 2)
line_size a (inl e) = (omega (arith, ap length e), omega (arith, ap length e))
line_size a (inr (inl e)) = (omega (arith, ap length e), omega (arith, ap length e))
line_size a (inr (inr (inl e))) = (omega (arith, ap length e), omega (arith, ap length e))
line_size a (inr (inr (inr e))) = (omega (arith, ap length e), omega (arith, ap length e))

-- a line end of one byte before what does not go on with it is the longest there
feed_alone : (x : List ℕ) → begins (line_goes_on (10 ∷ [])) x ≡ false → 1 ≡ line_end_length (10 ∷ x)
feed_alone [] stop = refl
feed_alone (c ∷ x) stop = sym (cond-false (is_line_pair 10 c) 2 1 (other_pair c stop))
  where
    other_pair : (c : ℕ) → line_goes_on (10 ∷ []) c ≡ false → is_line_pair 10 c ≡ false
    other_pair c stop = grind (arith, nat_tests)

return_alone : (x : List ℕ) → begins (line_goes_on (13 ∷ [])) x ≡ false → 1 ≡ line_end_length (13 ∷ x)
return_alone [] stop = refl
return_alone (c ∷ x) stop = sym (cond-false (is_line_pair 13 c) 2 1 (other_pair c stop))
  where
    other_pair : (c : ℕ) → line_goes_on (13 ∷ []) c ≡ false → is_line_pair 13 c ≡ false
    other_pair c stop = grind (arith, nat_tests)

line_before : (a x : List ℕ) → IsLineEnd a → begins (line_goes_on a) x ≡ false → IsFirst (a ++ x) LineEnd (length a)
line_before a x (inl e) stop =
    subst (λ (t : List ℕ). begins (line_goes_on t) x ≡ false → IsFirst (t ++ x) LineEnd (length t)) (sym e) (λ h. line_end_first (10 ∷ x) 1 refl refl (feed_alone x h)) stop
line_before a x (inr (inl e)) stop =
    subst (λ (t : List ℕ). begins (line_goes_on t) x ≡ false → IsFirst (t ++ x) LineEnd (length t)) (sym e) (λ h. line_end_first (13 ∷ x) 1 refl refl (return_alone x h)) stop
line_before a x (inr (inr (inl e))) stop = subst (λ (t : List ℕ). IsFirst (t ++ x) LineEnd (length t)) (sym e) (line_end_first (10 ∷ 13 ∷ x) 2 refl refl refl)
line_before a x (inr (inr (inr e))) stop = subst (λ (t : List ℕ). IsFirst (t ++ x) LineEnd (length t)) (sym e) (line_end_first (13 ∷ 10 ∷ x) 2 refl refl refl)

-- ---- any piece

pub piece_some : (k : Kind) (a : List ℕ) → is_loose k ≡ true → Spells k a → 0 < length a
piece_some (Token t) a loose h = spelled_some t a h
piece_some Comment a loose (inl c) = omega (arith, ap length c.spelled)
piece_some Comment a loose (inr c) = omega (arith, ap length c.spelled)
piece_some Blank a loose h = begins_some is_blank a h.first
piece_some LineEnd a loose h = (line_size a h).0
piece_some _ a loose h = absurd (false≢true loose)

-- before any text whose first byte does not lengthen it, a piece is the first one
pub piece_first : (k : Kind) (a x : List ℕ) → is_loose k ≡ true → Spells k a → begins (lengthens k a) x ≡ false → IsFirst (a ++ x) k (length a)
piece_first (Token t) a x loose h stop = first_before t a x h (token_stops t a x stop)
piece_first Comment a x loose (inl c) stop = short_before a x c (short_stops a x c stop)
piece_first Comment a x loose (inr c) stop = long_before a x c
piece_first Blank a x loose h stop = blanks_before a x h stop
piece_first LineEnd a x loose h stop = line_before a x h stop
piece_first _ a x loose h stop = absurd (false≢true loose)

-- Each text has a first piece, or a fault.
use Rattle.std.proofs.Common.{◌≡◌, ℕ, suc, ◌+◌, ◌≤◌, ◌⊎◌, Bool, true, false, cond, ◌&&◌, ◌||◌, eqb, List, [], ◌∷◌, length, take, drop, refl, sym, subst, arith, inl, inr}
use Rattle.std.specs.List.{prefix_len}
use Rattle.std.proofs.lemmas.Bool.{cases_Bool, and_parts, false≢true}
use Rattle.std.proofs.lemmas.List.Sums.{prefix_len-le-length}
use Rattle.luf_byte.specs.Class.{is_hex_digit, is_line_byte, is_letter, is_word_byte, is_blank, in_line}
use Rattle.luf_num.specs.Numeral.{is_decimal_mark, is_binary_mark}
use Rattle.luf_str.specs.declared.ends.ShortEnd.{ShortEnd}
use Rattle.luf_str.specs.declared.ends.ShortEnd.TheVariants as end
use Rattle.luf_str.specs.ShortEnd.{IsShortEnd}
use Rattle.luf_byte.specs.Front.{begins}
use Rattle.luf_byte.specs.LineEnd.{line_end_length}
use Rattle.luf_str.specs.LongEnd.{opens_long}
use Rattle.luf_lex.specs.Sign.{sign_spelling}
use Rattle.luf_lex.specs.First.{group_of, begins_hexadecimal, numeral_tail, numeral_length, IsFirst, IsFault, no_token, bad_escape, open_string, open_long}
use Rattle.luf_lex.specs.declared.group.Group.{Group}
use Rattle.luf_lex.specs.declared.group.Group.TheVariants.{Quoted, Bracketed, Commented, Numeric, Other}
use Rattle.luf_lex.specs.declared.fault.LexWhat.{LexWhat}
use Rattle.luf_lex.specs.declared.fault.LexWhat.TheVariants.{NoToken, BadEscape, OpenString, OpenLong}
use Rattle.luf_lex.specs.declared.token.Tok.TheVariants.{Short, Long}
use Rattle.luf_lex.specs.declared.token.Kind.{Kind}
use Rattle.luf_lex.specs.declared.token.Kind.TheVariants.{Token}
use Rattle.luf_lex.proofs.RunLemmas.{front_passes, passing_front}
use Rattle.luf_lex.proofs.PlainLemmas.{keyword_first, name_first, blank_first, line_end_first, sign_first, none_first}
use Rattle.luf_lex.proofs.WordsAndSigns.{keyword_or_not, longest_sign, sign_few}
use Rattle.luf_lex.proofs.NumeralForms.{numeral_or_not}
use Rattle.luf_lex.proofs.NumeralLemmas.{numeral_first, numeral_fault}
use Rattle.luf_lex.proofs.LoneKind.{quoted_cut, bracketed_opens, commented_cut}
use Rattle.luf_lex.proofs.ShortEnds.{has_end}
use Rattle.luf_lex.proofs.LongEnds.{long_or_open}
use Rattle.luf_lex.proofs.StringLemmas.{first_short, first_long}
use Rattle.luf_lex.proofs.CommentLemmas.{short_comment, long_comment, open_comment}

abbrev HasPiece : List ℕ → Type 0
HasPiece text = (kind : Kind) × (n : ℕ) × IsFirst text kind n

abbrev HasFault : List ℕ → Type 0
HasFault text = (what : LexWhat) × IsFault text what

-- ---- a string in quotes

by_end : (text : List ℕ) (e : ShortEnd) → group_of text ≡ Quoted → IsShortEnd text e → HasPiece text ⊎ HasFault text
by_end text (end.Closed n) group h = inl (Token Short, n, first_short text n group h.0 h.1)
by_end text (end.Bad at) group h = inr (BadEscape, bad_escape text at h)
by_end text end.Open group h = inr (OpenString, open_string text h)

quoted : (text : List ℕ) → group_of text ≡ Quoted → HasPiece text ⊎ HasFault text
quoted text group =
    let cut = quoted_cut text group in
    let ends = has_end cut.0 (drop 1 text) cut.1 in
    by_end text ends.0 group (subst (λ t. IsShortEnd t ends.0) (sym cut.2) ends.1)

-- ---- a long bracket

bracketed : (text : List ℕ) → group_of text ≡ Bracketed → HasPiece text ⊎ HasFault text
bracketed text group =
    elim (long_or_open text (bracketed_opens text group)) [
      | inl h ↦ inl (Token Long, h.0, first_long text h.0 group h.1 h.2)
      | inr unclosed ↦ inr (OpenLong, open_long text unclosed)
    ]

-- ---- a comment

commented : (text : List ℕ) → group_of text ≡ Commented → HasPiece text ⊎ HasFault text
commented text group =
    let rest : List ℕ = drop 2 text in
    let cut : 45 ∷ 45 ∷ rest ≡ text = sym (commented_cut text group) in
    elim (cases_Bool (opens_long rest)) [
      | inl opens ↦ elim (long_or_open rest opens) [
        | inl h ↦ inl (_, _, long_comment text rest (suc (suc h.0)) h.0 cut refl h.1 h.2)
        | inr unclosed ↦ inr (OpenLong, open_comment text rest cut unclosed)
      ]
      | inr plain ↦
          let run : ℕ = prefix_len in_line rest in
          inl (_, _, short_comment text rest (suc (suc run)) run cut refl plain (prefix_len-le-length in_line rest) (front_passes in_line rest) (λ m more within each. omega (arith, passing_front in_line rest m within each)))
    ]

-- ---- a numeral

scan_two : (m s g l : Bool) (x y n : ℕ) → x ≤ n → y ≤ suc n → cond (m && s) (2 + x) (cond (m || g) (1 + y) (cond l 1 0)) ≤ suc (suc n)
scan_two true true g l x y n few less = omega arith
scan_two true false g l x y n few less = omega arith
scan_two false s true l x y n few less = omega arith
scan_two false s false true x y n few less = omega arith
scan_two false s false false x y n few less = omega arith

scan_one : (v : Bool) → cond v 1 0 ≤ 1
scan_one true = omega arith
scan_one false = omega arith

tail_within : (mark : ℕ → Bool) (text : List ℕ) → numeral_tail mark text ≤ length text
tail_within mark [] = omega arith
tail_within mark (b ∷ []) = scan_one (is_hex_digit b || (eqb b 46 || is_letter b))
tail_within mark (b ∷ c ∷ rest) = scan_two (mark b) (eqb c 43 || eqb c 45) (is_hex_digit b || eqb b 46) (is_letter b) _ _ (length rest) (tail_within mark rest) (tail_within mark (c ∷ rest))

numeral_within : (text : List ℕ) → group_of text ≡ Numeric → numeral_length text ≤ length text
numeral_within [] group = absurd cc
numeral_within (b ∷ text) group = by_base text (begins_hexadecimal (b ∷ text)) refl
  where
    by_base : (text : List ℕ) (v : Bool) → begins_hexadecimal (b ∷ text) ≡ v → cond v (2 + numeral_tail is_binary_mark (drop 1 text)) (1 + numeral_tail is_decimal_mark text) ≤ suc (length text)
    by_base text false e = omega (arith, tail_within is_decimal_mark text)
    by_base [] true e = absurd (false≢true (and_parts _ _ e).1)
    by_base (c ∷ text) true e = omega (arith, tail_within is_binary_mark text)

numeric : (text : List ℕ) → group_of text ≡ Numeric → HasPiece text ⊎ HasFault text
numeric text group =
    elim (numeral_or_not (take (numeral_length text) text)) [
      | inl form ↦ inl (_, _, numeral_first text (numeral_length text) group refl (numeral_within text group) form)
      | inr none ↦ inr (_, numeral_fault text (numeral_length text) group refl none)
    ]

-- ---- where none of these begins

word : (text : List ℕ) → group_of text ≡ Other → begins is_letter text ≡ true → HasPiece text
word text group letter =
    let n : ℕ = prefix_len is_word_byte text in
    elim (keyword_or_not (take n text)) [
      | inl w ↦ (_, n, keyword_first text n w.0 group letter refl w.1)
      | inr none ↦ (_, n, name_first text n group letter refl (λ w e. none (w, e)))
    ]

sign : (text : List ℕ) → group_of text ≡ Other → begins is_letter text ≡ false → begins is_blank text ≡ false → begins is_line_byte text ≡ false → HasPiece text ⊎ HasFault text
sign text group letter blank line =
    elim (longest_sign 3 text) [
      | inl h ↦ inl (_, _, sign_first text h.0 (length (sign_spelling h.0)) group letter blank line refl h.1 (λ other more begins. h.2 other (sign_few other) more begins))
      | inr none ↦ inr (NoToken, no_token text group (none_first text group letter blank line (λ s. none s (sign_few s))))
    ]

other : (text : List ℕ) → group_of text ≡ Other → HasPiece text ⊎ HasFault text
other text group =
    elim (cases_Bool (begins is_letter text)) [
      | inl letter ↦ inl (word text group letter)
      | inr no_letter ↦ elim (cases_Bool (begins is_blank text)) [
        | inl blank ↦ inl (_, _, blank_first text (prefix_len is_blank text) group blank refl)
        | inr no_blank ↦ elim (cases_Bool (begins is_line_byte text)) [
          | inl line ↦ inl (_, _, line_end_first text (line_end_length text) group line refl)
          | inr no_line ↦ sign text group no_letter no_blank no_line
        ]
      ]
    ]

-- ---- any text

pub first_or_fault : (text : List ℕ) → HasPiece text ⊎ HasFault text
first_or_fault text = by_group (group_of text) refl
  where
    by_group : (group : Group) → group_of text ≡ group → HasPiece text ⊎ HasFault text
    by_group Quoted e = quoted text e
    by_group Bracketed e = bracketed text e
    by_group Commented e = commented text e
    by_group Numeric e = numeric text e
    by_group Other e = other text e

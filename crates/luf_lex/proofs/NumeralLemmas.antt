-- The scan of a numeral, step by step.
use Rattle.std.proofs.Common.{◌≡◌, ℕ, zero, suc, ◌+◌, ◌-◌, ◌<◌, ◌≤◌, Bool, true, false, cond, ◌&&◌, ◌||◌, eqb, List, [], ◌∷◌, length, take, drop, refl, sym, ap, ◌∙◌, subst, arith, get_or, ◌⊎◌, inl, inr}
use Rattle.std.proofs.lemmas.Bool.{or_cases, eqb-true}
use Rattle.std.proofs.lemmas.List.{drop-drop}
use Rattle.luf_byte.specs.Class.{is_hex_digit, is_letter}
use Rattle.luf_byte.specs.Front.{begins}
use Rattle.luf_num.specs.Numeral.{is_decimal_mark, is_binary_mark, HasNumeralForm}
use Rattle.luf_lex.specs.declared.token.Tok.TheVariants.{Number}
use Rattle.luf_lex.specs.declared.token.Kind.TheVariants.{Token}
use Rattle.luf_lex.specs.First.{numeral_tail, numeral_length, begins_hexadecimal, IsFirst, group_of, is_tried, IsFault, bad_numeral}
use Rattle.luf_lex.specs.declared.group.Group.TheVariants.{Numeric}
use Rattle.luf_lex.specs.declared.fault.LexWhat.TheVariants.{BadNumeral}
use Rattle.luf_lex.specs.inner.Scan.{mark_of, step_of}

-- the same over what the tests answer: m a mark, s a sign behind it, h a hexadecimal digit, d a point, l a letter
on_two : (m s g l : Bool) (f : List ℕ → ℕ) (b c : ℕ) (rest : List ℕ) → 0 < cond (m && s) 2 (cond (m || g) 1 0)
    → cond (m && s) (2 + f rest) (cond (m || g) (1 + f (c ∷ rest)) (cond l 1 0)) ≡ cond (m && s) 2 (cond (m || g) 1 0) + f (drop (cond (m && s) 2 (cond (m || g) 1 0)) (b ∷ c ∷ rest))
on_two true true g l f b c rest some = refl
on_two true false g l f b c rest some = refl
on_two false s true l f b c rest some = refl
on_two false s false l f b c rest some = absurd (omega arith)

on_one : (m h d l : Bool) (f : List ℕ → ℕ) (b : ℕ) → f [] ≡ 0 → (m ≡ true → l ≡ true) → 0 < cond (m || (h || d)) 1 0
    → cond (h || (d || l)) 1 0 ≡ cond (m || (h || d)) 1 0 + f (drop (cond (m || (h || d)) 1 0) (b ∷ []))
on_one true true d l f b end letter some = omega (arith, end)
on_one true false true l f b end letter some = omega (arith, end)
on_one true false false l f b end letter some = ap (λ x. cond x 1 0) (letter refl) ∙ omega (arith, end)
on_one false true d l f b end letter some = omega (arith, end)
on_one false false true l f b end letter some = omega (arith, end)
on_one false false false l f b end letter some = absurd (omega arith)

none_two : (m s g l : Bool) (x y : ℕ) → ◌≡◌ {A = ℕ} (cond (m && s) 2 (cond (m || g) 1 0)) 0 → cond (m && s) (2 + x) (cond (m || g) (1 + y) (cond l 1 0)) ≡ cond l 1 0
none_two true true g l x y none = absurd (omega arith)
none_two true false g l x y none = absurd (omega arith)
none_two false s true l x y none = absurd (omega arith)
none_two false s false l x y none = refl

none_one : (m h d l : Bool) → ◌≡◌ {A = ℕ} (cond (m || (h || d)) 1 0) 0 → ◌≡◌ {A = ℕ} (cond (h || (d || l)) 1 0) (cond l 1 0)
none_one true h d l none = absurd (omega arith)
none_one false true d l none = absurd (omega arith)
none_one false false true l none = absurd (omega arith)
none_one false false false l none = refl

-- a step goes on with the rest
step_on : (mark : ℕ → Bool) → ((b : ℕ) → mark b ≡ true → is_letter b ≡ true) → (text : List ℕ) → 0 < step_of mark text → numeral_tail mark text ≡ step_of mark text + numeral_tail mark (drop (step_of mark text) text)
step_on mark letters [] some = absurd (omega arith)
step_on mark letters (b ∷ []) some = on_one (mark b) (is_hex_digit b) (eqb b 46) (is_letter b) (numeral_tail mark) b refl (letters b) some
step_on mark letters (b ∷ c ∷ rest) some = on_two (mark b) (eqb c 43 || eqb c 45) (is_hex_digit b || eqb b 46) (is_letter b) (numeral_tail mark) b c rest some

-- without a step, one letter is left to take
step_none : (mark : ℕ → Bool) (text : List ℕ) → step_of mark text ≡ 0 → numeral_tail mark text ≡ cond (begins is_letter text) 1 0
step_none mark [] none = refl
step_none mark (b ∷ []) none = none_one (mark b) (is_hex_digit b) (eqb b 46) (is_letter b) none
step_none mark (b ∷ c ∷ rest) none = none_two (mark b) (eqb c 43 || eqb c 45) (is_hex_digit b || eqb b 46) (is_letter b) (numeral_tail mark rest) (numeral_tail mark (c ∷ rest)) none

mark_is_letter : (lower : ℕ) → is_letter lower ≡ true → is_letter (lower - 32) ≡ true → (b : ℕ) → mark_of lower b ≡ true → is_letter b ≡ true
mark_is_letter lower small capital b h = by_case (or_cases _ _ h)
  where
    by_case : (eqb b lower ≡ true) ⊎ (eqb b (lower - 32) ≡ true) → is_letter b ≡ true
    by_case (inl e) = ap is_letter (eqb-true b lower e) ∙ small
    by_case (inr e) = ap is_letter (eqb-true b (lower - 32) e) ∙ capital

-- one, where a text begins with a letter
abbrev pub one_letter : List ℕ → ℕ
one_letter text = cond (begins is_letter text) 1 0

-- the scan so far, one step further
pub scan_on : (lower : ℕ) (text : List ℕ) (at width : ℕ) → is_letter lower ≡ true → is_letter (lower - 32) ≡ true → at + numeral_tail (mark_of lower) (drop at text) ≡ numeral_tail (mark_of lower) text → width ≡ step_of (mark_of lower) (drop at text) → 0 < width
    → at + width + numeral_tail (mark_of lower) (drop (at + width) text) ≡ numeral_tail (mark_of lower) text
scan_on lower text at width small capital so is some =
    let on = step_on (mark_of lower) (mark_is_letter lower small capital) (drop at text) (omega (arith, is)) in
    let there : drop (step_of (mark_of lower) (drop at text)) (drop at text) ≡ drop (at + width) text = ap (λ n. drop n (drop at text)) (sym is) ∙ drop-drop width at text in
    omega (arith, on, is, ap (numeral_tail (mark_of lower)) there)

-- where it ends
pub scan_end : (lower : ℕ) (text : List ℕ) (at : ℕ) → at + numeral_tail (mark_of lower) (drop at text) ≡ numeral_tail (mark_of lower) text → step_of (mark_of lower) (drop at text) ≡ 0 → at + cond (begins is_letter (drop at text)) 1 0 ≡ numeral_tail (mark_of lower) text
scan_end lower text at so none = omega (arith, step_none (mark_of lower) (drop at text) none)

pub begins_behind : (p : ℕ → Bool) (text : List ℕ) (at : ℕ) → at < length text → begins p (drop at text) ≡ p (get_or text at 0)
begins_behind p [] at inside = absurd (omega arith)
begins_behind p (b ∷ text) zero inside = refl
begins_behind p (b ∷ text) (suc at) inside = begins_behind p text at (omega arith)

length_some : (text : List ℕ) → 0 < numeral_length text
length_some text = by_prefix (begins_hexadecimal text)
  where
    by_prefix : (b : Bool) → 0 < cond b (2 + numeral_tail is_binary_mark (drop 2 text)) (1 + numeral_tail is_decimal_mark (drop 1 text))
    by_prefix true = omega arith
    by_prefix false = omega arith

-- what was scanned is the first piece, where it is a numeral
pub numeral_first : (text : List ℕ) (n : ℕ) → group_of text ≡ Numeric → n ≡ numeral_length text → n ≤ length text → HasNumeralForm (take n text) → IsFirst text (Token Number) n
numeral_first text n group scan within form = record {
  some = omega (arith, scan, length_some text);
  within = within;
  tried = ap (λ g. is_tried g (Token Number)) group;
  spelled = form;
  longest = λ other_group. absurd (other_group group);
  numeral = λ _. scan;
  long = λ commented. cc;
}

pub numeral_fault : (text : List ℕ) (n : ℕ) → group_of text ≡ Numeric → n ≡ numeral_length text → (HasNumeralForm (take n text) → ⊥) → IsFault text BadNumeral
numeral_fault text n group scan none = bad_numeral text group (subst (λ i. HasNumeralForm (take i text) → ⊥) scan none)

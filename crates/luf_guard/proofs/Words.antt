-- Names and keywords before what is no letter and no digit.
use Rattle.std.proofs.Common.{◌≡◌, ℕ, ◌+◌, ◌<◌, Bool, true, false, cond, eqb, ◌||◌, List, [], ◌∷◌, ◌++◌, length, length-append, take, refl, sym, ap, ◌∙◌, subst, arith}
use Rattle.std.specs.List.{list_all, prefix_len}
use Rattle.std.proofs.Math.Seq.{take-append_seam, take-append-add}
use Rattle.std.proofs.lemmas.Bool.{and_left, and_parts, and_from, cond-true, cond-false, false≢true}
use Rattle.std.proofs.lemmas.Bool.Decides.{nat_tests}
use Rattle.luf_byte.specs.Class.{is_digit, is_letter, is_word_byte}
use Rattle.luf_str.specs.Bytes.{is_quote}
use Rattle.luf_byte.specs.Front.{begins}
use Rattle.luf_lex.specs.Spelling.{Spells}
use Rattle.luf_str.specs.LongEnd.{opens_long}
use Rattle.luf_lex.specs.First.{IsFirst, is_tried, group_of, begins_comment, begins_numeral}
use Rattle.luf_lex.specs.declared.group.Group.TheVariants.{Quoted, Bracketed, Commented, Other, Numeric}
use Rattle.luf_lex.specs.declared.token.Tok.{Tok}
use Rattle.luf_lex.specs.declared.token.Tok.TheVariants.{Name, Word}
use Rattle.luf_lex.specs.declared.token.Kind.{Kind}
use Rattle.luf_lex.specs.declared.token.Kind.TheVariants.{Token}
use Rattle.luf_lex.proofs.RunLemmas.{begins_weaker}
use Rattle.luf_lex.proofs.PlainLemmas.{letter_is_word, word_spelled, run_first}

-- the first byte decides what is tried
pub group_is : (b : ℕ) (rest : List ℕ) → is_quote b ≡ false → eqb b 91 ≡ false → eqb b 45 ≡ false → eqb b 46 ≡ false → (v : Bool) → is_digit b ≡ v → group_of (b ∷ rest) ≡ cond v Numeric Other
group_is b rest quote bracket dash point v digit =
    tried (is_quote b) (opens_long (b ∷ rest)) (begins_comment (b ∷ rest)) (begins_numeral (b ∷ rest)) v quote (and_left _ _ bracket) (and_left _ _ dash) (either (is_digit b) _ v digit (and_left _ _ point))
  where
    tried : (q o c n v : Bool) → q ≡ false → o ≡ false → c ≡ false → n ≡ v → cond q Quoted (cond o Bracketed (cond c Commented (cond n Numeric Other))) ≡ cond v Numeric Other
    tried true o c n v eq eo ec en = absurd (false≢true (sym eq))
    tried false true c n v eq eo ec en = absurd (false≢true (sym eo))
    tried false false true n v eq eo ec en = absurd (false≢true (sym ec))
    tried false false false n v eq eo ec en = ap (λ x. cond x Numeric Other) en

    either : (x y v : Bool) → x ≡ v → y ≡ false → (x || y) ≡ v
    either true y v ex ey = ex
    either false y v ex ey = ey ∙ ex

letter_quote : (b : ℕ) → is_letter b ≡ true → is_quote b ≡ false
letter_quote b h = grind (arith, nat_tests)

letter_signs : (b : ℕ) → is_letter b ≡ true → (eqb b 91 ≡ false) × (eqb b 45 ≡ false) × (eqb b 46 ≡ false) × (is_digit b ≡ false)
letter_signs b h = (grind (arith, nat_tests), grind (arith, nat_tests), grind (arith, nat_tests), grind (arith, nat_tests))

-- where a letter stands first, neither a string, a comment nor a numeral begins
pub letter_group : (a x : List ℕ) → begins is_letter a ≡ true → group_of (a ++ x) ≡ Other
letter_group [] x letter = absurd (false≢true letter)
letter_group (b ∷ a) x letter = let signs = letter_signs b letter in group_is b (a ++ x) (letter_quote b letter) signs.0 signs.1 signs.2 false signs.3

-- a front that passes, and what follows does not
pub run_before : (p : ℕ → Bool) (a x : List ℕ) → list_all p a ≡ true → begins p x ≡ false → prefix_len p (a ++ x) ≡ length a
run_before p [] [] each stop = refl
run_before p [] (b ∷ x) each stop = cond-false (p b) _ _ stop
run_before p (b ∷ a) x each stop =
    let parts = and_parts (p b) (list_all p a) each in
    let e : cond (p b) (1 + prefix_len p (a ++ x)) 0 ≡ 1 + prefix_len p (a ++ x) = cond-true (p b) _ _ parts.0 in
    omega (arith, e, run_before p a x parts.1 stop)

pub begins_some : (p : ℕ → Bool) (a : List ℕ) → begins p a ≡ true → 0 < length a
begins_some p [] h = absurd (false≢true h)
begins_some p (b ∷ a) h = omega arith

pub begins_front : (p : ℕ → Bool) (a x : List ℕ) → 0 < length a → begins p (a ++ x) ≡ begins p a
begins_front p [] x some = absurd (omega arith)
begins_front p (b ∷ a) x some = refl

-- a word that begins with a letter
pub letters_before : (t : Tok) (a x : List ℕ) → is_tried Other (Token t) ≡ true → Spells (Token t) a → begins is_letter a ≡ true → begins is_word_byte x ≡ false → IsFirst (a ++ x) (Token t) (length a)
letters_before t a x tried h letter stop =
    let word : begins is_word_byte a ≡ true = begins_weaker is_letter is_word_byte letter_is_word a letter in
    let each : list_all is_word_byte a ≡ true = word_spelled (Token t) a tried h word in
    run_first is_word_byte word_spelled (a ++ x) (Token t) (length a) (letter_group a x letter) tried
    (begins_front is_word_byte a x (begins_some is_letter a letter) ∙ word) (sym (run_before is_word_byte a x each stop))
    (subst (λ s. Spells (Token t) s) (sym (take-append_seam a x)) h)

-- ---- before a letter or a digit, a word goes on

one_more : (p : ℕ → Bool) (a : List ℕ) (c : ℕ) → list_all p a ≡ true → p c ≡ true → list_all p (a ++ c ∷ []) ≡ true
one_more p [] c each h = and_from (p c) true h refl
one_more p (b ∷ a) c each h = let parts = and_parts (p b) (list_all p a) each in and_from (p b) _ parts.0 (one_more p a c parts.1 h)

-- one byte more than a front
pub front_more : (a : List ℕ) (c : ℕ) (b : List ℕ) → take (length a + 1) (a ++ c ∷ b) ≡ a ++ c ∷ []
front_more a c b = take-append-add a (c ∷ b) 1

-- the first piece of a text that begins with a letter has no letter and no digit behind it
pub word_ends : (k : Kind) (a b : List ℕ) → begins is_letter a ≡ true → list_all is_word_byte a ≡ true → begins is_word_byte b ≡ true → IsFirst (a ++ b) k (length a) → ⊥
word_ends k a [] letter each word first = false≢true word
word_ends k a (c ∷ b) letter each word first =
    let group : group_of (a ++ c ∷ b) ≡ Other = letter_group a (c ∷ b) letter in
    let longer : (t : Tok) → is_tried Other (Token t) ≡ true → Spells (Token t) (a ++ c ∷ []) → ⊥ =
    λ t tried h. first.longest (λ numeric. let no : Other ≡ Numeric = sym group ∙ numeric in cc) (Token t) (length a + 1) (ap (λ g. is_tried g (Token t)) group ∙ tried) (omega arith) (omega (arith, length-append a (c ∷ b)))
    (subst (λ s. Spells (Token t) s) (sym (front_more a c b)) h) in
    longer Name refl (record {
      first = begins_front is_letter a (c ∷ []) (begins_some is_letter a letter) ∙ letter;
      each = one_more is_word_byte a c each word;
      no_keyword = λ w e. longer (Word w) refl e;
    })

-- Signs before what makes no longer one of them.
use Rattle.std.proofs.Common.{◌≡◌, ℕ, ◌<◌, ◌≤◌, Bool, true, false, cond, eqb, ltb, ◌&&◌, List, [], ◌∷◌, ◌++◌, length, take, drop, get_or, refl, sym, ap, ◌∙◌, arith}
use Rattle.std.proofs.Math.Seq.{take-append_seam}
use Rattle.std.proofs.lemmas.Bool.{and_from, cond-true, cond-false, or_parts, lt-ltb, false≢true}
use Rattle.std.proofs.lemmas.Bool.Decides.{nat_tests}
use Rattle.luf_byte.specs.Class.{is_digit, is_line_byte, is_letter, is_blank}
use Rattle.luf_byte.specs.Front.{begins}
use Rattle.luf_lex.specs.Sign.{sign_spelling, StartsWith}
use Rattle.luf_str.specs.LongEnd.{opens_long}
use Rattle.luf_lex.specs.First.{IsFirst, group_of}
use Rattle.luf_lex.specs.declared.group.Group.TheVariants.{Other}
use Rattle.luf_lex.specs.declared.token.Tok.TheVariants as tok
use Rattle.luf_lex.specs.declared.token.Sign.{Sign}
use Rattle.luf_lex.specs.declared.token.Sign.TheVariants.{Plus, Minus, LeftBracket, Dot}
use Rattle.luf_lex.specs.declared.token.Kind.TheVariants.{Token}
use Rattle.luf_lex.proofs.PlainLemmas.{sign_first}
use Rattle.luf_guard.specs.inner.Joins.{sign_goes_on}

-- whether a list begins with another
starts : List ℕ → List ℕ → Bool
starts [] text = true
starts (a ∷ front) [] = false
starts (a ∷ front) (b ∷ text) = eqb a b && starts front text

starts_itself : (a b c : List ℕ) → take (length a) (b ++ c) ≡ a → length b ≤ length a → starts b a ≡ true
unfolding starts
starts_itself a [] c e le = refl
starts_itself [] (x ∷ b) c e le = absurd (omega arith)
starts_itself (y ∷ a) (x ∷ b) c e le =
    let same : eqb x y ≡ true = let first : y ≡ x = cc in grind (arith, nat_tests) in
    and_from (eqb x y) (starts b a) same (starts_itself a b c (ap (drop 1) e) (omega arith))

-- what stands behind the shorter is the next byte of the longer
next_byte : (p : ℕ → Bool) (a b c : List ℕ) → take (length a) (b ++ c) ≡ a → length b < length a → p (get_or a (length b) 0) ≡ begins p c
next_byte p [] b c e le = absurd (omega arith)
next_byte p (y ∷ a) [] [] e le = absurd (let no : [] ≡ y ∷ a = e in cc)
next_byte p (y ∷ a) [] (z ∷ c) e le = ap (λ t. p (get_or t 0 0)) (sym e)
next_byte p (y ∷ a) (x ∷ b) c e le = next_byte p a b c (ap (drop 1) e) (omega arith)

-- of two signs, of which one begins the other, the shorter goes on over the next byte of the longer
abbrev Goes : Sign → Sign → Bool
Goes s other = cond (ltb (length (sign_spelling s)) (length (sign_spelling other)) && starts (sign_spelling s) (sign_spelling other)) (sign_goes_on s (get_or (sign_spelling other) (length (sign_spelling s)) 0)) true

goes : (s other : Sign) → Goes s other ≡ true
unfolding starts
goes Plus Plus = refl
goes Plus _ = refl
goes _ Plus = refl
goes _ _ = refl

sign_group : (s : Sign) (x : List ℕ) → begins (sign_goes_on s) x ≡ false → (s ≡ LeftBracket → opens_long (91 ∷ x) ≡ false) → group_of (sign_spelling s ++ x) ≡ Other
sign_group Minus x stop bracket = cond-false _ _ _ stop
sign_group Dot [] stop bracket = refl
sign_group Dot (c ∷ x) stop bracket = cond-false _ _ _ (or_parts (eqb c 46) (is_digit c) stop).1
sign_group LeftBracket x stop bracket = cond-false _ _ _ (bracket refl)
sign_group _ x stop bracket = refl

sign_classes : (s : Sign) (x : List ℕ) → (begins is_letter (sign_spelling s ++ x) ≡ false) × (begins is_blank (sign_spelling s ++ x) ≡ false) × (begins is_line_byte (sign_spelling s ++ x) ≡ false)
sign_classes Plus x = (refl, refl, refl)
sign_classes _ x = (refl, refl, refl)

-- no longer sign stands there
none_longer : (s other : Sign) (x : List ℕ) → begins (sign_goes_on s) x ≡ false → length (sign_spelling s) < length (sign_spelling other) → StartsWith (sign_spelling s ++ x) (sign_spelling other) → ⊥
none_longer s other x stop more is =
    let front : starts (sign_spelling s) (sign_spelling other) ≡ true = starts_itself (sign_spelling other) (sign_spelling s) x is (omega arith) in
    let next = next_byte (sign_goes_on s) (sign_spelling other) (sign_spelling s) x is more in
    false≢true (sym stop ∙ sym next ∙ sym (cond-true _ _ _ (and_from _ _ (lt-ltb _ _ more) front)) ∙ goes s other)

pub sign_before : (s : Sign) (x : List ℕ) → begins (sign_goes_on s) x ≡ false → (s ≡ LeftBracket → opens_long (91 ∷ x) ≡ false) → IsFirst (sign_spelling s ++ x) (Token (tok.Sign s)) (length (sign_spelling s))
sign_before s x stop bracket =
    let classes = sign_classes s x in
    sign_first (sign_spelling s ++ x) s (length (sign_spelling s)) (sign_group s x stop bracket) classes.0 classes.1 classes.2 refl (take-append_seam (sign_spelling s) x) (λ other more is. none_longer s other x stop more is)

pub sign_some : (s : Sign) → 0 < length (sign_spelling s)
sign_some Plus = omega arith
sign_some _ = omega arith

pub sign_space : (s : Sign) → sign_goes_on s 32 ≡ false
sign_space Plus = refl
sign_space _ = refl

-- The bytes of one kind at the front of a text, and the line end there.
use Rattle.std.proofs.Common.{◌≡◌, ℕ, suc, ◌+◌, ◌≤◌, ◌⊎◌, Bool, true, false, cond, not, eqb, ◌&&◌, List, [], ◌∷◌, ◌++◌, length, take, drop, refl, arith, inl, inr}
use Rattle.std.specs.Prelude.{IsTrue}
use Rattle.std.specs.List.{AllByRecursion, prefix_len}
use Rattle.std.proofs.lemmas.Bool.{eqb-true}
use Rattle.std.proofs.lemmas.Bool.Decides.{nat_tests}
use Rattle.luf_byte.specs.Class.{is_line_byte}
use Rattle.luf_byte.specs.LineEnd.{is_line_pair, IsLineEndBefore, line_end_length}
use Rattle.luf_byte.specs.Front.{NoneAtFront}

-- all bytes of a kind that stand at the front
pub prefix_len-whole : (p : ℕ → Bool) (xs next : List ℕ) → AllByRecursion (λ b. IsTrue (p b)) xs → NoneAtFront p next → prefix_len p (xs ++ next) ≡ length xs
prefix_len-whole p [] [] all none = refl
prefix_len-whole p [] (b ∷ next) all none = rw none refl
prefix_len-whole p (x ∷ xs) next all none = rw all.0 (let rest : prefix_len p (xs ++ next) ≡ length xs = prefix_len-whole p xs next all.1 none in omega arith)

pub all_leading : (p : ℕ → Bool) (xs : List ℕ) → AllByRecursion (λ b. IsTrue (p b)) (take (prefix_len p xs) xs)
all_leading p [] = tt
all_leading p (x ∷ xs) =
    elim (p x) as (λ t. p x ≡ t → AllByRecursion (λ b. IsTrue (p b)) (take (cond t (1 + prefix_len p xs) 0) (x ∷ xs))) [
      | true ↦ λ yes. let e : 1 + prefix_len p xs ≡ suc (prefix_len p xs) = omega arith in rw e (yes, all_leading p xs)
      | false ↦ λ no. tt
    ] refl

pub none_after : (p : ℕ → Bool) (xs : List ℕ) → NoneAtFront p (drop (prefix_len p xs) xs)
none_after p [] = tt
none_after p (x ∷ xs) =
    elim (p x) as (λ t. p x ≡ t → NoneAtFront p (drop (cond t (1 + prefix_len p xs) 0) (x ∷ xs))) [
      | true ↦ λ yes. let e : 1 + prefix_len p xs ≡ suc (prefix_len p xs) = omega arith in rw e (none_after p xs)
      | false ↦ λ no. no
    ] refl

pub and_first : (x y z : Bool) → (x && y && z) ≡ true → x ≡ true
and_first true y z h = refl
and_first false y z h = absurd cc

-- a byte of a line end is LF or CR
pub line_byte_cases : (b : ℕ) → is_line_byte b ≡ true → (b ≡ 10) ⊎ (b ≡ 13)
line_byte_cases b h =
    elim (eqb b 10) as (λ t. eqb b 10 ≡ t → (b ≡ 10) ⊎ (b ≡ 13)) [
      | true ↦ λ yes. inl (eqb-true b 10 yes)
      | false ↦ λ no. inr (grind (arith, nat_tests))
    ] refl

line_pair_first : (a b : ℕ) → is_line_pair a b ≡ true → is_line_byte a ≡ true
line_pair_first a b h = and_first (is_line_byte a) (is_line_byte b) (not (eqb a b)) h

pub first_line_byte : (a : ℕ) (line next : List ℕ) → IsLineEndBefore (a ∷ line) next → is_line_byte a ≡ true
first_line_byte a [] next h = h.0
first_line_byte a (b ∷ []) next h = line_pair_first a b h
first_line_byte a (b ∷ c ∷ line) next h = absurd h

pub line_end_length-is : (line next : List ℕ) → IsLineEndBefore line next → line_end_length (line ++ next) ≡ length line
line_end_length-is [] next h = absurd h
line_end_length-is (a ∷ []) [] h = rw (h.0) (grind (arith, nat_tests))
line_end_length-is (a ∷ []) (b ∷ next) h = rw (h.1, h.0) refl
line_end_length-is (a ∷ b ∷ []) next h = rw (h, line_pair_first a b h) refl
line_end_length-is (a ∷ b ∷ c ∷ line) next h = absurd h

-- the line end that is read is one
pub line_end-reads : (a : ℕ) (text : List ℕ) → is_line_byte a ≡ true
    → (line_end_length (a ∷ text) ≤ length (a ∷ text)) × IsLineEndBefore (take (line_end_length (a ∷ text)) (a ∷ text)) (drop (line_end_length (a ∷ text)) (a ∷ text))
line_end-reads a [] h =
    let one : line_end_length (a ∷ []) ≡ 1 = line_end_length-is (a ∷ []) [] (h, tt) in
    rw one (omega arith, (h, tt))
line_end-reads a (b ∷ text) h =
    elim (is_line_pair a b) as (λ t. is_line_pair a b ≡ t → (line_end_length (a ∷ b ∷ text) ≤ length (a ∷ b ∷ text)) × IsLineEndBefore (take (line_end_length (a ∷ b ∷ text)) (a ∷ b ∷ text)) (drop (line_end_length (a ∷ b ∷ text)) (a ∷ b ∷ text))) [
      | true ↦ λ yes. let two : line_end_length (a ∷ b ∷ text) ≡ 2 = rw (yes, h) refl in rw two (omega arith, yes)
      | false ↦ λ no. let one : line_end_length (a ∷ b ∷ text) ≡ 1 = rw (no, h) refl in rw one (omega arith, (h, no))
    ] refl

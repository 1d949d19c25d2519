-- The alphabet and the places of its letters.
use Rattle.std.proofs.Common.{◌≡◌, ◌∙◌, sym, ap, refl, ℕ, ◌+◌, ◌-◌, ◌<◌, ◌==◌, zero, suc, Bool, true, cond, ◌&&◌, eqb, List, [], ◌∷◌, length, get_or, zero-add, ⊎_elim, arith}
use Rattle.std.specs.Int.{is_in_range}
use Rattle.std.specs.List.{position_or_len}
use Rattle.std.proofs.lemmas.Bool.{and_parts, eqb-true, cases_lt}
use Rattle.std.proofs.lemmas.List.Sums.{passes_at_first}
use Rattle.luf_name.specs.Order.{alphabet, rank, IsLetter}

at_its_place : (letters : List ℕ) (a : ℕ) → position_or_len (λ other. other == a) letters < length letters → get_or letters (position_or_len (λ other. other == a) letters) 0 ≡ a
at_its_place letters a within = eqb-true _ a (passes_at_first (λ other. other == a) letters 0 within)

pub letter_at_rank : (a : ℕ) → IsLetter a → get_or alphabet (rank a) 0 ≡ a
unfolding alphabet rank
letter_at_rank a is_letter = at_its_place alphabet a is_letter

pub same_rank : (a b : ℕ) → IsLetter a → rank a ≡ rank b → a ≡ b
same_rank a b is_letter same =
    let b_is_letter : IsLetter b = omega (arith, is_letter, same) in
    sym (letter_at_rank a is_letter) ∙ ap (λ k. get_or alphabet k 0) same ∙ letter_at_rank b b_is_letter

in_order : ℕ → List ℕ → Bool
in_order first [] = true
in_order first (a ∷ letters) = eqb (rank a) first && in_order (suc first) letters

rank_in_order : (first : ℕ) (letters : List ℕ) (k : ℕ) → in_order first letters ≡ true → k < length letters → rank (get_or letters k 0) ≡ first + k
unfolding in_order
rank_in_order first [] k ordered within = absurd (omega (arith, within))
rank_in_order first (a ∷ letters) zero ordered within =
    let e : rank a ≡ first = eqb-true (rank a) first (and_parts (eqb (rank a) first) (in_order (suc first) letters) ordered).0 in
    omega (arith, e)
rank_in_order first (a ∷ letters) (suc k) ordered within =
    let e : rank (get_or letters k 0) ≡ suc first + k = rank_in_order (suc first) letters k (and_parts (eqb (rank a) first) (in_order (suc first) letters) ordered).1 (omega (arith, within)) in
    omega (arith, e)

pub rank_of_letter : (k : ℕ) → k < 63 → rank (get_or alphabet k 0) ≡ k
unfolding alphabet rank in_order
rank_of_letter k within = rank_in_order 0 alphabet k refl within ∙ zero-add k

-- ---- the rank of a byte, read off where it lies

abbrev pub rank_by_bounds : ℕ → ℕ
rank_by_bounds letter =
    cond (is_in_range 97 122 letter) (letter - 97) (cond (is_in_range 65 90 letter) (26 + (letter - 65)) (cond (letter == 95) 52 (cond (is_in_range 48 57 letter) (53 + (letter - 48)) 63)))

bytes_agree : ℕ → Bool
bytes_agree zero = true
bytes_agree (suc n) = eqb (rank n) (rank_by_bounds n) && bytes_agree n

agree_below : (n : ℕ) → bytes_agree n ≡ true → (letter : ℕ) → letter < n → rank letter ≡ rank_by_bounds letter
unfolding bytes_agree
agree_below zero agree letter below = absurd (omega (arith, below))
agree_below (suc n) agree letter below =
    let parts = and_parts (eqb (rank n) (rank_by_bounds n)) (bytes_agree n) agree in
    ⊎_elim (λ less. agree_below n parts.1 letter less) (λ above. let same : letter ≡ n = omega (arith, below, above) in
    ap rank same ∙ eqb-true (rank n) (rank_by_bounds n) parts.0 ∙ ap rank_by_bounds (sym same)) (cases_lt letter n)

-- the rank of a byte
pub byte_rank : (letter : ℕ) → letter < 256 → rank letter ≡ rank_by_bounds letter
unfolding rank alphabet bytes_agree
byte_rank letter below = agree_below 256 refl letter below

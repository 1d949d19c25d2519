-- The name of a number: with a letter more, 63 names of each.
use Rattle.std.proofs.Common.{◌≡◌, ℕ, ◌+◌, ◌-◌, ◌*◌, ◌/◌, ◌%◌, ◌^◌, ◌<◌, ◌≤◌, inl, inr, zero, suc, List, [], ◌∷◌, ◌++◌, length, get_or, refl, arith}
use Rattle.std.proofs.lemmas.Bool.{cases_lt}
use Rattle.std.proofs.lemmas.List.Elements.{All-nil, All-push}
use Rattle.luf_name.specs.Order.{alphabet, rank, IsLetter, IsNth, number_from}
use Rattle.luf_name.proofs.Ranks.{rank_of_letter}
use Rattle.luf_name.proofs.Rising.{number_grows}

pub named_by_letter : (n : ℕ) → n < 53 → IsNth (get_or alphabet n 0 ∷ []) n
named_by_letter n below =
    let place : rank (get_or alphabet n 0) ≡ n = rank_of_letter n (omega (arith, below)) in
    ((omega (arith, below, place), All-nil IsLetter), place)

number_push : (n : ℕ) (rest : List ℕ) (a : ℕ) → number_from n (rest ++ a ∷ []) ≡ number_from n rest * 63 + 53 + rank a
number_push n [] a = refl
number_push n (b ∷ rest) a = number_push (n * 63 + 53 + rank b) rest a

named_push : (name : List ℕ) (n k m : ℕ) → IsNth name n → k < 63 → m ≡ n * 63 + 53 + k → IsNth (name ++ get_or alphabet k 0 ∷ []) m
named_push [] n k m is_nth below is = absurd is_nth.0
named_push (a ∷ rest) n k m is_nth below is =
    let letter = get_or alphabet k 0 in
    let place : rank letter ≡ k = rank_of_letter k below in
    let is_letter : IsLetter letter = omega (arith, below, place) in
    ((is_nth.0.0, All-push IsLetter rest letter is_nth.0.1 is_letter), omega (arith, number_push (rank a) rest letter, place, is_nth.1, is))

-- a name is the name of what stands before its last letter, and that letter
pub named_by_more : (n : ℕ) (name : List ℕ) → 53 ≤ n → IsNth name ((n - 53) / 63) → IsNth (name ++ get_or alphabet ((n - 53) % 63) 0 ∷ []) n
named_by_more n name above is_nth = named_push name ((n - 53) / 63) ((n - 53) % 63) n is_nth (omega arith) (omega (arith, above))

named_below : (bound n : ℕ) → n < bound → (name : List ℕ) × IsNth name n
named_below zero n below = absurd (omega (arith, below))
named_below (suc bound) n below =
    elim (cases_lt n 53) [
      | inl few ↦ (get_or alphabet n 0 ∷ [], named_by_letter n few)
      | inr many ↦
          let front = named_below bound ((n - 53) / 63) (omega (arith, below, many)) in
          (front.0 ++ get_or alphabet ((n - 53) % 63) 0 ∷ [], named_by_more n front.0 many front.1)
    ]

pub none_left_out : (n : ℕ) → (name : List ℕ) × IsNth name n
none_left_out n = named_below (suc n) n (omega arith)

-- a number of 32 bits has six letters at most
pub short : (name : List ℕ) (n : ℕ) → IsNth name n → n < 2 ^ 32 → length name ≤ 6
short [] n is_nth fits = omega arith
short (a ∷ []) n is_nth fits = omega arith
short (a ∷ b ∷ []) n is_nth fits = omega arith
short (a ∷ b ∷ c ∷ []) n is_nth fits = omega arith
short (a ∷ b ∷ c ∷ d ∷ []) n is_nth fits = omega arith
short (a ∷ b ∷ c ∷ d ∷ e ∷ []) n is_nth fits = omega arith
short (a ∷ b ∷ c ∷ d ∷ e ∷ f ∷ []) n is_nth fits = omega arith
short (a ∷ b ∷ c ∷ d ∷ e ∷ f ∷ g ∷ rest) n is_nth fits =
    let five = ((((rank a * 63 + 53 + rank b) * 63 + 53 + rank c) * 63 + 53 + rank d) * 63 + 53 + rank e) * 63 + 53 + rank f in
    absurd (omega (arith, fits, is_nth.1, number_grows (five * 63 + 53 + rank g) rest))

-- Numbers rise in the order of the names, so a number has one name.
use Rattle.std.proofs.Common.{◌≡◌, sym, ap, ℕ, ◌+◌, ◌*◌, ◌<◌, ◌≤◌, ◌⊎◌, inl, inr, List, [], ◌∷◌, length, refl, ◌↔◌, arith}
use Rattle.std.specs.List.{All}
use Rattle.std.proofs.lemmas.Bool.{cases_order}
use Rattle.std.proofs.lemmas.List.Elements.{All-cons, All-head, All-tail}
use Rattle.luf_name.specs.Order.{rank, IsLetter, IsName, IsLower, IsBefore, IsNth, number_from, number_of}
use Rattle.luf_name.proofs.Ranks.{same_rank}

pub number_grows : (n : ℕ) (rest : List ℕ) → n ≤ number_from n rest
number_grows n [] = omega arith
number_grows n (a ∷ rest) = omega (arith, number_grows (n * 63 + 53 + rank a) rest)

-- of two names that differ before, the lower keeps its place whatever follows
lower_before : (m n : ℕ) (rest others : List ℕ) → All IsLetter rest → length rest ≡ length others → m < n → number_from m rest < number_from n others
lower_before m n [] [] letters same below = below
lower_before m n [] (b ∷ others) letters same below = absurd (omega (arith, same))
lower_before m n (a ∷ rest) [] letters same below = absurd (omega (arith, same))
lower_before m n (a ∷ rest) (b ∷ others) letters same below =
    let letter : rank a < 63 = All-head IsLetter a rest letters in
    lower_before (m * 63 + 53 + rank a) (n * 63 + 53 + rank b) rest others (All-tail IsLetter a rest letters) (omega (arith, same)) (omega (arith, letter, below))

lower : (n : ℕ) (rest others : List ℕ) → All IsLetter rest → length rest ≡ length others → IsLower rest others → number_from n rest < number_from n others
lower n [] [] letters same is_lower = absurd is_lower
lower n [] (b ∷ others) letters same is_lower = absurd is_lower
lower n (a ∷ rest) [] letters same is_lower = absurd is_lower
lower n (a ∷ rest) (b ∷ others) letters same (inl below) =
    lower_before (n * 63 + 53 + rank a) (n * 63 + 53 + rank b) rest others (All-tail IsLetter a rest letters) (omega (arith, same)) (omega (arith, below))
lower n (a ∷ rest) (b ∷ others) letters same (inr then) =
    let one : rank a ≡ rank b = ap rank then.0 in
    let later : number_from (n * 63 + 53 + rank a) rest < number_from (n * 63 + 53 + rank a) others = lower (n * 63 + 53 + rank a) rest others (All-tail IsLetter a rest letters) (omega (arith, same)) then.1 in
    let there : number_from (n * 63 + 53 + rank a) others ≡ number_from (n * 63 + 53 + rank b) others = ap (λ k. number_from (n * 63 + 53 + k) others) one in
    omega (arith, later, there)

shorter : (m n : ℕ) (rest others : List ℕ) → All IsLetter rest → m < n * 63 + 53 → length rest < length others → number_from m rest < number_from n others
shorter m n rest [] letters near below = absurd (omega (arith, below))
shorter m n [] (b ∷ others) letters near below = omega (arith, near, number_grows (n * 63 + 53 + rank b) others)
shorter m n (a ∷ rest) (b ∷ others) letters near below =
    let letter : rank a < 63 = All-head IsLetter a rest letters in
    shorter (m * 63 + 53 + rank a) (n * 63 + 53 + rank b) rest others (All-tail IsLetter a rest letters) (omega (arith, near, letter)) (omega (arith, below))

pub rises : (name other : List ℕ) → IsName name → IsName other → IsBefore name other → number_of name < number_of other
rises [] other is_name is_other before = absurd is_name
rises (a ∷ rest) [] is_name is_other before = absurd is_other
rises (a ∷ rest) (b ∷ others) is_name is_other (inl fewer) =
    shorter (rank a) (rank b) rest others is_name.1 (omega (arith, is_name.0)) (omega (arith, fewer))
rises (a ∷ rest) (b ∷ others) is_name is_other (inr at_first) =
    let same : length rest ≡ length others = omega (arith, at_first.0) in
    elim at_first.1 [
      | inl below ↦ lower_before (rank a) (rank b) rest others is_name.1 same below
      | inr then ↦
          let one : rank a ≡ rank b = ap rank then.0 in
          let later : number_from (rank a) rest < number_from (rank a) others = lower (rank a) rest others is_name.1 same then.1 in
          let there : number_from (rank a) others ≡ number_from (rank b) others = ap (λ k. number_from k others) one in
          omega (arith, later, there)
    ]

-- of two names one is before the other, or they are one
add_first : (a b : ℕ) (rest others : List ℕ) → a ≡ b → IsLower rest others ⊎ ((rest ≡ others) ⊎ IsLower others rest) → IsLower (a ∷ rest) (b ∷ others) ⊎ ((a ∷ rest ≡ b ∷ others) ⊎ IsLower (b ∷ others) (a ∷ rest))
add_first a b rest others one (inl below) = inl (inr (one, below))
add_first a b rest others one (inr (inl same)) = inr (inl cc)
add_first a b rest others one (inr (inr above)) = inr (inr (inr (sym one, above)))

compared : (name other : List ℕ) → All IsLetter name → All IsLetter other → length name ≡ length other → IsLower name other ⊎ ((name ≡ other) ⊎ IsLower other name)
compared [] [] letters others_letters same = inr (inl refl)
compared [] (b ∷ others) letters others_letters same = absurd (omega (arith, same))
compared (a ∷ rest) [] letters others_letters same = absurd (omega (arith, same))
compared (a ∷ rest) (b ∷ others) letters others_letters same =
    let behind = compared rest others (All-tail IsLetter a rest letters) (All-tail IsLetter b others others_letters) (omega (arith, same)) in
    elim (cases_order (rank a) (rank b)) [
      | inl one ↦ add_first a b rest others (same_rank a b (All-head IsLetter a rest letters) one) behind
      | inr differs ↦ elim differs [ inl below ↦ inl (inl below) | inr above ↦ inr (inr (inl above)) ]
    ]

all_letters : (a : ℕ) (rest : List ℕ) → IsName (a ∷ rest) → All IsLetter (a ∷ rest)
all_letters a rest is_name = All-cons IsLetter a rest (omega (arith, is_name.0)) is_name.1

one_length : (name other : List ℕ) → length name ≡ length other → IsLower name other ⊎ ((name ≡ other) ⊎ IsLower other name) → IsBefore name other ⊎ ((name ≡ other) ⊎ IsBefore other name)
one_length name other same (inl below) = inl (inr (same, below))
one_length name other same (inr (inl one)) = inr (inl one)
one_length name other same (inr (inr above)) = inr (inr (inr (sym same, above)))

ordered : (name other : List ℕ) → IsName name → IsName other → IsBefore name other ⊎ ((name ≡ other) ⊎ IsBefore other name)
ordered [] other is_name is_other = absurd is_name
ordered (a ∷ rest) [] is_name is_other = absurd is_other
ordered (a ∷ rest) (b ∷ others) is_name is_other =
    elim (cases_order (length (a ∷ rest)) (length (b ∷ others))) [
      | inl same ↦ one_length (a ∷ rest) (b ∷ others) same (compared (a ∷ rest) (b ∷ others) (all_letters a rest is_name) (all_letters b others is_other) same)
      | inr differs ↦ elim differs [ inl fewer ↦ inl (inl fewer) | inr more ↦ inr (inr (inl more)) ]
    ]

before_from : (name other : List ℕ) → IsName name → IsName other → number_of name < number_of other → IsBefore name other ⊎ ((name ≡ other) ⊎ IsBefore other name) → IsBefore name other
before_from name other is_name is_other below (inl before) = before
before_from name other is_name is_other below (inr (inl one)) = let same : number_of name ≡ number_of other = ap number_of one in absurd (omega (arith, below, same))
before_from name other is_name is_other below (inr (inr behind)) = absurd (omega (arith, below, rises other name is_other is_name behind))

pub names_rise : (name other : List ℕ) → IsName name → IsName other → (IsBefore name other ↔ number_of name < number_of other)
names_rise name other is_name is_other =
    (rises name other is_name is_other, λ below. before_from name other is_name is_other below (ordered name other is_name is_other))

one_from : (name other : List ℕ) → IsName name → IsName other → number_of name ≡ number_of other → IsBefore name other ⊎ ((name ≡ other) ⊎ IsBefore other name) → name ≡ other
one_from name other is_name is_other same (inl before) = absurd (omega (arith, same, rises name other is_name is_other before))
one_from name other is_name is_other same (inr (inl one)) = one
one_from name other is_name is_other same (inr (inr behind)) = absurd (omega (arith, same, rises other name is_other is_name behind))

pub one_name : (n : ℕ) (name other : List ℕ) → IsNth name n → IsNth other n → name ≡ other
one_name n name other is_nth is_too = one_from name other is_nth.0 is_too.0 (omega (arith, is_nth.1, is_too.1)) (ordered name other is_nth.0 is_too.0)

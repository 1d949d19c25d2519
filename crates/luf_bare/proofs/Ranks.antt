-- Ranks are in the order of places.
use Rattle.std.proofs.Common.{◌≡◌, ℕ, zero, suc, ◌+◌, ◌<◌, ◌≤◌, ◌⊎◌, inl, inr, Bool, true, false, cond, Some, List, [], ◌∷◌, ◌-◌, length, slice_get, ap, refl, subst, sym, ◌∙◌, arith}
use Rattle.std.proofs.lemmas.Bool.{cases_lt}
use Rattle.std.proofs.lemmas.Option.{slice_get_within}
use Rattle.std.specs.Option.{unwrap_or}
use Rattle.luf_bare.specs.Significant.{is_among, places_but}
use Rattle.luf_bare.specs.Rank.{rank, RanksInOrder, RanksCount}
use Rattle.luf_bare.specs.Dropped.{dropped_block}

-- a dropped token counts for nothing
counted : Bool → ℕ
counted true = 0
counted false = 1

length_if : (b : Bool) (place : ℕ) (rest : List ℕ) → length (cond b rest (place ∷ rest)) ≡ counted b + length rest
unfolding counted
length_if true place rest = omega arith
length_if false place rest = omega arith

one_more : (ds : List ℕ) (i n : ℕ) → length (places_but ds i (suc n)) ≡ length (places_but ds i n) + counted (is_among (i + n) ds)
one_more ds i zero = let here : counted (is_among i ds) ≡ counted (is_among (i + 0) ds) = ap (λ k. counted (is_among k ds)) (omega arith) in omega (arith, here, length_if (is_among i ds) i [])
one_more ds i (suc n) =
    let last : counted (is_among ((i + 1) + n) ds) ≡ counted (is_among (i + suc n) ds) = ap (λ k. counted (is_among k ds)) (omega arith) in
    omega (arith, length_if (is_among i ds) i (places_but ds (i + 1) (suc n)), one_more ds (i + 1) n, length_if (is_among i ds) i (places_but ds (i + 1) n), last)

pub rank_up : (ds : List ℕ) (i j : ℕ) → i ≤ j → rank ds i ≤ rank ds j
rank_up ds i zero le = let start : i ≡ 0 = omega (arith, le) in subst (λ k. rank ds k ≤ rank ds 0) (sym start) (omega arith)
rank_up ds i (suc j) le = by_case (cases_lt j i) (rank_up ds i j)
  where
    by_case : (j < i) ⊎ (i ≤ j) → (i ≤ j → rank ds i ≤ rank ds j) → rank ds i ≤ rank ds (suc j)
    by_case (inl above) up = let same : suc j ≡ i = omega (arith, above, le) in subst (λ k. rank ds k ≤ rank ds (suc j)) same (omega arith)
    by_case (inr below) up = omega (arith, up below, one_more ds 0 j)

pub rank_of_next : (ds : List ℕ) (token : ℕ) → is_among token ds ≡ false → rank ds (suc token) ≡ rank ds token + 1
unfolding counted
rank_of_next ds token significant =
    let counts : counted (is_among (0 + token) ds) ≡ 1 = ap (λ k. counted (is_among k ds)) (omega arith) ∙ ap counted significant in
    omega (arith, one_more ds 0 token, counts)

pub rank_of_dropped : (ds : List ℕ) (i : ℕ) → is_among i ds ≡ true → rank ds (suc i) ≡ rank ds i
unfolding counted
rank_of_dropped ds i dropped =
    let counts : counted (is_among (0 + i) ds) ≡ 0 = ap (λ k. counted (is_among k ds)) (omega arith) ∙ ap counted dropped in
    omega (arith, one_more ds 0 i, counts)

pub ranks_in_order : RanksInOrder
ranks_in_order ds token place significant = (forward, backward (cases_lt token place))
  where
    forward : token < place → rank ds token < rank ds place
    forward less = omega (arith, rank_of_next ds token significant, rank_up ds (suc token) place (omega (arith, less)))

    backward : (token < place) ⊎ (place ≤ token) → rank ds token < rank ds place → token < place
    backward (inl less) _ = less
    backward (inr le) less = absurd (omega (arith, less, rank_up ds place token le))

-- the place of member r of the places from one on, and how many members stand before it
record Member (ds : List ℕ) (i r place : ℕ) : Type 0 where
  behind : i ≤ place
  before : length (places_but ds i (place - i)) ≡ r

next_member : (ds : List ℕ) (i place r : ℕ) (dropped : Bool) → is_among i ds ≡ dropped → Member ds (i + 1) r place → Member ds i (counted dropped + r) place
next_member ds i place r dropped is m =
    let one : place - i ≡ suc (place - (i + 1)) = omega (arith, m.behind) in
    let size : length (places_but ds i (suc (place - (i + 1)))) ≡ counted dropped + length (places_but ds (i + 1) (place - (i + 1))) =
    length_if (is_among i ds) i (places_but ds (i + 1) (place - (i + 1))) ∙ ap (λ z. counted z + length (places_but ds (i + 1) (place - (i + 1)))) is in
    record { behind = omega (arith, m.behind); before = ap (λ z. length (places_but ds i z)) one ∙ omega (arith, size, m.before) }

first_member : (ds : List ℕ) (i place : ℕ) → Some i ≡ Some place → Member ds i 0 place
first_member ds i place same =
    let is : i ≡ place = ap (λ o. unwrap_or o 0) same in
    let none : place - i ≡ 0 = omega (arith, is) in
    record { behind = omega (arith, is); before = ap (λ z. length (places_but ds i z)) none }

member_by : (ds : List ℕ) (i n place : ℕ) (dropped : Bool) → is_among i ds ≡ dropped → (r : ℕ) → slice_get (cond dropped (places_but ds (i + 1) n) (i ∷ places_but ds (i + 1) n)) r ≡ Some place
    → ((s : ℕ) → slice_get (places_but ds (i + 1) n) s ≡ Some place → Member ds (i + 1) s place) → Member ds i r place
unfolding counted
member_by ds i n place true is r there inner = subst (λ z. Member ds i z place) (omega arith) (next_member ds i place r true is (inner r there))
member_by ds i n place false is zero there inner = first_member ds i place there
member_by ds i n place false is (suc r) there inner = subst (λ z. Member ds i z place) (omega arith) (next_member ds i place r false is (inner r there))

member : (ds : List ℕ) (i n r place : ℕ) → slice_get (places_but ds i n) r ≡ Some place → Member ds i r place
member ds i zero r place there = absurd (omega (arith, slice_get_within [] r place there))
member ds i (suc n) r place there = member_by ds i n place (is_among i ds) refl r there (λ s. member ds (i + 1) n s place)

pub ranks_count : RanksCount
ranks_count chunk n r token there =
    let none : token ≡ token - 0 = omega arith in
    ap (rank (dropped_block chunk [])) none ∙ (member (dropped_block chunk []) 0 n r token there).before

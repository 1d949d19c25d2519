-- The number of groups, one group at a time.
use Rattle.std.proofs.Common.{◌≡◌, ℕ, ◌+◌, ◌*◌, ◌<◌, ◌≤◌, List, [], ◌∷◌, length, take, drop, get_or, fold, sym, ap, ◌∙◌, arith, take-append-drop}
use Rattle.std.proofs.lemmas.List.Sums.{fold_more, fold-append}
use Rattle.luf_undump.specs.Reading.{value_of_groups}

pub value_more : (groups : List ℕ) (i : ℕ) → i < length groups → value_of_groups (take (i + 1) groups) ≡ value_of_groups (take i groups) * 128 + get_or groups i 0
value_more groups i within = fold_more (λ value group. value * 128 + group) 0 groups i 0 within

value_grows : (groups : List ℕ) (value : ℕ) → value ≤ fold (λ value group. value * 128 + group) value groups
value_grows [] value = omega arith
value_grows (group ∷ groups) value = omega (arith, value_grows groups (value * 128 + group))

pub value_take_le : (groups : List ℕ) (n : ℕ) → value_of_groups (take n groups) ≤ value_of_groups groups
value_take_le groups n =
    let step = λ (value group : ℕ). value * 128 + group in
    let whole : value_of_groups groups ≡ fold step (value_of_groups (take n groups)) (drop n groups) =
    ap value_of_groups (sym (take-append-drop n groups)) ∙ fold-append step 0 (take n groups) (drop n groups) in
    rw whole (value_grows (drop n groups) (value_of_groups (take n groups)))

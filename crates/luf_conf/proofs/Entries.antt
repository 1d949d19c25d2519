-- What is found in the members of a table whose entries are parted: those before, one, and those behind.
use Rattle.std.proofs.Common.{◌≡◌, ℕ, List, [], ◌∷◌, ◌++◌, Option, Some, None, String, Global, Less, Equal, Greater, Ordering, string_bytes, nat_cmp, is_eq, refl, sym, ap, ◌∙◌}
use Rattle.std.proofs.lemmas.Cmp.{nat_list_cmp_total, tied_itself}
use Rattle.std.specs.Cmp.Lexicographic.{slice_cmp, texts_ties, bytes_decides}
use Rattle.std.specs.List.{AllByRecursion}
use Rattle.std.specs.List.Sorted.{IsStrictlySortedBy}
use Rattle.std.specs.Map.{keys_of}
use Rattle.std.specs.Option.{option_or}
use Rattle.std.specs.Ordering.{match_ordering, ordering_reverse}
use Rattle.std.specs.String.{string_cmp}
use Rattle.toml.proofs.Views.{Entry}
use Rattle.toml.specs.Data.{Data, get_member}
use Rattle.toml.specs.View.{members_view, view}

pub same_bytes : (xs ys : List ℕ) → slice_cmp nat_cmp xs ys ≡ Equal → xs ≡ ys
same_bytes xs ys equal = (bytes_decides xs ys).0 (texts_ties xs ys ∙ ap is_eq equal)

pub or_none : {A : Type 0} (o : Option A) → option_or o None ≡ o
or_none None = refl
or_none (Some x) = refl

joined_at : (o : Ordering) (d : Data) (a b : Option Data) → match_ordering o (option_or a b) (Some d) (option_or a b) ≡ option_or (match_ordering o a (Some d) a) b
joined_at Less d a b = refl
joined_at Equal d a b = refl
joined_at Greater d a b = refl

-- among the entries before, and else among those behind
pub get_joined : (name : List ℕ) (done left : List Entry)
    → get_member name (members_view (done ++ left)) ≡ option_or (get_member name (members_view done)) (get_member name (members_view left))
get_joined name [] left = refl
get_joined name (e ∷ done) left = rw (get_joined name done left) (joined_at (slice_cmp nat_cmp name (string_bytes e.0)) (view e.1) _ _)

none_above : (name : List ℕ) (es : List Entry) → AllByRecursion (λ y. slice_cmp nat_cmp name (string_bytes y) ≡ Less) (keys_of es) → get_member name (members_view es) ≡ None
none_above name [] above = refl
none_above name (e ∷ es) above = rw above.0 (none_above name es above.1)

all_above : (name : List ℕ) (k : String Global) (ys : List (String Global)) → slice_cmp nat_cmp name (string_bytes k) ≡ Less → AllByRecursion (λ y. string_cmp k y ≡ Less) ys
    → AllByRecursion (λ y. slice_cmp nat_cmp name (string_bytes y) ≡ Less) ys
all_above name k [] less above = tt
all_above name k (y ∷ ys) less above = (nat_list_cmp_total.trans name (string_bytes k) (string_bytes y) less above.0, all_above name k ys less above.1)

behind : (done : List Entry) (e : Entry) (rest : List Entry) → IsStrictlySortedBy string_cmp (keys_of (done ++ e ∷ rest)) → AllByRecursion (λ y. string_cmp e.0 y ≡ Less) (keys_of rest)
unfolding IsStrictlySortedBy
behind [] e rest sorted = sorted.0
behind (x ∷ done) e rest sorted = behind done e rest sorted.1

middle : (x : Entry) (done : List Entry) (e : Entry) (rest : List Entry) → AllByRecursion (λ y. string_cmp x.0 y ≡ Less) (keys_of (done ++ e ∷ rest)) → string_cmp x.0 e.0 ≡ Less
middle x [] e rest above = above.0
middle x (y ∷ done) e rest above = middle x done e rest above.1

-- the name of the one in the middle is not among those before
pub fresh : (done : List Entry) (e : Entry) (rest : List Entry) → IsStrictlySortedBy string_cmp (keys_of (done ++ e ∷ rest)) → get_member (string_bytes e.0) (members_view done) ≡ None
unfolding IsStrictlySortedBy
fresh [] e rest sorted = refl
fresh (x ∷ done) e rest sorted =
    let above : slice_cmp nat_cmp (string_bytes e.0) (string_bytes x.0) ≡ Greater = nat_list_cmp_total.antisymm (string_bytes e.0) (string_bytes x.0) ∙ ap ordering_reverse (middle x done e rest sorted.0) in
    rw above (fresh done e rest sorted.1)

-- a lesser name is found among those before
pub found_before : (name : List ℕ) (done : List Entry) (e : Entry) (rest : List Entry) (d : Data) → IsStrictlySortedBy string_cmp (keys_of (done ++ e ∷ rest)) → slice_cmp nat_cmp name (string_bytes e.0) ≡ Less
    → get_member name (members_view (done ++ e ∷ rest)) ≡ Some d → get_member name (members_view done) ≡ Some d
found_before name done e rest d sorted less found =
    let none : get_member name (members_view (e ∷ rest)) ≡ None = rw less (none_above name rest (all_above name e.0 (keys_of rest) less (behind done e rest sorted))) in
    sym (or_none (get_member name (members_view done))) ∙ ap (option_or (get_member name (members_view done))) (sym none) ∙ sym (get_joined name done (e ∷ rest)) ∙ found

-- the one in the middle is found
pub found_here : (done : List Entry) (e : Entry) (rest : List Entry) → IsStrictlySortedBy string_cmp (keys_of (done ++ e ∷ rest))
    → get_member (string_bytes e.0) (members_view (done ++ e ∷ rest)) ≡ Some (view e.1)
found_here done e rest sorted =
    get_joined (string_bytes e.0) done (e ∷ rest) ∙ rw (fresh done e rest sorted, tied_itself nat_list_cmp_total (string_bytes e.0)) refl

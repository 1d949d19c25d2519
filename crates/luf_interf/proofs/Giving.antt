-- A table of next uses, when a local variable is given the first number that it can have.
use Rattle.std.proofs.Common.{◌≡◌, ℕ, ◌<◌, ◌≤◌, true, cond, nat_eq, nat_le, Some, List, ◌++◌, length, get_or, set, slice_get, All, sym, ap, subst, ◌∙◌}
use Rattle.std.specs.List.{position_from}
use Rattle.std.proofs.lemmas.Option.{get_or_from_slice_get}
use Rattle.std.proofs.lemmas.Bool.{leb-true}
use Rattle.luf_interf.specs.declared.uses.Use.{Use}
use Rattle.luf_interf.specs.declared.uses.Scope.{Scope}
use Rattle.luf_interf.specs.inner.Uses.{nowhere, is_of, next_of, IsTable, IsChoice}
use Rattle.luf_interf.proofs.Among.{all_among}
use Rattle.luf_interf.proofs.Given.{given}
use Rattle.luf_interf.proofs.Choice.{first_at, choice}

pub found_below : (heads : List ℕ) (to k : ℕ) → position_from (λ n. nat_le to n) 0 heads ≡ Some k → k < length heads
found_below heads to k is = (first_at (λ n. nat_le to n) heads k is).below

pub given_at : (names behind heads after : List ℕ) (us : List Use) (n k to first next head : ℕ) → n < length names → n < length behind → get_or names n nowhere ≡ nowhere → 0 < to
    → position_from (λ n. nat_le to n) 0 heads ≡ Some k → slice_get heads k ≡ Some next → head ≡ cond (nat_eq first nowhere) next first → after ≡ set heads k head
    → All (λ u. is_of n u ≡ true → u.token < to) us → first ≡ next_of (is_of n) us → IsTable names behind heads us
    → IsTable (set names n k) (set behind n next) after us
given_at names behind heads after us n k to first next head within also unnamed some found at is set_now inside same table =
    let f = first_at (λ n. nat_le to n) heads k found in
    let next_is = get_or_from_slice_get heads k next 0 at in
    subst (λ hs. IsTable (set names n k) (set behind n next) hs us) (sym (set_now ∙ ap (set heads k) is))
    (subst (λ m. IsTable (set names n k) (set behind n m) (set heads k (cond (nat_eq first nowhere) m first)) us) next_is
    (given names behind heads us n k to first within also unnamed f.below some (leb-true to (get_or heads k 0) f.passes) (λ u m. all_among (λ w. is_of n w ≡ true → w.token < to) us u inside m) same table))

pub choice_at : (names behind heads : List ℕ) (s : Scope) (us : List Use) (k : ℕ) → IsTable names behind heads us → 0 < s.to → s.to ≤ nowhere → All (λ u. s.from ≤ u.token) us
    → position_from (λ n. nat_le s.to n) 0 heads ≡ Some k → (done : List Use) → All (λ u. u.token < s.from) done → IsChoice (done ++ us) names s k
choice_at names behind heads s us k table some last ahead found done passed =
    choice names behind heads s done us table some last (λ u m. all_among (λ w. w.token < s.from) done u passed m) (λ u m. all_among (λ w. s.from ≤ w.token) us u ahead m) k found

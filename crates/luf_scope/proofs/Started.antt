-- What is found from a place on, before which all marks stand before a token.
use Rattle.std.proofs.Common.{◌≡◌, ℕ, ◌*◌, ◌<◌, ◌≤◌, ◌⊎◌, inl, inr, Bool, true, false, cond, nat_eq, List, length, get_or, slice_get, Some, None, refl, sym, ap, ◌∙◌, subst, arith}
use Rattle.std.proofs.lemmas.Bool.{cases_lt}
use Rattle.std.proofs.lemmas.Bool.Decides.{nat_tests}
use Rattle.std.proofs.lemmas.List.{get_or_default}
use Rattle.std.proofs.lemmas.Option.{slice_get_within, get_or_from_slice_get}
use Rattle.luf_scope.specs.Marks.{mark_at, AreRising}
use Rattle.luf_scope.specs.inner.Starts.{AreStarts, StandBefore}
use Rattle.luf_scope.proofs.Marked.{mark_absent, mark_present}

-- all marks stand before the token, or the one at the place where they end has it or one behind
pub none_behind : {T : Type 0} (marks : List (ℕ × T)) (token place : ℕ) → AreRising marks → StandBefore marks place token → ((d : ℕ × T) → place < length marks → token < (get_or marks place d).0) → mark_at marks token ≡ None
none_behind {T} marks token place rising before there = mark_absent marks token (λ i d inside eq. apart i d inside eq (cases_lt i place))
  where
    apart : (i : ℕ) (d : ℕ × T) → i < length marks → (get_or marks i d).0 ≡ token → (i < place) ⊎ (place ≤ i) → ⊥
    apart i d inside eq (inl less) = omega (arith, before i d less inside)
    apart i d inside eq (inr behind) = on (cases_lt place i)
      where
        on : (place < i) ⊎ (i ≤ place) → ⊥
        on (inl less) = omega (arith, there d (omega arith), rising place i d less inside)
        on (inr at) = let same : i ≡ place = omega arith in let here : (get_or marks place d).0 ≡ token = ap (λ n. (get_or marks n d).0) (sym same) ∙ eq in omega (arith, there d (omega arith))

module _ {T : Type 0} (marks : List (ℕ × T)) (token place : ℕ) (rising : AreRising marks) (before : StandBefore marks place token) where
  -- the first mark that does not stand before the token tells
  pub told_here : (x : ℕ × T) → place < length marks → x ≡ get_or marks place x → token ≤ x.0 → cond (nat_eq x.0 token) (Some x.1) None ≡ mark_at marks token
  told_here x inside is behind = by (nat_eq x.0 token) refl
    where
      by : (b : Bool) → nat_eq x.0 token ≡ b → cond (nat_eq x.0 token) (Some x.1) None ≡ mark_at marks token
      by true same = ap (λ c. cond c (Some x.1) None) same ∙ sym (mark_present marks token place x rising inside is (grind (arith, nat_tests)))
      by false apart =
          let further : token < x.0 = grind (arith, nat_tests) in
          ap (λ c. cond c (Some x.1) None) apart ∙ sym (none_behind marks token place rising before (λ d more. subst (λ (m : ℕ × T). token < m.0) (is ∙ get_or_default marks place x d inside) further))

  pub told_none : length marks ≤ place → None ≡ mark_at marks token
  told_none end = sym (none_behind marks token place rising before (λ d more. absurd (omega arith)))

-- and where the token is behind all places
pub none_started : {T : Type 0} (marks : List (ℕ × T)) (starts : List ℕ) (token block : ℕ) → AreStarts marks starts → 16 * block ≤ token → length starts ≤ block → None ≡ mark_at marks token
none_started marks starts token block are from past = sym (mark_absent marks token (λ i d inside eq. omega (arith, are.last i d inside)))

pub before_start : {T : Type 0} (marks : List (ℕ × T)) (starts : List ℕ) (token block start : ℕ) → AreStarts marks starts → 16 * block ≤ token → slice_get starts block ≡ Some start → (start ≤ length marks) × StandBefore marks start token
before_start {T} marks starts token block start are from is =
    let inside : block < length starts = slice_get_within starts block start is in
    let here : get_or starts block 0 ≡ start = get_or_from_slice_get starts block start 0 is in
    (subst (λ s. s ≤ length marks) here (are.within block 0 inside), λ i d less within. omega (arith, are.before block 0 inside i d (subst (λ s. i < s) (sym here) less) within))

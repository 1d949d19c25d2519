-- Each long bracket closes, or stays open.
use Rattle.std.proofs.Common.{◌≡◌, ℕ, zero, suc, ◌+◌, ◌≤◌, ◌⊎◌, true, List, length, take, drop, refl, sym, ap, ◌∙◌, subst, arith, inl, inr}
use Rattle.std.proofs.lemmas.Bool.{cases_lt}
use Rattle.luf_str.specs.Spelling.{closing, IsLongSpelling}
use Rattle.luf_str.specs.LongEnd.{opens_long, IsOpenLong}
use Rattle.luf_lex.proofs.Decided.{Behind, front_or_not}
use Rattle.luf_str.proofs.BracketLaws.{NoneBelow, level_of, bracket_cut, closed_at, never_closed}

-- the first closing bracket of the level, or that there is none
abbrev Closes : ℕ → List ℕ → Type 0
Closes level inner = (at : ℕ) × (at ≤ length inner) × Behind (closing level) (drop at inner) × NoneBelow level inner at

none_at : (level : ℕ) (inner : List ℕ) (at : ℕ) → NoneBelow level inner at → (Behind (closing level) (drop at inner) → ⊥) → NoneBelow level inner (suc at)
none_at level inner at none here k below rest e =
    elim (cases_lt k at) [
      | inl less ↦ none k less rest e
      | inr more ↦ let same : k ≡ at = omega arith in here (rest, ap (λ i. drop i inner) (sym same) ∙ e)
    ]

closes_from : (left : ℕ) (level : ℕ) (inner : List ℕ) (at : ℕ) → at + left ≡ length inner → NoneBelow level inner at → Closes level inner ⊎ NoneBelow level inner (length inner)
closes_from zero level inner at all none = inr (subst (NoneBelow level inner) (omega arith) none)
closes_from (suc left) level inner at all none =
    elim (front_or_not (closing level) (drop at inner)) [
      | inl h ↦ inl (at, omega arith, h, none)
      | inr missing ↦ closes_from left level inner (suc at) (omega arith) (none_at level inner at none missing)
    ]

pub long_or_open : (text : List ℕ) → opens_long text ≡ true → ((n : ℕ) × (n ≤ length text) × IsLongSpelling (take n text)) ⊎ IsOpenLong text
long_or_open text opens =
    let level : ℕ = level_of text in
    let inner : List ℕ = drop (level + 2) text in
    let cut = bracket_cut text level opens refl in
    elim (closes_from (length inner) level inner 0 (omega arith) (λ k below. absurd (omega arith))) [
      | inl h ↦ let long = closed_at text inner h.2.0 level h.0 cut h.1 h.2.1 h.3 in inl (_, long.0, long.1)
      | inr none ↦ inr (never_closed text inner level opens cut none)
    ]

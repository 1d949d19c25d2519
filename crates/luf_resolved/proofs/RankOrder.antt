-- Significant tokens are told apart by their ranks as by their places, and so are the places before and behind them.
use Rattle.std.proofs.Common.{◌≡◌, ℕ, zero, suc, ◌+◌, ◌<◌, ◌≤◌, ◌⊎◌, ◌↔◌, inl, inr, Bool, true, false, cond, Some, List, ◌∷◌, length, slice_get, eq-eqb, ne_eqb, ap, sym, ◌∙◌, arith}
use Rattle.std.specs.Prelude.{nat_le, nat_lt, nat_eq}
use Rattle.std.proofs.lemmas.Bool.{cases_lt, cases_eq, lt-ltb, le-ltb, le-leb, lt-leb}
use Rattle.luf_lex.specs.declared.token.Tok.{Tok}
use Rattle.luf_bare.specs.Significant.{is_among, places_but}
use Rattle.luf_bare.specs.Rank.{rank}
use Rattle.luf_bare.proofs.Ranks.{ranks_in_order, rank_up}
use Rattle.luf_resolved.proofs.Ranking.{Solid, Opened}

-- ---- tests that hold alike

lt_alike : {a b c d : ℕ} → (a < b) ↔ (c < d) → nat_lt c d ≡ nat_lt a b
lt_alike {a} {b} {c} {d} iff = by_case (cases_lt a b) (cases_lt c d)
  where
    by_case : (a < b) ⊎ (b ≤ a) → (c < d) ⊎ (d ≤ c) → nat_lt c d ≡ nat_lt a b
    by_case (inl less) _ = lt-ltb c d (iff.0 less) ∙ sym (lt-ltb a b less)
    by_case (inr le) (inl less) = absurd (omega (arith, le, iff.1 less))
    by_case (inr le) (inr more) = le-ltb c d more ∙ sym (le-ltb a b le)

le_alike : {a b c d : ℕ} → (a < b) ↔ (c < d) → nat_le d c ≡ nat_le b a
le_alike {a} {b} {c} {d} iff = by_case (cases_lt a b) (cases_lt c d)
  where
    by_case : (a < b) ⊎ (b ≤ a) → (c < d) ⊎ (d ≤ c) → nat_le d c ≡ nat_le b a
    by_case (inl less) _ = lt-leb d c (iff.0 less) ∙ sym (lt-leb b a less)
    by_case (inr le) (inl less) = absurd (omega (arith, le, iff.1 less))
    by_case (inr le) (inr more) = le-leb d c more ∙ sym (le-leb b a le)

module _ {toks : List Tok} {all : List ℕ} where
  pub before_alike : {p : ℕ} → Solid toks all p → (x : ℕ) → nat_lt (rank all p) (rank all x) ≡ nat_lt p x
  before_alike {p} s x = lt_alike (ranks_in_order all p x s.kept)

  pub reached_alike : {p : ℕ} → Solid toks all p → (x : ℕ) → nat_le (rank all x) (rank all p) ≡ nat_le x p
  reached_alike {p} s x = le_alike (ranks_in_order all p x s.kept)

  apart : {p q : ℕ} → Solid toks all p → Solid toks all q → (p ≡ q → ⊥) → rank all p ≡ rank all q → ⊥
  apart {p} {q} s u differ same = by_case (cases_lt p q) (cases_lt q p)
    where
      by_case : (p < q) ⊎ (q ≤ p) → (q < p) ⊎ (p ≤ q) → ⊥
      by_case (inl less) _ = omega (arith, (ranks_in_order all p q s.kept).0 less, same)
      by_case (inr le) (inl less) = omega (arith, (ranks_in_order all q p u.kept).0 less, same)
      by_case (inr le) (inr more) = differ (omega (arith, le, more))

  pub equal_alike : {p q : ℕ} → Solid toks all p → Solid toks all q → nat_eq (rank all p) (rank all q) ≡ nat_eq p q
  equal_alike {p} {q} s u = by_case (cases_eq p q)
    where
      by_case : (p ≡ q) ⊎ (p ≡ q → ⊥) → nat_eq (rank all p) (rank all q) ≡ nat_eq p q
      by_case (inl same) = eq-eqb (rank all p) (rank all q) (ap (rank all) same) ∙ sym (eq-eqb p q same)
      by_case (inr differ) = ne_eqb (rank all p) (rank all q) (apart s u differ) ∙ sym (ne_eqb p q differ)

  -- blocks begin in the same order
  opened_order : (x : ℕ) {y : ℕ} → Opened toks all y → (x < y) ↔ (rank all x < rank all y)
  opened_order x {y} opening = (forward opening, backward (cases_lt x y))
    where
      forward : Opened toks all y → x < y → rank all x < rank all y
      forward (inl first) less = absurd (omega (arith, first, less))
      forward (inr b) less = omega (arith, rank_up all x b.before (omega (arith, less, b.next)), (ranks_in_order all b.before y b.solid.kept).0 (omega (arith, b.next)))

      backward : (x < y) ⊎ (y ≤ x) → rank all x < rank all y → x < y
      backward (inl less) _ = less
      backward (inr le) less = absurd (omega (arith, less, rank_up all y x le))

  pub opened_alike : (x : ℕ) {y : ℕ} → Opened toks all y → nat_lt (rank all x) (rank all y) ≡ nat_lt x y
  opened_alike x opening = lt_alike (opened_order x opening)

  pub begun_alike : (x : ℕ) {y : ℕ} → Opened toks all y → nat_le (rank all y) (rank all x) ≡ nat_le y x
  begun_alike x opening = le_alike (opened_order x opening)

-- ---- the significant token of a rank

among_at : (ds : List ℕ) (b k : ℕ) → is_among (b + suc k) ds ≡ false → is_among ((b + 1) + k) ds ≡ false
among_at ds b k solid = let at : (b + 1) + k ≡ b + suc k = omega arith in ap (λ z. is_among z ds) at ∙ solid

found : (ds : List ℕ) (b k n : ℕ) → k < n → is_among (b + k) ds ≡ false → slice_get (places_but ds b n) (length (places_but ds b k)) ≡ Some (b + k)
found ds b k zero less solid = absurd (omega (arith, less))
found ds b zero (suc n) less solid =
    let at : b + 0 ≡ b = omega arith in
    let here : is_among b ds ≡ false = ap (λ z. is_among z ds) (sym at) ∙ solid in
    ap (λ z. slice_get (cond z (places_but ds (b + 1) n) (b ∷ places_but ds (b + 1) n)) 0) here ∙ ap Some (sym at)
found ds b (suc k) (suc n) less solid = by_case (is_among b ds) (found ds (b + 1) k n (omega (arith, less)) (among_at ds b k solid))
  where
    by_case : (dropped : Bool) → slice_get (places_but ds (b + 1) n) (length (places_but ds (b + 1) k)) ≡ Some ((b + 1) + k)
        → slice_get (cond dropped (places_but ds (b + 1) n) (b ∷ places_but ds (b + 1) n)) (length (cond dropped (places_but ds (b + 1) k) (b ∷ places_but ds (b + 1) k))) ≡ Some (b + suc k)
    by_case true rest = rest ∙ ap Some (omega arith)
    by_case false rest = rest ∙ ap Some (omega arith)

pub significant_at_rank : {toks : List Tok} {all : List ℕ} {i : ℕ} → Solid toks all i → slice_get (places_but all 0 (length toks)) (rank all i) ≡ Some i
significant_at_rank {toks} {all} {i} s =
    let at : 0 + i ≡ i = omega arith in
    found all 0 i (length toks) s.within (ap (λ z. is_among z all) at ∙ s.kept) ∙ ap Some at

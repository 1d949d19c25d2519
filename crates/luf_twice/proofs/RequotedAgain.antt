-- A string in the quotes that were chosen for it is, in the quotes that are chosen for this spelling, itself.
use Rattle.std.proofs.Common.{◌≡◌, ℕ, suc, ◌+◌, ◌-◌, inl, inr, true, false, cond, eqb, ne_eqb, List, [], ◌∷◌, ◌++◌, length, length-append, take, map, refl, sym, ap, subst, ◌∙◌, zero-add, arith}
use Rattle.std.specs.Prelude.{count_by}
use Rattle.std.proofs.Math.Seq.{take-append_seam}
use Rattle.std.proofs.lemmas.List.Sums.{sum_by-append}
use Rattle.std.proofs.lemmas.Bool.{eqb-true}
use Rattle.luf_str.specs.Pieces.{AllInPlace}
use Rattle.luf_str.specs.Requote.{IsShortRequoted, IsRequoted, inside, other_quote, requoted_unit, quote_byte}
use Rattle.luf_str.specs.Spelling.{IsUnit, unit_bytes, IsCutIntoUnits, IsLongSpelling}
use Rattle.luf_str.specs.Spelling as unit
use Rattle.luf_quote.specs.Chosen.{chosen}
use Rattle.luf_quote.specs.declared.quotes.QuoteStyle.{QuoteStyle}
use Rattle.luf_style.specs.inner.Written.{quote_in}
use Rattle.luf_style.proofs.WrittenLaws.{quote_in_is_quote}
use Rattle.luf_twice.proofs.RequotedUnits.{requoted_units}

-- ---- a unit in these quotes, in these quotes

other_differs : (q : ℕ) → other_quote q ≡ q → ⊥
other_differs q =
    elim (eqb q 34) as (λ t. eqb q 34 ≡ t → cond t 39 34 ≡ q → ⊥) [
      | true ↦ λ yes same. let is : q ≡ 34 = eqb-true q 34 yes in absurd (omega (arith, is, same))
      | false ↦ λ no same. let is : eqb q 34 ≡ true = ap (λ n. eqb n 34) (sym same) in absurd cc
    ] refl

unit_again : (q : ℕ) (u : List ℕ) → requoted_unit q (requoted_unit q u) ≡ requoted_unit q u
unit_again q [] = refl
unit_again q (b ∷ []) =
    elim (eqb b q) as (λ t. eqb b q ≡ t → requoted_unit q (cond t (92 ∷ b ∷ []) (b ∷ [])) ≡ cond t (92 ∷ b ∷ []) (b ∷ [])) [
      | true ↦ λ yes. ap (λ t. cond t (b ∷ []) (92 ∷ b ∷ [])) (ne_eqb b (other_quote q) (λ same. other_differs q (sym same ∙ eqb-true b q yes)))
      | false ↦ λ no. ap (λ t. cond t (92 ∷ b ∷ []) (b ∷ [])) no
    ] refl
unit_again q (b ∷ c ∷ []) =
    elim (eqb c (other_quote q)) as (λ t. eqb c (other_quote q) ≡ t → requoted_unit q (cond t (c ∷ []) (b ∷ c ∷ [])) ≡ cond t (c ∷ []) (b ∷ c ∷ [])) [
      | true ↦ λ yes. ap (λ t. cond t (92 ∷ c ∷ []) (c ∷ [])) (ne_eqb c q (λ same. other_differs q (sym (eqb-true c (other_quote q) yes) ∙ same)))
      | false ↦ λ no. ap (λ t. cond t (c ∷ []) (b ∷ c ∷ [])) no
    ] refl
unit_again q (b ∷ c ∷ d ∷ u) = refl

units_again : (q : ℕ) (us : List (List ℕ)) → map (requoted_unit q) (map (requoted_unit q) us) ≡ map (requoted_unit q) us
units_again q [] = refl
units_again q (u ∷ us) = λ i. unit_again q u i ∷ units_again q us i

-- ---- the quotes inside stay as many

module _ (d : ℕ) (no_backslash : eqb 92 d ≡ false) where
  abbrev counted : List ℕ → ℕ
  counted bytes = count_by (λ b. eqb b d) bytes

  behind_backslash : (rest : List ℕ) → counted (92 ∷ rest) ≡ counted rest
  behind_backslash rest = sum_by-append (λ b. cond (eqb b d) 1 0) (92 ∷ []) rest ∙ ap (λ t. (0 + cond t 1 0) + counted rest) no_backslash ∙ zero-add (counted rest)

  plain_counted : (q b : ℕ) → counted (requoted_unit q (b ∷ [])) ≡ counted (b ∷ [])
  plain_counted q b = elim (eqb b q) as (λ t. counted (cond t (92 ∷ b ∷ []) (b ∷ [])) ≡ counted (b ∷ [])) [ true ↦ behind_backslash (b ∷ []) | false ↦ refl ]

  escaped_counted : (q : ℕ) (rest : List ℕ) → counted (requoted_unit q (92 ∷ rest)) ≡ counted (92 ∷ rest)
  escaped_counted q [] = plain_counted q 92
  escaped_counted q (c ∷ []) = elim (eqb c (other_quote q)) as (λ t. counted (cond t (c ∷ []) (92 ∷ c ∷ [])) ≡ counted (92 ∷ c ∷ [])) [ true ↦ sym (behind_backslash (c ∷ [])) | false ↦ refl ]
  escaped_counted q (c ∷ e ∷ rest) = refl

  unit_counted : {p : ℕ} {u next : List ℕ} (q : ℕ) → IsUnit p u next → counted (requoted_unit q u) ≡ counted u
  unit_counted q (unit.plain p b next is) = plain_counted q b
  unit_counted q (unit.skip p spaces next all none) = escaped_counted q (122 ∷ spaces)
  unit_counted q (unit.line_end p line next is) = escaped_counted q line
  unit_counted q (unit.other p b next no_z no_line) = escaped_counted q (b ∷ [])

  units_counted : (p q : ℕ) (us : List (List ℕ)) (next : List ℕ) → AllInPlace (IsUnit p) (λ u. u) us next → counted (unit_bytes (map (requoted_unit q) us)) ≡ counted (unit_bytes us)
  units_counted p q [] next all = refl
  units_counted p q (u ∷ us) next all =
      sum_by-append (λ b. cond (eqb b d) 1 0) (requoted_unit q u) (unit_bytes (map (requoted_unit q) us))
      ∙ (λ i. unit_counted q all.0 i + units_counted p q us next all.1 i)
      ∙ sym (sum_by-append (λ b. cond (eqb b d) 1 0) u (unit_bytes us))

  inside_is : (q r : ℕ) (bytes : List ℕ) → inside (q ∷ (bytes ++ r ∷ [])) ≡ bytes
  inside_is q r bytes =
      let long : suc (length (bytes ++ r ∷ [])) - 2 ≡ length bytes = omega (arith, length-append bytes (r ∷ [])) in
      ap (λ n. take n (bytes ++ r ∷ [])) long ∙ take-append_seam bytes (r ∷ [])

  inside_counted : (p q : ℕ) (s w : List ℕ) (us : List (List ℕ)) → IsCutIntoUnits p us s → w ≡ q ∷ (unit_bytes (map (requoted_unit q) us) ++ q ∷ []) → counted (inside w) ≡ counted (inside s)
  inside_counted p q s w us cut is =
      ap (λ t. counted (inside t)) is ∙ ap counted (inside_is q q (unit_bytes (map (requoted_unit q) us)))
      ∙ units_counted p q us (p ∷ []) cut.0
      ∙ sym (ap (λ t. counted (inside t)) cut.1 ∙ ap counted (inside_is p p (unit_bytes us)))

-- ---- a string

pub requoted_again : (style : QuoteStyle) (s w : List ℕ) → IsRequoted s (quote_in style s) w → IsRequoted w (quote_in style w) w
requoted_again style s w (inr (long, same)) = inr (subst IsLongSpelling (sym same) long, refl)
requoted_again style s w (inl (from, us, quote, cut, is)) =
    let q : ℕ = quote_in style s in
    let stays : q ≡ quote_in style w =
    λ i. quote_byte (chosen style (record { single = sym (inside_counted 39 refl from q s w us cut is) i; double = sym (inside_counted 34 refl from q s w us cut is) i })) in
    let again : IsShortRequoted w q w =
    (q, map (requoted_unit q) us, quote_in_is_quote style s, (requoted_units from q us quote (quote_in_is_quote style s) cut.0, is), is ∙ ap (λ vs. q ∷ (unit_bytes vs ++ q ∷ [])) (sym (units_again q us))) in
    inl (subst (λ n. IsShortRequoted w n w) stays again)

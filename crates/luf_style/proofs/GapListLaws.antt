-- Gaps by the numbers of their kinds: one more, and one of them.
use Rattle.std.proofs.Common.{◌≡◌, ℕ, ◌<◌, ◌≤◌, zero, suc, List, [], ◌∷◌, ◌++◌, length, get_or, take, drop, refl, sym, ap, ◌∙◌, arith, subst}
use Rattle.std.proofs.lemmas.List.{get_or_default, length-take}
use Rattle.luf_doc.specs.declared.doc.Gap.{Gap}
use Rattle.luf_style.specs.inner.GapList.{gaps_at, plain, AreRows}

-- what stands at a number is the same among more kinds
same_at : (old kinds : List Gap) (row : ℕ) → take (length old) kinds ≡ old → row < length old → get_or kinds row plain ≡ get_or old row plain
same_at [] kinds row first within = absurd (omega arith)
same_at (k ∷ old) [] row first within = absurd (no_more first)
  where
    no_more : [] ≡ k ∷ old → ⊥
    no_more is = let n = ap length is in omega (arith, n)
same_at (k ∷ old) (l ∷ kinds) zero first within = ap (λ (ks : List Gap). get_or ks 0 plain) first
same_at (k ∷ old) (l ∷ kinds) (suc row) first within = same_at old kinds row (ap (λ (ks : List Gap). drop 1 ks) first) (omega arith)

-- ---- what more kinds leave

more_count : (old kinds : List Gap) → take (length old) kinds ≡ old → length old ≤ length kinds
more_count old kinds first =
    let count = length-take (length old) kinds in
    let same = ap length first in
    omega (arith, count, same)

pub kept_gaps : (old kinds : List Gap) (rows : List ℕ) → take (length old) kinds ≡ old → AreRows (length old) rows → gaps_at kinds rows ≡ gaps_at old rows
kept_gaps old kinds [] first are = refl
kept_gaps old kinds (row ∷ rows) first (within, more) =
    let here = same_at old kinds row first within in
    let later = kept_gaps old kinds rows first more in
    λ i. here i ∷ later i

more_rows : (count most : ℕ) (rows : List ℕ) → count ≤ most → AreRows count rows → AreRows most rows
more_rows count most [] le are = are
more_rows count most (row ∷ rows) le (within, more) = (omega (arith, le, within), more_rows count most rows le more)

pub kept_rows : (old kinds : List Gap) (rows : List ℕ) → take (length old) kinds ≡ old → AreRows (length old) rows → AreRows (length kinds) rows
kept_rows old kinds rows first are = more_rows (length old) (length kinds) rows (more_count old kinds first) are

-- ---- one more

one_row : (count row : ℕ) (rows : List ℕ) → row < count → AreRows count rows → AreRows count (rows ++ row ∷ [])
one_row count row [] low are = (low, are)
one_row count row (r ∷ rows) low (within, more) = (within, one_row count row rows low more)

one_gap : (kinds : List Gap) (row : ℕ) (rows : List ℕ) → gaps_at kinds (rows ++ row ∷ []) ≡ gaps_at kinds rows ++ get_or kinds row plain ∷ []
one_gap kinds row [] = refl
one_gap kinds row (r ∷ rows) = ap (λ (gs : List Gap). get_or kinds r plain ∷ gs) (one_gap kinds row rows)

pub pushed_rows : (old kinds : List Gap) (rows rows' : List ℕ) (row : ℕ) → take (length old) kinds ≡ old → AreRows (length old) rows → row < length kinds → rows' ≡ rows ++ row ∷ [] → AreRows (length kinds) rows'
pushed_rows old kinds rows rows' row first are low is = subst (AreRows (length kinds)) (sym is) (one_row (length kinds) row rows low (kept_rows old kinds rows first are))

pub pushed_gaps : (old kinds : List Gap) (rows rows' : List ℕ) (row : ℕ) (gap : Gap) → take (length old) kinds ≡ old → AreRows (length old) rows → row < length kinds → get_or kinds row gap ≡ gap → rows' ≡ rows ++ row ∷ []
    → gaps_at kinds rows' ≡ gaps_at old rows ++ gap ∷ []
pushed_gaps old kinds rows rows' row gap first are low is rows_are =
    let here : get_or kinds row plain ≡ gap = get_or_default kinds row plain gap low ∙ is in
    let before = kept_gaps old kinds rows first are in
    ap (gaps_at kinds) rows_are ∙ one_gap kinds row rows ∙ (λ i. before i ++ here i ∷ [])

-- ---- one of them

pub gaps_count : (kinds : List Gap) (rows : List ℕ) → length (gaps_at kinds rows) ≡ length rows
gaps_count kinds [] = refl
gaps_count kinds (row ∷ rows) = ap suc (gaps_count kinds rows)

pub row_within : (count : ℕ) (rows : List ℕ) (n row : ℕ) → AreRows count rows → n < length rows → row ≡ get_or rows n row → row < count
row_within count [] n row are within is = absurd (omega arith)
row_within count (r ∷ rows) zero row (low, more) within is = subst (λ k. k < count) (sym is) low
row_within count (r ∷ rows) (suc n) row (low, more) within is = row_within count rows n row more (omega arith) is

pub gap_at : (kinds : List Gap) (rows : List ℕ) (n row : ℕ) (gap : Gap) → AreRows (length kinds) rows → n < length rows → row ≡ get_or rows n row → gap ≡ get_or kinds row gap
    → gap ≡ get_or (gaps_at kinds rows) n gap
gap_at kinds [] n row gap are within is gap_is = absurd (omega arith)
gap_at kinds (r ∷ rows) zero row gap (low, more) within is gap_is = gap_is ∙ ap (λ k. get_or kinds k gap) is ∙ get_or_default kinds r gap plain low
gap_at kinds (r ∷ rows) (suc n) row gap (low, more) within is gap_is = gap_at kinds rows n row gap more (omega arith) is gap_is

-- Gotos whose target fails a test.
use Rattle.std.specs.Prelude.{ℕ, Bool, false, not, ◌&&◌, ◌||◌, cond, Option, Some, None, List, [], ◌∷◌, nat_le, nat_lt, is_none, slice_index_or}
use Rattle.luf_goto.specs.declared.holders.Extent.{Extent}
use Rattle.luf_goto.specs.declared.sites.LabelRow.{LabelRow}
use Rattle.luf_goto.specs.declared.sites.GotoRow.{GotoRow}
use Rattle.luf_goto.specs.inner.Rows.{row_at}

-- the first one, by its token; the test is given that and the target
abbrev pub first_failing : (ℕ → Option ℕ → Bool) → List GotoRow → List (Option ℕ) → Option ℕ
first_failing test [] targets = None
first_failing test (g ∷ gotos) [] = None
first_failing test (g ∷ gotos) (t ∷ targets) = cond (test g.token t) (Some g.token) (first_failing test gotos targets)

abbrev pub has_none : ℕ → Option ℕ → Bool
has_none place target = is_none target

-- an extent that does not hold the place
abbrev pub is_apart : Option Extent → ℕ → Bool
is_apart None place = false
is_apart (Some e) place = nat_lt place e.from || nat_le e.to place

abbrev pub enters_scope : List LabelRow → List (Option Extent) → ℕ → Option ℕ → Bool
enters_scope labels scopes place None = false
enters_scope labels scopes place (Some n) = not (row_at labels n).at_end && is_apart (slice_index_or scopes n None) place

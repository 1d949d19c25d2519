-- The first spot of those that pass a test.
use Rattle.std.specs.Prelude.{ℕ, Bool, true, false, not, cond, nat_lt, Option, Some, None, List, [], ◌∷◌}
use Rattle.std.specs.List.{list_any}
use Rattle.luf_goto.specs.inner.Holders.{holds}
use Rattle.luf_goto.specs.declared.holders.Extent.{Extent}
use Rattle.luf_goto.specs.declared.holders.Spot.{Spot}

-- its place
abbrev pub first_where : (Spot → Bool) → List Spot → Option ℕ
first_where test [] = None
first_where test (s ∷ spots) = cond (test s) (Some s.place) (first_where test spots)

-- whether some extent holds a spot is this
abbrev pub is_held : List Extent → Bool → Spot → Bool
is_held extents true s = list_any (holds s) extents
is_held extents false s = not (list_any (holds s) extents)

abbrev pub is_wanted : ℕ → Bool → Bool
is_wanted n true = nat_lt 0 n
is_wanted n false = not (nat_lt 0 n)

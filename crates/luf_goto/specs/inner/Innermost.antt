-- Of the extents that hold a spot, the innermost.
use Rattle.std.specs.Prelude.{◌≡◌, ℕ, ◌+◌, ◌-◌, ◌*◌, ◌<◌, ◌≤◌, true, false, Option, Some, None, List, length, slice_get, slice_index_or, nat_eq, if◌then◌else◌}
use Rattle.std.specs.List.{Contains}
use Rattle.luf_goto.specs.declared.holders.Extent.{Extent}
use Rattle.luf_goto.specs.declared.holders.Spot.{Spot}
use Rattle.luf_goto.specs.inner.Holders.{holds, extent_at, spot_at}

-- the order of extents: by their beginnings, and at one place by their ranks
abbrev pub key_of : Extent → ℕ
key_of e = e.from * 4294967296 + e.rank

abbrev pub extent_numbered : List Extent → ℕ → Option Extent
extent_numbered extents n = if nat_eq n 0 then None else slice_get extents (n - 1)

-- the last of those that hold a spot, in that order
abbrev pub IsInnermost : List Extent → Spot → Option Extent → Type 0
IsInnermost extents s None = (i : ℕ) → i < length extents → holds s (extent_at extents i) ≡ false
IsInnermost extents s (Some e) = Contains extents e × (holds s e ≡ true) × ((i : ℕ) → i < length extents → holds s (extent_at extents i) ≡ true → key_of (extent_at extents i) ≤ key_of e)

-- for each spot
pub record AreInnermost (extents : List Extent) (spots : List Spot) (found : List (Option Extent)) : Type 0 where
  pub same : length found ≡ length spots
  pub each : (k : ℕ) → k < length spots → IsInnermost extents (spot_at spots k) (slice_index_or found k None)

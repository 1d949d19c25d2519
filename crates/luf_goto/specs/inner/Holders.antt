-- Of many extents, the last that holds a place.
use Rattle.std.specs.Prelude.{◌≡◌, ℕ, ◌+◌, ◌<◌, ◌≤◌, ◌⊎◌, Bool, ◌&&◌, Option, Some, None, List, length, slice_index, slice_index_or, nat_le, nat_lt, nat_eq}
use Rattle.luf_scope.specs.Local.{last_passing}
use Rattle.luf_goto.specs.declared.holders.Extent.{Extent}
use Rattle.luf_goto.specs.declared.holders.Spot.{Spot}

-- an extent of the class of a spot, that holds its place
abbrev pub holds : Spot → Extent → Bool
holds s e = nat_eq e.class s.class && (nat_le e.from s.place && nat_lt s.place e.to)

-- the last of them, by its number
abbrev pub last_holding : List Extent → Spot → Option ℕ
last_holding extents s = last_passing (holds s) 0 extents

-- a number in an option, as 0 for none, or one higher
abbrev pub one_higher : Option ℕ → ℕ
one_higher None = 0
one_higher (Some n) = n + 1

abbrev pub nowhere : Extent
nowhere = record { class = 0; from = 0; to = 0; rank = 0 }

abbrev pub extent_at : List Extent → ℕ → Extent
extent_at extents i = slice_index_or extents i nowhere

abbrev pub spot_at : List Spot → ℕ → Spot
spot_at spots i = slice_index_or spots i (record { class = 0; place = 0 })

-- What is known of the first extents, at a place: of each class the last that may still hold it, and of each extent
-- the last one before it in its class that may, by a number that is one higher; 0 is none. All others have ended.
pub record IsTrail (extents : List Extent) (place next : ℕ) (last before : List ℕ) : Type 0 where
  pub within : next ≤ length extents
  pub room : length before ≡ length extents
  pub begun : (i : ℕ) → i < next → (extent_at extents i).from ≤ place
  pub last_within : (c : ℕ) → slice_index last c ≤ next
  pub last_class : (c t : ℕ) → slice_index last c ≡ t + 1 → (extent_at extents t).class ≡ c
  pub last_rest : (i : ℕ) → i < next → (i < slice_index last (extent_at extents i).class) ⊎ ((extent_at extents i).to ≤ place)
  pub before_within : (t : ℕ) → t < next → slice_index before t ≤ t
  pub before_class : (t u : ℕ) → t < next → slice_index before t ≡ u + 1 → (extent_at extents u).class ≡ (extent_at extents t).class
  pub before_rest : (t i : ℕ) → t < next → i < t → (extent_at extents i).class ≡ (extent_at extents t).class → (i < slice_index before t) ⊎ ((extent_at extents i).to ≤ place)

-- Of the first extents, all of a class that may still hold a place are among the numbers below this one, and the last of
-- those numbers is of the class, if there is one.
pub record IsBound (extents : List Extent) (next class place top : ℕ) : Type 0 where
  pub within : top ≤ next
  pub class_is : (t : ℕ) → top ≡ t + 1 → (extent_at extents t).class ≡ class
  pub rest : (i : ℕ) → i < next → (extent_at extents i).class ≡ class → (i < top) ⊎ ((extent_at extents i).to ≤ place)

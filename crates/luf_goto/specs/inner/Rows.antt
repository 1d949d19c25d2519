-- The extents and spots of labels, gotos and local variables, and the label that each goto goes to, as the code has them.
use Rattle.std.specs.Prelude.{◌≡◌, ℕ, ◌+◌, ◌-◌, ◌<◌, ◌≤◌, ◌⊎◌, Bool, true, false, Option, Some, None, List, [], ◌∷◌, length, min, slice_index_or}
use Rattle.luf_goto.specs.inner.Holders.{holds}
use Rattle.luf_goto.specs.declared.holders.Extent.{Extent}
use Rattle.luf_goto.specs.declared.holders.Spot.{Spot}
use Rattle.luf_scope.specs.declared.occurrence.Occurrence.{Occurrence}
use Rattle.luf_scope.specs.declared.occurrence.Occurrence.TheVariants.{Local, LocalFunction, Parameter, ImplicitSelf, LoopVariable}
use Rattle.luf_goto.specs.declared.sites.LabelRow.{LabelRow}
use Rattle.luf_goto.specs.declared.sites.GotoRow.{GotoRow}

-- where a label is seen by later ones, and where it looks for earlier ones
abbrev pub seen_extent : LabelRow → Extent
seen_extent l = record { class = l.class; from = min (l.name + 1) 4294967295; to = l.to; rank = 0 }

abbrev pub name_spot : LabelRow → Spot
name_spot l = record { class = l.class; place = l.name }

-- the block of a label that is numbered n, and where a goto looks for one
abbrev pub block_extent : ℕ → LabelRow → Extent
block_extent n l = record { class = l.class; from = l.from; to = l.to; rank = 4294967295 - n }

abbrev pub block_extents : ℕ → List LabelRow → List Extent
block_extents n [] = []
block_extents n (l ∷ labels) = block_extent n l ∷ block_extents (n + 1) labels

abbrev pub goto_spot : GotoRow → Spot
goto_spot g = record { class = g.class; place = g.token }

-- the number of the label whose block was found
abbrev pub target_of : Option Extent → Option ℕ
target_of None = None
target_of (Some e) = Some (4294967295 - e.rank)

-- where a local variable is active
abbrev pub scope_from : ℕ → ℕ → Option Extent
scope_from from to = Some (record { class = 0; from = from; to = to; rank = 4294967295 - to })

abbrev pub scope_extent : Occurrence → Option Extent
scope_extent (Local name attribute from to) = scope_from from to
scope_extent (LocalFunction name from to) = scope_from from to
scope_extent (Parameter name from to) = scope_from from to
scope_extent (ImplicitSelf colon from to) = scope_from from to
scope_extent (LoopVariable name from to) = scope_from from to
scope_extent _ = None

abbrev pub scope_spot : LabelRow → Spot
scope_spot l = record { class = 0; place = l.name }

abbrev pub row_at : List LabelRow → ℕ → LabelRow
row_at labels i = slice_index_or labels i (record { name = 0; class = 0; from = 0; to = 0; at_end = false })

abbrev pub goto_at : List GotoRow → ℕ → GotoRow
goto_at gotos i = slice_index_or gotos i (record { token = 0; name = 0; class = 0 })

-- a label of this class whose block holds the place
abbrev pub sees : Spot → LabelRow → Bool
sees s l = holds s (block_extent 0 l)

-- the label whose block begins last, of those that are seen; of one block, the first
abbrev pub IsTarget : List LabelRow → Spot → Option ℕ → Type 0
IsTarget labels s None = (i : ℕ) → i < length labels → sees s (row_at labels i) ≡ false
IsTarget labels s (Some n) = (n < length labels) × (sees s (row_at labels n) ≡ true) × ((i : ℕ) → i < length labels → sees s (row_at labels i) ≡ true → ((row_at labels i).from < (row_at labels n).from) ⊎ (((row_at labels i).from ≡ (row_at labels n).from) × (n ≤ i)))

-- for each goto
pub record AreTargets (labels : List LabelRow) (gotos : List GotoRow) (targets : List (Option ℕ)) : Type 0 where
  pub same : length targets ≡ length gotos
  pub each : (k : ℕ) → k < length gotos → IsTarget labels (goto_spot (goto_at gotos k)) (slice_index_or targets k None)

-- The lead of each row of a table.
use Rattle.std.specs.Prelude.{◌≡◌, ℕ, ◌+◌, ◌≤◌, min, List, length, slice_index}
use Rattle.luf_doc.specs.Document.{Document, text, between, trail, nest, group, sequence}
use Rattle.luf_doc.specs.Flat.{lead, all_lead}
use Rattle.luf_doc.specs.Table.{node_count}
use Rattle.luf_style.specs.inner.Ahead.{left_at}

-- what a node by itself makes of the lead of what follows it
abbrev pub own_lead : Document → ℕ → ℕ
own_lead (text bytes) after = lead (text bytes) after
own_lead (between gap) after = lead (between gap) after
own_lead trail after = lead trail after
own_lead (nest inner) after = after
own_lead (group inner) after = after
own_lead (sequence items) after = after

-- the lead of what is left at a row
unfoldable pub lead_at : Document → ℕ → ℕ
lead_at d id = all_lead (left_at d id) 0

pub record IsLeads (d : Document) (leads : List ℕ) : Type 0 where
  pub count : length leads ≡ node_count d + 1
  pub each : (id : ℕ) → id ≤ node_count d → slice_index leads id ≡ min (lead_at d id) 4294967295

-- A document as one table: a row for each node, a node before its children, and the children in order, each with all
-- that is below it.
use Rattle.std.specs.Prelude.{ℕ, ◌+◌, min, List, [], ◌∷◌, ◌++◌}
use Rattle.luf_doc.specs.declared.table.Node.{Node}
use Rattle.luf_doc.specs.declared.table.NodeKind.{NodeKind}
use Rattle.luf_doc.specs.declared.table.NodeKind.TheVariants as kind
use Rattle.luf_doc.specs.Document.{Document, Documents, text, between, trail, nest, group, sequence, nothing, also}
use Rattle.luf_doc.specs.Flat.{flat, is_ended, forces}

abbrev mutual
  -- how many nodes a document has
  pub node_count : Document → ℕ
  node_count (text bytes) = 1
  node_count (between gap) = 1
  node_count trail = 1
  node_count (nest inner) = 1 + node_count inner
  node_count (group inner) = 1 + node_count inner
  node_count (sequence items) = 1 + all_count items

  pub all_count : Documents → ℕ
  all_count nothing = 0
  all_count (also first rest) = node_count first + all_count rest

abbrev pub kind_of : Document → NodeKind
kind_of (text bytes) = kind.Text bytes
kind_of (between gap) = kind.Gap gap
kind_of trail = kind.Trail
kind_of (nest inner) = kind.Nest
kind_of (group inner) = kind.Group
kind_of (sequence items) = kind.Seq

-- the rows of documents in order, the first of which stands at row `at`
abbrev pub places : ℕ → Documents → List ℕ
places at nothing = []
places at (also first rest) = at ∷ places (at + node_count first) rest

-- the documents directly inside
abbrev pub inside : Document → Documents
inside (text bytes) = nothing
inside (between gap) = nothing
inside trail = nothing
inside (nest inner) = also inner nothing
inside (group inner) = also inner nothing
inside (sequence items) = items

-- A row: the node's kind and children, its flat bytes up to the first line end inside, or the greatest number where they
-- are more, whether there is such a line end, and whether something inside forces.
abbrev pub row_of : ℕ → Document → Node
row_of at d = record {
  kind = kind_of d;
  children = places (at + 1) (inside d);
  flat = min (flat d 0) 4294967295;
  ended = is_ended d;
  forced = forces d;
}

abbrev mutual
  -- the rows of a document whose first row is row `at` of the table
  pub rows_from : ℕ → Document → List Node
  rows_from at (text bytes) = row_of at (text bytes) ∷ []
  rows_from at (between gap) = row_of at (between gap) ∷ []
  rows_from at trail = row_of at trail ∷ []
  rows_from at (nest inner) = row_of at (nest inner) ∷ rows_from (at + 1) inner
  rows_from at (group inner) = row_of at (group inner) ∷ rows_from (at + 1) inner
  rows_from at (sequence items) = row_of at (sequence items) ∷ all_rows (at + 1) items

  pub all_rows : ℕ → Documents → List Node
  all_rows at nothing = []
  all_rows at (also first rest) = rows_from at first ++ all_rows (at + node_count first) rest

-- the whole table of a document
abbrev pub rows_of : Document → List Node
rows_of d = rows_from 0 d

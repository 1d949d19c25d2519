-- The document that a table is of, read back from its rows.
use Rattle.std.specs.Prelude.{◌≡◌, ℕ, ◌^◌, ◌<◌, List, [], ◌∷◌, length, take, drop}
use Rattle.luf_doc.specs.declared.doc.Doc.{Doc}
use Rattle.luf_doc.specs.declared.doc.Doc.TheVariants as doc
use Rattle.luf_doc.specs.declared.table.Node.{Node}
use Rattle.luf_doc.specs.declared.table.NodeKind.{NodeKind}
use Rattle.luf_doc.specs.declared.table.NodeKind.TheVariants as kind
use Rattle.luf_doc.specs.Document.{document_of}
use Rattle.luf_doc.specs.Table.{rows_of}

abbrev pub around_first : (Doc → Doc) → List Doc → List Doc
around_first make [] = []
around_first make (d ∷ ds) = make d ∷ ds

-- a node with `n` nodes directly inside stands before these documents, which begin with those
abbrev pub opened : NodeKind → ℕ → List Doc → List Doc
opened (kind.Text bytes) n ds = doc.Text bytes ∷ ds
opened (kind.Gap gap) n ds = doc.Gap gap ∷ ds
opened kind.Trail n ds = doc.Trail ∷ ds
opened kind.Nest n ds = around_first doc.Nest ds
opened kind.Group n ds = around_first doc.Group ds
opened kind.Seq n ds = doc.Seq (take n ds) ∷ drop n ds

abbrev pub documents_in : List Node → List Doc
documents_in [] = []
documents_in (row ∷ rows) = opened row.kind (length row.children) (documents_in rows)

abbrev pub first_document : List Doc → Doc
first_document [] = doc.Trail
first_document (d ∷ ds) = d

abbrev pub document_in : List Node → Doc
document_in rows = first_document (documents_in rows)

-- the rows are those of that document, and fit the numbers of rows
pub record IsTable (rows : List Node) : Type 0 where
  pub rows_are : rows ≡ rows_of (document_of (document_in rows))
  pub few : length rows < 2 ^ 32

-- The rows of a document, and the document of rows.
use Rattle.std.proofs.Common.{◌≡◌, ℕ, ◌+◌, ◌^◌, ◌<◌, List, [], ◌∷◌, ◌++◌, length, get_or, slice_get, take, drop, Some, refl, sym, ap, ◌∙◌, arith, append-nil, append_assoc, length-append}
use Rattle.std.proofs.lemmas.Option.{slice_get_read}
use Rattle.std.proofs.Math.Seq.{take-append_seam, drop-append_seam}
use Rattle.luf_doc.specs.declared.doc.Doc.{Doc}
use Rattle.luf_doc.specs.declared.doc.Doc.TheVariants as doc
use Rattle.luf_doc.specs.declared.table.Node.{Node}
use Rattle.luf_doc.specs.Document.{Document, Documents, text, between, trail, nest, group, sequence, nothing, also, document_of}
use Rattle.luf_doc.specs.Table.{node_count, all_count, places, inside, row_of, rows_from, all_rows, rows_of}
use Rattle.luf_doc.specs.inner.Read.{around_first, documents_in, document_in, first_document, IsTable}
use Rattle.luf_doc.proofs.DocumentLaws.{doc_of, docs_of, document_keeps}

pub rows_inside : (at : ℕ) (d : Document) → rows_from at d ≡ row_of at d ∷ all_rows (at + 1) (inside d)
rows_inside at (text bytes) = refl
rows_inside at (between gap) = refl
rows_inside at trail = refl
rows_inside at (nest inner) = ap (λ rows. row_of at (nest inner) ∷ rows) (sym (append-nil (rows_from (at + 1) inner)))
rows_inside at (group inner) = ap (λ rows. row_of at (group inner) ∷ rows) (sym (append-nil (rows_from (at + 1) inner)))
rows_inside at (sequence items) = refl

pub count_inside : (d : Document) → node_count d ≡ 1 + all_count (inside d)
count_inside (text bytes) = refl
count_inside (between gap) = refl
count_inside trail = refl
count_inside (nest inner) = omega arith
count_inside (group inner) = omega arith
count_inside (sequence items) = refl

mutual
  pub rows_count : (at : ℕ) (d : Document) → length (rows_from at d) ≡ node_count d
  rows_count at (text bytes) = refl
  rows_count at (between gap) = refl
  rows_count at trail = refl
  rows_count at (nest inner) = let rest = rows_count (at + 1) inner in omega (arith, rest)
  rows_count at (group inner) = let rest = rows_count (at + 1) inner in omega (arith, rest)
  rows_count at (sequence items) = let rest = all_rows_count (at + 1) items in omega (arith, rest)

  pub all_rows_count : (at : ℕ) (ds : Documents) → length (all_rows at ds) ≡ all_count ds
  all_rows_count at nothing = refl
  all_rows_count at (also first rest) =
      let here = rows_count at first in
      let there = all_rows_count (at + node_count first) rest in
      let both = length-append (rows_from at first) (all_rows (at + node_count first) rest) in
      omega (arith, here, there, both)

length_places : (at : ℕ) (ds : Documents) → length (places at ds) ≡ length (docs_of ds)
length_places at nothing = refl
length_places at (also first rest) = let rest_are = length_places (at + node_count first) rest in omega (arith, rest_are)

mutual
  pub read_back : (at : ℕ) (d : Document) (more : List Node) → documents_in (rows_from at d ++ more) ≡ doc_of d ∷ documents_in more
  read_back at (text bytes) more = refl
  read_back at (between gap) more = refl
  read_back at trail more = refl
  read_back at (nest inner) more = ap (around_first doc.Nest) (read_back (at + 1) inner more)
  read_back at (group inner) more = ap (around_first doc.Group) (read_back (at + 1) inner more)
  read_back at (sequence items) more =
      (λ i. doc.Seq (take (length_places (at + 1) items i) (all_read_back (at + 1) items more i)) ∷ drop (length_places (at + 1) items i) (all_read_back (at + 1) items more i))
      ∙ (λ i. doc.Seq (take-append_seam (docs_of items) (documents_in more) i) ∷ drop-append_seam (docs_of items) (documents_in more) i)

  pub all_read_back : (at : ℕ) (ds : Documents) (more : List Node) → documents_in (all_rows at ds ++ more) ≡ docs_of ds ++ documents_in more
  all_read_back at nothing more = refl
  all_read_back at (also first rest) more =
      ap documents_in (append_assoc (rows_from at first) (all_rows (at + node_count first) rest) more)
      ∙ read_back at first (all_rows (at + node_count first) rest ++ more)
      ∙ ap (λ (ds : List Doc). doc_of first ∷ ds) (all_read_back (at + node_count first) rest more)

-- the table of a document is the table of that document
pub table_keeps : (d : Doc) → document_in (rows_of (document_of d)) ≡ d
table_keeps d =
    ap document_in (sym (append-nil (rows_of (document_of d))))
    ∙ ap first_document (read_back 0 (document_of d) [])
    ∙ document_keeps d

pub table_of : (d : Doc) (rows : List Node) → rows ≡ rows_of (document_of d) → node_count (document_of d) < 2 ^ 32 → IsTable rows
table_of d rows is few =
    let count = ap length is ∙ rows_count 0 (document_of d) in
    record {
      rows_are = is ∙ ap (λ (d : Doc). rows_of (document_of d)) (sym (ap document_in is ∙ table_keeps d));
      few = omega (arith, count, few);
    }

-- how many rows a table has
pub table_count : (rows : List Node) → IsTable rows → length rows ≡ node_count (document_of (document_in rows))
table_count rows table = ap length table.rows_are ∙ rows_count 0 (document_of (document_in rows))

-- a row of a table
pub table_row : (rows : List Node) → IsTable rows → (id : ℕ) → id < node_count (document_of (document_in rows)) → (row : Node) → row ≡ get_or rows id row
    → slice_get (rows_of (document_of (document_in rows))) id ≡ Some row
table_row rows table id within row is =
    let count = table_count rows table in
    ap (λ (all : List Node). slice_get all id) (sym table.rows_are) ∙ slice_get_read rows (length rows) id row refl (omega (arith, count, within)) is

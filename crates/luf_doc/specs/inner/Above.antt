-- Documents on a stack that are still to be added.
use Rattle.std.specs.Prelude.{ℕ, List, drop, map, reverse}
use Rattle.luf_doc.specs.declared.doc.Doc.{Doc}
use Rattle.luf_doc.specs.Document.{Documents, documents, document_of}

-- those above the lowest `n`, in order: the first of them is on top
abbrev pub above : ℕ → List Doc → Documents
above n left = documents (map document_of (reverse (drop n left)))

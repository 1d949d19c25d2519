use Rattle.std.proofs.Common.{◌≡◌, length, take, vec_len}
use Rattle.luf_doc.specs.Document.{document_of}
use Rattle.luf_doc.specs.Table.{node_count}
use Rattle.luf_doc.specs.inner.Above.{above}
use Rattle.luf_doc.proofs.AddLoop.{Adding}
use Rattle.luf_doc.proofs.table.+add.Given as goal

abbrev pub invariant-loop-child : goal.invariant-loop-child
invariant-loop-child l = record {
  first : l.at ≡ vec_len l.fn.rows;
  around : take l.around l.left.items ≡ l.fn.left.items;
  adding : Adding (document_of l.fn.doc) l.at l.initial.rows.items l.rows.items (vec_len l.rows) l.children.items l.size (above l.around l.left.items);
}

abbrev pub decreases-loop-child : goal.decreases-loop-child
decreases-loop-child l = length l.left.items

abbrev pub decreases-add : goal.decreases-add
decreases-add l = node_count (document_of l.doc)

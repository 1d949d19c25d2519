use Rattle.std.proofs.Common.{◌≡◌, ◌≤◌, ◌+◌, min, drop}
use Rattle.luf_doc.specs.Document.{document_of}
use Rattle.luf_doc.specs.Table.{node_count}
use Rattle.luf_style.proofs.TestLemmas.{count_of}
use Rattle.luf_style.proofs.tests.+nodes_of.Given as goal

abbrev pub invariant-loop-item : goal.invariant-loop-item
invariant-loop-item l = record {
  fits : l.count ≤ 4294967295;
  counts : min (node_count (document_of l.d)) 4294967295 ≡ min (l.count + count_of (drop l.item-index l.item-items)) 4294967295;
}

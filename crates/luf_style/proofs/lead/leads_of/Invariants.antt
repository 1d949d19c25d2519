use Rattle.std.proofs.Common.{◌≡◌, ◌≤◌, ◌+◌, ℕ, min, get_or, vec_len}
use Rattle.luf_doc.specs.Document.{document_of}
use Rattle.luf_doc.specs.Table.{node_count}
use Rattle.luf_style.specs.inner.Leads.{lead_at}
use Rattle.luf_style.proofs.lead.leads_of.Given as goal

abbrev pub invariant-loop-id : goal.invariant-loop-id
invariant-loop-id g l = record {
  below : l.id ≤ l.nodes;
  nodes : l.nodes ≡ node_count (document_of l.table);
  count : vec_len l.leads ≡ l.nodes + 1;
  each : (k : ℕ) → l.id ≤ k → k ≤ l.nodes → get_or l.leads.items k 0 ≡ min (lead_at (document_of l.table) k) 4294967295;
  steps : l.steps + l.id ≤ l.initial.steps + l.nodes;
}

abbrev pub decreases-loop-id : goal.decreases-loop-id
decreases-loop-id g l = l.id

-- The whole table is laid, with nothing written and nothing behind it.
use Rattle.std.proofs.Common.{◌≡◌, ◌++◌, ◌∙◌, [], ap, arith}
use Rattle.luf_doc.specs.Document.{document_of}
use Rattle.luf_doc.specs.Table.{node_count}
use Rattle.luf_doc.specs.Layout.{outside, lay}
use Rattle.luf_style.specs.inner.Shows.{written}
use Rattle.luf_style.specs.inner.Leads.{lead_at}
use Rattle.luf_style.proofs.AheadLaws.{part_first, some_count, lead_last}
use Rattle.luf_style.proofs.SheetLaws.{written_joined}
use Rattle.luf_style.proofs.lay.lay_table.Goals as goal

pub lay-requires-clause-within : goal.lay-requires-clause-within
lay-requires-clause-within g c = omega (arith, some_count (document_of c.args.t.now))

pub lay-requires-clause-end : goal.lay-requires-clause-end
lay-requires-clause-end g c = omega (arith, c.nodes.ensures, ap node_count (part_first (document_of c.args.t.now)))

pub returns-in-Ok-clause-ok : goal.returns-in-Ok-clause-ok
returns-in-Ok-clause-ok g c =
    let d = document_of c.args.t.now in
    let page = c.args.page.now in
    let nothing_behind : lead_at d c.nodes.result ≡ 0 = ap (lead_at d) c.nodes.ensures ∙ lead_last d in
    let shown = c.in-Ok.ensures.ok [] (c.new-sheet.ensures.shown page) in
    let all : c.lay.new.sheet.bytes.behind ≡ written page (lay page outside 0 0 d []) =
    shown.bytes ∙ (λ i. written page (lay page outside 0 (nothing_behind i) (part_first d i) [])) in
    let before : c.lay.new.sheet.bytes.before ≡ c.args.into.now.items =
    c.in-Ok.ensures.before ∙ c.new-sheet.ensures.before ∙ ap (λ v. v.items) c.replace.ensures.value in
    c.into_vec.ensures ∙ (λ i. before i ++ (all ∙ written_joined page (lay page outside 0 0 d [])) i)

pub returns-in-Ok-clause-steps : goal.returns-in-Ok-clause-steps
returns-in-Ok-clause-steps g c = omega (arith, c.in-Ok.ensures.steps, c.in_ok-leads.ensures.steps, ap node_count (part_first (document_of c.args.t.now)))

pub returns-clause-steps : goal.returns-clause-steps
returns-clause-steps g c = omega (arith, c.in-Err.ensures.steps, c.in_ok-leads.ensures.steps, ap node_count (part_first (document_of c.args.t.now)))

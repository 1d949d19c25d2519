-- What is laid of each kind of node, and of the nodes inside one.
use Rattle.std.proofs.Common.{rules, ◌≡◌, ◌+◌, ◌∙◌, ℕ, List, ◌∷◌, refl, ap, sym, subst, arith, min, drop, get_or, cond}
use Rattle.std.proofs.lemmas.List.{drop_more, drop_all, get_or-drop}
use Rattle.std.proofs.lemmas.Result.{on_ok_weaker}
use Rattle.luf_doc.specs.declared.table.Node.{Node}
use Rattle.luf_doc.specs.declared.table.NodeKind.TheVariants as kind
use Rattle.luf_doc.specs.Document.{document_of}
use Rattle.luf_doc.specs.Flat.{flat}
use Rattle.luf_doc.specs.Table.{node_count, places, inside}
use Rattle.luf_doc.specs.Layout.{Mode, column_of, mode_of, lay, lay_all}
use Rattle.luf_style.specs.inner.Ahead.{part}
use Rattle.luf_style.specs.inner.Leads.{lead_at}
use Rattle.luf_style.specs.inner.Modes.{mode_as}
use Rattle.luf_style.specs.inner.Shows.{Shows}
use Rattle.luf_style.proofs.AheadLaws.{node_is, some_count, end_within}
use Rattle.luf_style.proofs.LayArms.{lay_word, lay_between, lay_comma, lay_nested, lay_grouped, lay_sequence}
use Rattle.luf_style.proofs.LayLoop.{Laying, laying_first, laying_next, laying_last, next_child}
use Rattle.luf_style.proofs.lay.Walk.+lay.Goals as goal

pub lay-write_gap-requires-clause-level : goal.lay-write_gap-requires-clause-level
lay-write_gap-requires-clause-level g t c = omega (arith, some_count (part (document_of c.args.self.now.table.now) c.args.id))

pub lay-overflow_add-deeper : goal.lay-overflow_add-deeper
lay-overflow_add-deeper g t c = omega (arith, some_count (part (document_of c.args.self.now.table.now) c.args.id))

pub lay-lay_inside-requires : goal.lay-lay_inside-requires
lay-lay_inside-requires g t c κs within =
    let d = document_of c.args.self.now.table.now in
    let node = node_is d c.args.id c.requires.within c.node-node.result.now c.node-node.ensures.row in
    let children : c.node-node.result.now.children ≡ places (c.args.id + 1) (inside (part d c.args.id)) = ap (λ (r : Node). r.children) node in
    search rules

pub lay-bounds-self-end : goal.lay-bounds-self-end
lay-bounds-self-end g t c = omega (arith, c.requires.leads.count, end_within (document_of c.args.self.now.table.now) c.args.id c.requires.within)

pub lay-lay_inside-requires-in-Group : goal.lay-lay_inside-requires-in-Group
lay-lay_inside-requires-in-Group g t c κs within =
    let d = document_of c.args.self.now.table.now in
    let node = node_is d c.args.id c.requires.within c.node-node.result.now c.node-node.ensures.row in
    let children : c.node-node.result.now.children ≡ places (c.args.id + 1) (inside (part d c.args.id)) = ap (λ (r : Node). r.children) node in
    search rules

pub lay-lay_inside-requires-in-Seq : goal.lay-lay_inside-requires-in-Seq
lay-lay_inside-requires-in-Seq g t c κs within =
    let d = document_of c.args.self.now.table.now in
    let node = node_is d c.args.id c.requires.within c.node-node.result.now c.node-node.ensures.row in
    let children : c.node-node.result.now.children ≡ places (c.args.id + 1) (inside (part d c.args.id)) = ap (λ (r : Node). r.children) node in
    search rules

pub lay-returns-in-Text-clause-ok : goal.lay-returns-in-Text-clause-ok
lay-returns-in-Text-clause-ok g t c =
    let d = document_of c.args.self.now.table.now in
    let node = node_is d c.args.id c.requires.within c.node-node.result.now c.node-node.ensures.row in
    on_ok_weaker c.put.result
    (λ written done shown. subst (Shows c.args.self.now.page.now c.put.new.self)
    (sym (lay_word c.args.self.now.page.now (mode_as c.args.at.mode) c.args.at.level (lead_at d c.args.end) (part d c.args.id) done c.as_slice.result.now (sym (ap (λ (r : Node). r.kind) node) ∙ c.in-Text.is ∙ ap (λ (bytes : List ℕ). kind.Text bytes) (sym c.as_slice.ensures))))
    (written c.args.self.now.page.now done shown)) c.put.ensures.word

pub lay-returns-in-Text-clause-steps : goal.lay-returns-in-Text-clause-steps
lay-returns-in-Text-clause-steps g t c = omega (arith, some_count (part (document_of c.args.self.now.table.now) c.args.id))

pub lay-returns-in-Gap-clause-ok : goal.lay-returns-in-Gap-clause-ok
lay-returns-in-Gap-clause-ok g t c =
    let d = document_of c.args.self.now.table.now in
    let node = node_is d c.args.id c.requires.within c.node-node.result.now c.node-node.ensures.row in
    on_ok_weaker c.write_gap.result
    (λ written done shown. subst (Shows c.args.self.now.page.now c.write_gap.new.sheet)
    (sym (lay_between c.args.self.now.page.now (mode_as c.args.at.mode) c.args.at.level (lead_at d c.args.end) (part d c.args.id) done c.in-Gap.gap (sym (ap (λ (r : Node). r.kind) node) ∙ c.in-Gap.is)))
    (written done shown)) c.write_gap.ensures.shown

pub lay-returns-in-Gap-clause-steps : goal.lay-returns-in-Gap-clause-steps
lay-returns-in-Gap-clause-steps g t c = omega (arith, some_count (part (document_of c.args.self.now.table.now) c.args.id))

pub lay-returns-in-Trail-clause-ok : goal.lay-returns-in-Trail-clause-ok
lay-returns-in-Trail-clause-ok g t c =
    let d = document_of c.args.self.now.table.now in
    let node = node_is d c.args.id c.requires.within c.node-node.result.now c.node-node.ensures.row in
    on_ok_weaker c.write_trail.result
    (λ written done shown. subst (Shows c.args.self.now.page.now c.write_trail.new.sheet)
    (sym (lay_comma c.args.self.now.page.now (mode_as c.args.at.mode) c.args.at.level (lead_at d c.args.end) (part d c.args.id) done (sym (ap (λ (r : Node). r.kind) node) ∙ c.in-Trail.is)))
    (written c.args.self.now.page.now done shown)) c.write_trail.ensures.shown

pub lay-returns-in-Trail-clause-steps : goal.lay-returns-in-Trail-clause-steps
lay-returns-in-Trail-clause-steps g t c = omega (arith, some_count (part (document_of c.args.self.now.table.now) c.args.id))

pub lay-returns-in-Nest-clause-ok : goal.lay-returns-in-Nest-clause-ok
lay-returns-in-Nest-clause-ok g t c =
    let d = document_of c.args.self.now.table.now in
    let node = node_is d c.args.id c.requires.within c.node-node.result.now c.node-node.ensures.row in
    on_ok_weaker c.lay_inside.result
    (λ written done shown. subst (Shows c.args.self.now.page.now c.lay_inside.new.sheet)
    (sym (lay_nested c.args.self.now.page.now (mode_as c.args.at.mode) c.args.at.level (lead_at d c.args.end) (part d c.args.id) done (sym (ap (λ (r : Node). r.kind) node) ∙ c.in-Nest.is)))
    (written done shown)) c.lay_inside.ensures.ok

pub lay-returns-in-Group-clause-ok : goal.lay-returns-in-Group-clause-ok
lay-returns-in-Group-clause-ok g t c =
    let d = document_of c.args.self.now.table.now in
    let node = node_is d c.args.id c.requires.within c.node-node.result.now c.node-node.ensures.row in
    let page = c.args.self.now.page.now in
    let mode = mode_as c.args.at.mode in
    let x = part d c.args.id in
    let after = lead_at d c.args.end in
    let lead = c.requires.leads.each c.args.end (omega (arith, end_within d c.args.id c.requires.within)) in
    let flat_is : c.node-node.result.now.flat ≡ min (flat x 0) 4294967295 = ap (λ (r : Node). r.flat) node in
    on_ok_weaker c.lay_inside-in-Group.result
    (λ written done shown. subst (Shows page c.lay_inside-in-Group.new.sheet)
    (sym (lay_grouped page mode c.args.at.level after x done (sym (ap (λ (r : Node). r.kind) node) ∙ c.in-Group.is)
    ∙ (λ i. lay_all page (mode_of page mode (sym node i).forced (column_of page done + cond (sym node i).ended (flat x 0) (flat x 0 + after))) c.args.at.level after (inside x) done)
    ∙ ap (λ (m : Mode). lay_all page m c.args.at.level after (inside x) done) (sym (c.mode_inside.ensures (column_of page done) (flat x 0) after shown.column flat_is lead))))
    (written done shown)) c.lay_inside-in-Group.ensures.ok

pub lay-returns-in-Seq-clause-ok : goal.lay-returns-in-Seq-clause-ok
lay-returns-in-Seq-clause-ok g t c =
    let d = document_of c.args.self.now.table.now in
    let node = node_is d c.args.id c.requires.within c.node-node.result.now c.node-node.ensures.row in
    on_ok_weaker c.lay_inside-in-Seq.result
    (λ written done shown. subst (Shows c.args.self.now.page.now c.lay_inside-in-Seq.new.sheet)
    (sym (lay_sequence c.args.self.now.page.now (mode_as c.args.at.mode) c.args.at.level (lead_at d c.args.end) (part d c.args.id) done (sym (ap (λ (r : Node). r.kind) node) ∙ c.in-Seq.is)))
    (written done shown)) c.lay_inside-in-Seq.ensures.ok

pub lay_inside-loop-n-init : goal.lay_inside-loop-n-init
lay_inside-loop-n-init g t c = record {
  laying =
      laying_first (document_of c.args.self.now.table.now) c.args.self.now.page.now (mode_as c.args.at.mode) c.args.at.level c.args.id c.args.end
      c.as_slice-children.result.now c.args.sheet.now c.args.steps.now c.requires.within c.requires.end (c.as_slice-children.ensures ∙ c.requires.children);
  before = refl;
}

pub lay_inside-lay-requires : goal.lay_inside-lay-requires
lay_inside-lay-requires g t c κs within =
    let d = document_of c.args.self.now.table.now in
    let kids = c.as_slice-children.result.now in
    let n = c.loop-n.n in
    let child = get_or kids n 0 in
    let left : drop n kids ≡ child ∷ drop (n + 1) kids = drop_more kids n 0 c.loop-n-test.true in
    let known : Laying d c.args.self.now.page.now (mode_as c.args.at.mode) c.args.at.level c.args.id c.args.end (child ∷ drop (n + 1) kids) c.args.sheet.now c.loop-n.sheet c.args.steps.now c.loop-n.steps =
    subst (λ (ids : List ℕ). Laying d c.args.self.now.page.now (mode_as c.args.at.mode) c.args.at.level c.args.id c.args.end ids c.args.sheet.now c.loop-n.sheet c.args.steps.now c.loop-n.steps) left c.loop-n.invariant.laying in
    let next = next_child d c.args.self.now.page.now (mode_as c.args.at.mode) c.args.at.level c.args.id c.args.end child (drop (n + 1) kids) c.args.sheet.now c.loop-n.sheet c.args.steps.now c.loop-n.steps known in
    let end_is : c.end_of_child-child_end.result ≡ child + node_count (part d child) =
    c.end_of_child-child_end.ensures ∙ sym (get_or-drop n kids 1 c.args.end) ∙ ap (λ (ids : List ℕ). get_or ids 1 c.args.end) left ∙ next.end_is in
    let child_above = next.above in
    let child_within = next.within in
    search rules

pub lay_inside-loop-n-preserved : goal.lay_inside-loop-n-preserved
lay_inside-loop-n-preserved g t c =
    let d = document_of c.args.self.now.table.now in
    let kids = c.as_slice-children.result.now in
    let n = c.loop-n.n in
    let child = get_or kids n 0 in
    let left : drop n kids ≡ child ∷ drop (n + 1) kids = drop_more kids n 0 c.loop-n-test.true in
    let known : Laying d c.args.self.now.page.now (mode_as c.args.at.mode) c.args.at.level c.args.id c.args.end (child ∷ drop (n + 1) kids) c.args.sheet.now c.loop-n.sheet c.args.steps.now c.loop-n.steps =
    subst (λ (ids : List ℕ). Laying d c.args.self.now.page.now (mode_as c.args.at.mode) c.args.at.level c.args.id c.args.end ids c.args.sheet.now c.loop-n.sheet c.args.steps.now c.loop-n.steps) left c.loop-n.invariant.laying in
    let next = next_child d c.args.self.now.page.now (mode_as c.args.at.mode) c.args.at.level c.args.id c.args.end child (drop (n + 1) kids) c.args.sheet.now c.loop-n.sheet c.args.steps.now c.loop-n.steps known in
    let end_is : c.end_of_child-child_end.result ≡ child + node_count (part d child) =
    c.end_of_child-child_end.ensures ∙ sym (get_or-drop n kids 1 c.args.end) ∙ ap (λ (ids : List ℕ). get_or ids 1 c.args.end) left ∙ next.end_is in
    record {
      laying =
          laying_next d c.args.self.now.page.now (mode_as c.args.at.mode) c.args.at.level c.args.id c.args.end child (drop (n + 1) kids) c.args.sheet.now c.loop-n.sheet c.args.steps.now c.loop-n.steps known
          c.lay.new.sheet c.lay.new.steps c.in_ok-lay.ensures.steps
          (λ done shown. subst (λ e. Shows c.args.self.now.page.now c.lay.new.sheet (lay c.args.self.now.page.now (mode_as c.args.at.mode) c.args.at.level (lead_at d e) (part d child) done)) end_is (c.in_ok-lay.ensures.ok done shown));
      before = c.in_ok-lay.ensures.before ∙ c.loop-n.invariant.before;
    }

pub lay_inside-returns-in_err-lay-clause-steps : goal.lay_inside-returns-in_err-lay-clause-steps
lay_inside-returns-in_err-lay-clause-steps g t c =
    let d = document_of c.args.self.now.table.now in
    let kids = c.as_slice-children.result.now in
    let n = c.loop-n.n in
    let child = get_or kids n 0 in
    let left : drop n kids ≡ child ∷ drop (n + 1) kids = drop_more kids n 0 c.loop-n-test.true in
    let known : Laying d c.args.self.now.page.now (mode_as c.args.at.mode) c.args.at.level c.args.id c.args.end (child ∷ drop (n + 1) kids) c.args.sheet.now c.loop-n.sheet c.args.steps.now c.loop-n.steps =
    subst (λ (ids : List ℕ). Laying d c.args.self.now.page.now (mode_as c.args.at.mode) c.args.at.level c.args.id c.args.end ids c.args.sheet.now c.loop-n.sheet c.args.steps.now c.loop-n.steps) left c.loop-n.invariant.laying in
    let next = next_child d c.args.self.now.page.now (mode_as c.args.at.mode) c.args.at.level c.args.id c.args.end child (drop (n + 1) kids) c.args.sheet.now c.loop-n.sheet c.args.steps.now c.loop-n.steps known in
    let counted = next.counted in
    let steps = c.in_err-lay.ensures.steps in
    omega (arith, counted, steps)

pub lay_inside-returns-clause-ok : goal.lay_inside-returns-clause-ok
lay_inside-returns-clause-ok g t c =
    (laying_last (document_of c.args.self.now.table.now) c.args.self.now.page.now (mode_as c.args.at.mode) c.args.at.level c.args.id c.args.end
    (drop c.loop-n.n c.as_slice-children.result.now) c.args.sheet.now c.loop-n.sheet c.args.steps.now c.loop-n.steps c.loop-n.invariant.laying (drop_all c.loop-n.n c.as_slice-children.result.now c.loop-n-test.false)).1

pub lay_inside-returns-clause-steps : goal.lay_inside-returns-clause-steps
lay_inside-returns-clause-steps g t c =
    (laying_last (document_of c.args.self.now.table.now) c.args.self.now.page.now (mode_as c.args.at.mode) c.args.at.level c.args.id c.args.end
    (drop c.loop-n.n c.as_slice-children.result.now) c.args.sheet.now c.loop-n.sheet c.args.steps.now c.loop-n.steps c.loop-n.invariant.laying (drop_all c.loop-n.n c.as_slice-children.result.now c.loop-n-test.false)).0

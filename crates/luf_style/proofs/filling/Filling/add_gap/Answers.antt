use Rattle.std.proofs.Common.{◌∙◌, ◌++◌, ◌∷◌, [], map}
use Rattle.luf_doc.specs.declared.doc.Doc.TheVariants as doc
use Rattle.luf_draft.specs.Flat.{shown}
use Rattle.luf_style.proofs.FillSteps.{gap_step, gap_like}
use Rattle.luf_style.proofs.filling.Filling.add_gap.Goals as goal

pub returns : goal.returns
returns c = gap_step c.args.written.now (map (shown c.args.written.now) c.args.rest.now) c.args.self.now _ c.args.kind c.in_ok-gap.gap
    (gap_like c.args.written.now _ _ c.args.kind _ _ c.next_gap-notes.ensures.last c.next_gap-notes.ensures.gap c.in_ok-gap.ensures)
    c.next_gap-notes.ensures.left c.next_gap-notes.ensures.last c.next_gap-notes.ensures.frames
    (c.in_ok-push.ensures.items ∙ (λ i. c.next_gap-notes.ensures.docs i ++ doc.Gap c.in_ok-gap.gap ∷ []))

-- A text's size is known, and its bytes stand before the lead.
use Rattle.std.proofs.Common.{◌≡◌, ◌+◌, min, Bool, cond, ap, sym, ◌∙◌}
use Rattle.luf_style.proofs.MeasureSteps.{text_step}
use Rattle.luf_style.proofs.measuring.Measuring.text_before.Goals as goal
use Rattle.luf_style.proofs.measuring.Measuring.text_before.Goals.{then-size, else-size}

pub returns : goal.returns
returns c =
    let size = c.of_text-size.result in
    let before = c.args.self.now.lead in
    let lead_is : c.if-size.self ≡ cond size.ended size.flat (min (size.flat + before) 4294967295) = elim c.if-size.branch [
      | then-size w ↦ w.self-is ∙ ap (λ (e : Bool). cond e size.flat (min (size.flat + before) 4294967295)) (sym w.if-size.true)
      | else-size w ↦ w.self-is ∙ w.saturating_add-self.ensures ∙ ap (λ (e : Bool). cond e size.flat (min (size.flat + before) 4294967295)) (sym w.if-size.false)
    ] in
    λ m is. text_step c.args.bytes.now size c.then-self.result c.if-size.self m c.args.self.now c.of_text-size.ensures lead_is c.then-self.ensures is

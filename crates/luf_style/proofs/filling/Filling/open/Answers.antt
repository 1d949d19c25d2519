use Rattle.std.proofs.Common.{◌∙◌, refl}
use Rattle.luf_style.proofs.FillSteps.{open_step}
use Rattle.luf_style.proofs.filling.Filling.open.Goals as goal

pub returns : goal.returns
returns c = λ written rest. open_step written rest c.args.self.now _ c.args.part (record { part = c.args.part; before = c.replace-before.result }) refl (λ i. (c.replace-before.ensures.value i).items) refl refl
    c.in_ok-push.ensures.items ((λ i. (c.replace-before.ensures.after i).items) ∙ c.emptied-room.ensures)

use Rattle.std.proofs.Common.{◌∙◌, refl}
use Rattle.luf_style.proofs.FillSteps.{text_step}
use Rattle.luf_style.proofs.filling.Filling.add_text.Goals as goal

pub returns : goal.returns
returns c = λ rest. text_step c.args.written.now rest c.args.self.now _ c.args.mark c.in_ok-text.text c.requires (c.in_ok-text.ensures ∙ c.text_of.ensures) refl refl refl c.in_ok-push.ensures.items

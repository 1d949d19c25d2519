use Rattle.std.proofs.Common.{refl}
use Rattle.luf_style.proofs.FillSteps.{trail_step}
use Rattle.luf_style.proofs.filling.Filling.add_trail.Goals as goal

pub returns : goal.returns
returns c = λ written rest. trail_step written rest c.args.self.now _ refl refl refl c.in_ok-push.ensures.items

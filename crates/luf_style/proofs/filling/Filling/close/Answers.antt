use Rattle.std.proofs.Common.{◌∙◌, ◌++◌, ◌∷◌, [], rules, refl}
use Rattle.luf_style.proofs.FillSteps.{close_step, stray_step}
use Rattle.luf_style.proofs.filling.Filling.close.Goals as goal

pub returns-in_ok-push-in-Some-2 : goal.returns-in_ok-push-in-Some-2
returns-in_ok-push-in-Some-2 c = λ written rest. close_step written rest c.args.self.now _ c.in-Some.frame c.in_ok-closed-in-Some.field-0 c.replace-inside.result.items c.in_ok-closed-in-Some.ensures
    (λ i. (c.replace-inside.ensures.value i).items) refl refl c.in-Some.ensures.items
    (c.in_ok-push-in-Some.ensures.items ∙ (λ i. (c.replace-inside.ensures.after i).items ++ c.in_ok-closed-in-Some.field-0 ∷ []))

pub returns-in-None : goal.returns-in-None
returns-in-None c = λ written rest. stray_step written rest c.args.self.now _ refl refl (search rules) (search rules) refl

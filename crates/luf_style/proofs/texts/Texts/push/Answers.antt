use Rattle.std.proofs.Common.{◌++◌, ◌∷◌, [], ap, ◌∙◌}
use Rattle.luf_style.proofs.TextsLaws.{pushed_ends, pushed_texts}
use Rattle.luf_style.proofs.texts.Texts.push.Goals as goal

pub invariant_of-self-in_default-push : goal.invariant_of-self-in_default-push
invariant_of-self-in_default-push c =
    pushed_ends c.self.inside.ends.items c.self.inside.bytes.items c.args.text.now c.push.new.self.items c.extend_from_slice.new.self.items c.len-end.result
    c.self.invariant c.in_default.ensures.items (c.len-end.ensures ∙ c.extend_from_slice.new.self.ok.0) c.in_default-push.ensures.items

pub returns : goal.returns
returns c =
    pushed_texts c.self.inside.ends.items c.self.inside.bytes.items c.args.text.now c.push.new.self.items c.extend_from_slice.new.self.items c.len-end.result
    c.self.invariant c.in_default.ensures.items (c.len-end.ensures ∙ c.extend_from_slice.new.self.ok.0) c.in_default-push.ensures.items
    ∙ ap (λ texts. texts ++ c.args.text.now ∷ []) c.self.view_is

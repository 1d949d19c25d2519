-- Everything is laid, where nothing was written before.
use Rattle.std.proofs.Common.{◌≡◌, ◌++◌, ◌∙◌, ap, map, refl}
use Rattle.luf_draft.specs.Flat.{shown}
use Rattle.luf_style.proofs.StraightSteps.{lays_all}
use Rattle.luf_style.proofs.straight.lay_straight.Goals as goal

pub returns-in-Ok-clause-ok : goal.returns-in-Ok-clause-ok
returns-in-Ok-clause-ok c =
    let lines = c.args.lines.now in
    let before : c.lay.new.self.sheet.bytes.before ≡ c.args.into.now.items =
    c.in-Ok.ensures.before ∙ c.new-3.ensures.before ∙ ap (λ v. v.items) c.replace.ensures.value in
    let behind = lays_all lines (map (shown lines.written.now) c.args.marks.now) _ c.lay.new.self c.in-Ok.ensures.ok (c.new-3.ensures.shown lines.page.now) refl c.new.ensures.items refl in
    c.into_vec.ensures ∙ (λ i. before i ++ behind i)

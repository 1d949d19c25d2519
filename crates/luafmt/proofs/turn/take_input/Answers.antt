use Rattle.std.proofs.Common.{rules, ◌≡◌, inl, inr, refl, ap}
use Rattle.luf_io.specs.Count.{Rose}
use Rattle.luafmt.specs.Outcome.{input, Turn}
use Rattle.luafmt.proofs.Sources.{same_counts, first_two}
use Rattle.luafmt.proofs.Turns.{one_through, one_unread, one_starved, one_unwritten}
use Rattle.luafmt.proofs.turn.take_input.Goals as goal

pub returns-in-Ok-write : goal.returns-in-Ok-write
returns-in-Ok-write g c = λ told fetches replaces.
    let comes = c.in-Ok.ensures.comes in
    let calm = c.in-Ok-write.ensures.calm in
    inl (one_through c.args.job _ input comes.0 c.in-Ok.answer _ _ _ (ap (λ (t : Turn). t.status) c.answer.view_is) comes.1 comes.2 refl (search rules) (search rules)
    (same_counts c.in-Ok.ensures.calm refl refl calm.0 calm.1))

pub returns-in-Ok : goal.returns-in-Ok
returns-in-Ok g c = λ told fetches replaces.
    let comes = c.in-Ok.ensures.comes in
    let part = c.in-Err-Fault-write.ensures.part in
    inr (one_unwritten c.args.job _ input comes.0 c.in-Ok.answer _ _ part.0 part.1 comes.1 comes.2 refl (search rules) (search rules)
    (c.in-Ok.ensures.calm, refl) (first_two c.in-Err-Fault-write.ensures.fault))

pub returns-in-Err-Fault : goal.returns-in-Err-Fault
returns-in-Err-Fault g c = λ told fetches replaces.
    let cause : Rose (g.I.Source.faults c.args.input.now) (g.I.Source.faults c.answer_input.new.input) = search rules in
    inr (one_unread c.args.job _ input _ _ refl refl refl (refl, refl, refl) cause)

pub returns : goal.returns
returns g c = λ told fetches replaces.
    let calm : g.I.Source.faults c.answer_input.new.input ≡ g.I.Source.faults c.args.input.now = search rules in
    inr (one_starved c.args.job _ input _ _ refl refl refl (same_counts calm refl refl refl refl))

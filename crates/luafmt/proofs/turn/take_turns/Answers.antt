use Rattle.std.proofs.Common.{sym, ◌∙◌}
use Rattle.luafmt.proofs.Turns.{ended_named}
use Rattle.luafmt.proofs.turn.take_turns.Goals as goal

pub returns-clause-ended : goal.returns-clause-ended
returns-clause-ended g c =
    ended_named c.args.job (g.I.Source.left c.args.input.now) c.as_slice-names.result.now c.args.plan.now.files.items _ _ _ c.as_slice-names.ensures.value (sym c.is_empty.ensures ∙ c.if-is_empty.false)
    (c.take_files.ensures (g.I.Source.left c.args.input.now) (g.I.Source.faults c.args.input.now))

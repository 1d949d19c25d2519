use Rattle.std.proofs.Common.{sym, ◌∙◌}
use Rattle.luafmt.proofs.Sources.{shown_comes}
use Rattle.luafmt.proofs.answer.accepted.Goals as goal

pub returns-in-Show : goal.returns-in-Show
returns-in-Show c = shown_comes c.args.job c.args.name.now c.args.source.now c.args.text.items _ (sym c.manner.ensures ∙ c.in-Show.is) c.requires.written c.done.ensures

use Rattle.std.proofs.Common.{sym, ◌∙◌}
use Rattle.luf_scope.proofs.Numbered.{added}
use Rattle.luf_scope.proofs.names.Bucket.number.Goals as goal

pub returns-in_ok-insert-in-None-clause-names : goal.returns-in_ok-insert-in-None-clause-names
returns-in_ok-insert-in-None-clause-names c = added c.args.name.now c.args.self.now.numbers c.insert.new.self c.args.number (sym c.find.ensures ∙ c.in-None.is) c.in_ok-insert-in-None.ensures.updates

use Rattle.luf_scope.specs.Links.{spelling_in}
use Rattle.luf_scope.proofs.checks.name_fault.Goals as goal

pub returns : goal.returns
returns c = c.plain_name_fault.ensures (spelling_in c.args.src.now c.args.cut.now)

use Rattle.luf_guard.proofs.Needed.{needed_exact, needed_apart}
use Rattle.luf_guard.proofs.space.needs_space.Goals as goal

pub returns-clause-exact : goal.returns-clause-exact
returns-clause-exact c = needed_exact c.args.a.now c.args.b.now c.is_needed.result c.requires.left c.requires.right c.is_needed.ensures

pub returns-clause-apart : goal.returns-clause-apart
returns-clause-apart c = needed_apart c.args.a.now c.args.b.now c.is_needed.result c.requires.left c.requires.right c.is_needed.ensures

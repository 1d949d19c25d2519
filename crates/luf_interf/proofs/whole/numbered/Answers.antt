use Rattle.luf_interf.proofs.Told.{numbered_is}
use Rattle.luf_interf.proofs.whole.numbered.Goals as goal

pub returns : goal.returns
returns c = numbered_is c.args.number c.nth.result c.nth.ensures.name

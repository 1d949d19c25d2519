use Rattle.luf_twice.proofs.FormattedOnce as law
use Rattle.luf_twice.proofs.laws.formatted_once.Goals as goal

pub returns : goal.returns
returns c = law.formatted_once

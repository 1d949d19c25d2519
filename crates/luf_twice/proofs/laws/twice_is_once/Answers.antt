use Rattle.luf_twice.proofs.TwiceIsOnce as law
use Rattle.luf_twice.proofs.laws.twice_is_once.Goals as goal

pub returns : goal.returns
returns c = law.twice_is_once

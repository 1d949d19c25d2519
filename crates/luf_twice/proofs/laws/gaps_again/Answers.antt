use Rattle.luf_twice.proofs.GapsAgain as law
use Rattle.luf_twice.proofs.laws.gaps_again.Goals as goal

pub returns : goal.returns
returns c = law.gaps_again

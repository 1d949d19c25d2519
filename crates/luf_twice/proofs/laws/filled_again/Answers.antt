use Rattle.luf_twice.proofs.FilledAgain as law
use Rattle.luf_twice.proofs.laws.filled_again.Goals as goal

pub returns : goal.returns
returns c = law.filled_again

use Rattle.luf_bare.proofs.RankedLaws as law
use Rattle.luf_bare.proofs.laws.ranked_again.Goals as goal

pub returns : goal.returns
returns c = law.ranked_again

use Rattle.luf_bare.proofs.RankedLaws as law
use Rattle.luf_bare.proofs.laws.one_ranking.Goals as goal

pub returns : goal.returns
returns c = law.one_ranking

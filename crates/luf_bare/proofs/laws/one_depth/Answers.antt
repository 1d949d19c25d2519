use Rattle.luf_bare.proofs.ReadBackLaws as law
use Rattle.luf_bare.proofs.laws.one_depth.Goals as goal

pub returns : goal.returns
returns c = law.one_depth

use Rattle.luf_bare.proofs.ReadBackLaws as law
use Rattle.luf_bare.proofs.laws.significant_are_written.Goals as goal

pub returns : goal.returns
returns c = law.significant_are_written

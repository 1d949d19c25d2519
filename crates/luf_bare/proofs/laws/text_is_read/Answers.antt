use Rattle.luf_bare.proofs.ReadBackLaws as law
use Rattle.luf_bare.proofs.laws.text_is_read.Goals as goal

pub returns : goal.returns
returns c = law.text_is_read

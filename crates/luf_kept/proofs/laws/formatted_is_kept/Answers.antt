use Rattle.luf_kept.proofs.KeptLaws as law
use Rattle.luf_kept.proofs.laws.formatted_is_kept.Goals as goal

pub returns : goal.returns
returns c = law.is_kept

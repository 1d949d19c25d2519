use Rattle.luf_style.proofs.StyledLaws as law
use Rattle.luf_style.proofs.laws.one_formatted.Goals as goal

pub returns : goal.returns
returns c = law.one_formatted

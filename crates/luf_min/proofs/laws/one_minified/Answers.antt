use Rattle.luf_min.proofs.OneText as law
use Rattle.luf_min.proofs.laws.one_minified.Goals as goal

pub returns : goal.returns
returns c = law.one_minified

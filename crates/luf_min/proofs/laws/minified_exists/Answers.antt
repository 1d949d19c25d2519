use Rattle.luf_min.proofs.OneText as law
use Rattle.luf_min.proofs.laws.minified_exists.Goals as goal

pub returns : goal.returns
returns c = law.minified_exists

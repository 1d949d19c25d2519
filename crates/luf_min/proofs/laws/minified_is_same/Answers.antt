use Rattle.luf_min.proofs.Same as law
use Rattle.luf_min.proofs.laws.minified_is_same.Goals as goal

pub returns : goal.returns
returns c = law.minified_is_same

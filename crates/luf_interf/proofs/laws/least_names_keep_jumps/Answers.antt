use Rattle.luf_interf.proofs.Labels as law
use Rattle.luf_interf.proofs.laws.least_names_keep_jumps.Goals as goal

pub returns : goal.returns
returns c = law.least_names_keep_jumps

use Rattle.luf_interf.proofs.Exist as law
use Rattle.luf_interf.proofs.laws.least_names_exist.Goals as goal

pub returns : goal.returns
returns c = law.least_names_exist

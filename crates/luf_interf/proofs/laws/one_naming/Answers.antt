use Rattle.luf_interf.proofs.OneNaming as law
use Rattle.luf_interf.proofs.laws.one_naming.Goals as goal

pub returns : goal.returns
returns c = law.one_naming

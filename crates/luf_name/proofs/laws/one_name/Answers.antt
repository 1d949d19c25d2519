use Rattle.luf_name.proofs.Rising as law
use Rattle.luf_name.proofs.laws.one_name.Goals as goal

pub returns : goal.returns
returns c = law.one_name

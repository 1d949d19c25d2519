use Rattle.luf_name.proofs.Rising as law
use Rattle.luf_name.proofs.laws.names_rise.Goals as goal

pub returns : goal.returns
returns c = law.names_rise

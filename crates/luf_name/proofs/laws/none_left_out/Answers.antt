use Rattle.luf_name.proofs.Naming as law
use Rattle.luf_name.proofs.laws.none_left_out.Goals as goal

pub returns : goal.returns
returns c = law.none_left_out

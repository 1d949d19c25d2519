use Rattle.luf_tree.proofs.Alone as law
use Rattle.luf_tree.proofs.laws.front_alone.Goals as goal

pub returns : goal.returns
returns c = law.front_alone

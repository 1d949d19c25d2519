use Rattle.luf_parse.proofs.OneTree as law
use Rattle.luf_parse.proofs.laws.one_tree.Goals as goal

pub returns : goal.returns
returns c = law.one_tree

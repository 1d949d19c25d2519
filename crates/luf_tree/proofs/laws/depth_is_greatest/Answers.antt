use Rattle.luf_tree.proofs.EntryLevels as law
use Rattle.luf_tree.proofs.laws.depth_is_greatest.Goals as goal

pub returns : goal.returns
returns c = law.depth_is_greatest

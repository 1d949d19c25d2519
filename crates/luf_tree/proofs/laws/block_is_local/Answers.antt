use Rattle.luf_tree.proofs.Locality as law
use Rattle.luf_tree.proofs.laws.block_is_local.Goals as goal

pub returns : goal.returns
returns c toks i j b derived = law.local_block derived

use Rattle.luf_tree.proofs.Alone as law
use Rattle.luf_tree.proofs.Locality.{local_block}
use Rattle.luf_tree.proofs.laws.block_alone.Goals as goal

pub returns : goal.returns
returns c toks i j b derived = law.cut_off (local_block derived)

use Rattle.luf_tree.proofs.Alone as law
use Rattle.luf_tree.proofs.Locality.{local_expr}
use Rattle.luf_tree.proofs.laws.expression_alone.Goals as goal

pub returns : goal.returns
returns c toks n i j e derived = law.cut_off (local_expr derived)

use Rattle.luf_tree.proofs.Locality as law
use Rattle.luf_tree.proofs.laws.expression_is_local.Goals as goal

pub returns : goal.returns
returns c toks n i j e derived = law.local_expr derived

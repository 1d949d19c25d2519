use Rattle.luf_bare.proofs.Ranks as law
use Rattle.luf_bare.proofs.laws.ranks_in_order.Goals as goal

pub returns : goal.returns
returns c = law.ranks_in_order

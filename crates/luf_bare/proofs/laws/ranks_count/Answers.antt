use Rattle.luf_bare.proofs.Ranks as law
use Rattle.luf_bare.proofs.laws.ranks_count.Goals as goal

pub returns : goal.returns
returns c = law.ranks_count

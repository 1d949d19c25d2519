use Rattle.luf_neat.proofs.NeatCut as law
use Rattle.luf_neat.proofs.laws.neat_is_cut.Goals as goal

pub returns : goal.returns
returns c = law.neat_cut

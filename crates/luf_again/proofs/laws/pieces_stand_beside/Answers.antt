use Rattle.luf_again.proofs.BesideLaws as law
use Rattle.luf_again.proofs.laws.pieces_stand_beside.Goals as goal

pub returns : goal.returns
returns c = law.all_beside

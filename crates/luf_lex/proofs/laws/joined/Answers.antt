use Rattle.luf_lex.proofs.WholeCut as law
use Rattle.luf_lex.proofs.laws.joined.Goals as goal

pub returns : goal.returns
returns c = law.joined

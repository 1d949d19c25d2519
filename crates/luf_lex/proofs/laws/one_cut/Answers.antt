use Rattle.luf_lex.proofs.OneCut as law
use Rattle.luf_lex.proofs.laws.one_cut.Goals as goal

pub returns : goal.returns
returns c = law.one_cut

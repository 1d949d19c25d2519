use Rattle.luf_lex.proofs.PieceSpellings as law
use Rattle.luf_lex.proofs.laws.spelled.Goals as goal

pub returns : goal.returns
returns c = law.spelled

-- The law is a lemma on the definitions.
use Rattle.luf_undump.proofs.OneAnswer as answer
use Rattle.luf_undump.proofs.laws.one_cause.Goals as goal

pub returns : goal.returns
returns c = answer.one_cause

use Rattle.luf_work.proofs.RefusalLemmas as law
use Rattle.luf_work.proofs.laws.source_not_refused.Goals as goal

pub returns : goal.returns
returns c = law.source_not_refused

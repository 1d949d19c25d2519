use Rattle.luf_work.proofs.ListLemmas as law
use Rattle.luf_work.proofs.laws.list_accepted_not_refused.Goals as goal

pub returns : goal.returns
returns c = law.list_accepted_not_refused

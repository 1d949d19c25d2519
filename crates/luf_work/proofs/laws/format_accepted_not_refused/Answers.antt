use Rattle.luf_work.proofs.FormatLemmas as law
use Rattle.luf_work.proofs.laws.format_accepted_not_refused.Goals as goal

pub returns : goal.returns
returns c = law.accepted_not_refused

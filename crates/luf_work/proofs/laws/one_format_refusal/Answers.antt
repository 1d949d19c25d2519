use Rattle.luf_work.proofs.FormatLemmas as law
use Rattle.luf_work.proofs.laws.one_format_refusal.Goals as goal

pub returns : goal.returns
returns c = law.one_refusal

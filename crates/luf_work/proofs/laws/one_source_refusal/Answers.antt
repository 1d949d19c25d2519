use Rattle.luf_work.proofs.RefusalLemmas as law
use Rattle.luf_work.proofs.laws.one_source_refusal.Goals as goal

pub returns : goal.returns
returns c = law.one_source_refusal

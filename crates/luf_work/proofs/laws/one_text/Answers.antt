use Rattle.luf_work.proofs.RefusalLemmas as law
use Rattle.luf_work.proofs.laws.one_text.Goals as goal

pub returns : goal.returns
returns c = law.one_text

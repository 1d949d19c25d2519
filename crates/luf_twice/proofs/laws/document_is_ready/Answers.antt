use Rattle.luf_twice.proofs.ReadyLaws as law
use Rattle.luf_twice.proofs.laws.document_is_ready.Goals as goal

pub returns : goal.returns
returns c = law.document_is_ready

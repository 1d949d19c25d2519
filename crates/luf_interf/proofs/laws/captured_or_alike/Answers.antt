use Rattle.luf_interf.proofs.Alike as law
use Rattle.luf_interf.proofs.laws.captured_or_alike.Goals as goal

pub returns : goal.returns
returns c = law.captured_or_alike

use Rattle.luf_again.proofs.DocumentShown as law
use Rattle.luf_again.proofs.laws.text_tells.Goals as goal

pub returns : goal.returns
returns c = law.text_tells

use Rattle.luf_again.proofs.FlagsAlone as law
use Rattle.luf_again.proofs.laws.notes_again.Goals as goal

pub returns : goal.returns
returns c = law.notes_again

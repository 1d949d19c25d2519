use Rattle.luf_again.proofs.FlagsAlone as law
use Rattle.luf_again.proofs.laws.flags_alone.Goals as goal

pub returns : goal.returns
returns c = law.flags_alone

use Rattle.luf_exact.proofs.SameEntries as law
use Rattle.luf_exact.proofs.laws.entries_are_local.Goals as goal

pub returns : goal.returns
returns c = law.same_entries

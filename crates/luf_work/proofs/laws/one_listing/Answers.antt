use Rattle.luf_work.proofs.ListLemmas as law
use Rattle.luf_work.proofs.laws.one_listing.Goals as goal

pub returns : goal.returns
returns c = law.one_listing

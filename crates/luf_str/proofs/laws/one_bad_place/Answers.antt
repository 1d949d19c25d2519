use Rattle.luf_str.proofs.Unique.{one_bad_place}
use Rattle.luf_str.proofs.laws.one_bad_place.Goals as goal

pub returns : goal.returns
returns c = one_bad_place

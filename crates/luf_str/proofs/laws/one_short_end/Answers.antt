use Rattle.luf_str.proofs.EndLaws.{one_short_end}
use Rattle.luf_str.proofs.laws.one_short_end.Goals as goal

pub returns : goal.returns
returns c = one_short_end

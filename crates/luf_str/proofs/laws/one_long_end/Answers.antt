use Rattle.luf_str.proofs.EndLaws.{one_long_end}
use Rattle.luf_str.proofs.laws.one_long_end.Goals as goal

pub returns : goal.returns
returns c = one_long_end

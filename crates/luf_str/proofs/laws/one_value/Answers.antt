use Rattle.luf_str.proofs.Unique.{one_value}
use Rattle.luf_str.proofs.laws.one_value.Goals as goal

pub returns : goal.returns
returns c = one_value

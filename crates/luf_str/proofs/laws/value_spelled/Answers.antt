use Rattle.luf_str.proofs.Apart.{valued_is_spelled}
use Rattle.luf_str.proofs.laws.value_spelled.Goals as goal

pub returns : goal.returns
returns c = valued_is_spelled

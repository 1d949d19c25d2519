use Rattle.luf_str.proofs.Apart.{apart}
use Rattle.luf_str.proofs.laws.spellings_apart.Goals as goal

pub returns : goal.returns
returns c = apart

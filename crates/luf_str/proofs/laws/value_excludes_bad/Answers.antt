use Rattle.luf_str.proofs.Unique.{value_excludes_bad}
use Rattle.luf_str.proofs.laws.value_excludes_bad.Goals as goal

pub returns : goal.returns
returns c = value_excludes_bad

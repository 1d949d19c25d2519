use Rattle.luf_str.proofs.Unique.{one_requoted}
use Rattle.luf_str.proofs.laws.one_requoted.Goals as goal

pub returns : goal.returns
returns c = λ spelling requoted other q. one_requoted spelling q requoted other

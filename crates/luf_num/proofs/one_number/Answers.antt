-- The law is a lemma on the definitions.
use Rattle.luf_num.proofs.Forms.{number_once}
use Rattle.luf_num.proofs.one_number.Goals as goal

pub returns : goal.returns
returns c = number_once

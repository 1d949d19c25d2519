use Rattle.luf_doc.specs.Layout.{pieces}
use Rattle.luf_again.proofs.BesideLaws.{all_beside}
use Rattle.luf_again.proofs.LexedWalk as law
use Rattle.luf_again.proofs.laws.cut_reads.Goals as goal

pub returns : goal.returns
returns c = λ short page d source head body n apart formed is_head at. law.cut_reads short source head body (pieces page d) n is_head at (all_beside short page d apart formed)

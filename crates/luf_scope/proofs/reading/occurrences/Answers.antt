use Rattle.luf_scope.proofs.Added.{all_read}
use Rattle.luf_scope.proofs.reading.occurrences.Goals as goal

pub returns : goal.returns
returns c = all_read _ _ _ c.new-found.ensures.items c.in_ok-of_block.ensures

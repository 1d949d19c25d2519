use Rattle.luf_scope.proofs.Added.{outline_read}
use Rattle.luf_scope.proofs.reading.outline.Goals as goal

pub returns : goal.returns
returns c = outline_read _ _ _ c.new-found.ensures.items c.in_ok-of_block.ensures

use Rattle.luf_scope.proofs.Places.{block_lies}
use Rattle.luf_scope.proofs.laws.occurrences_are_ordered.Goals as goal

pub returns : goal.returns
returns c toks chunk is = block_lies is

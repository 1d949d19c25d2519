use Rattle.luf_scope.proofs.Blocks.{block_lies}
use Rattle.luf_scope.proofs.laws.label_blocks_are_nested.Goals as goal

pub returns : goal.returns
returns c toks chunk is = (block_lies is).pairs

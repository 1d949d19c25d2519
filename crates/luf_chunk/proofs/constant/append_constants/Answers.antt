-- As many words as constants.
use Rattle.luf_chunk.proofs.Words.{list_written}
use Rattle.luf_chunk.proofs.constant.append_constants.Goals as goal

pub returns-clause-ok : goal.returns-clause-ok
returns-clause-ok c =
    list_written c.append_each.result c.args.constants.now c.args.into.now.items c.append_size.new.into.items c.append_each.new.into.items c.in_ok-append_size.ensures.ok c.append_each.ensures.ok

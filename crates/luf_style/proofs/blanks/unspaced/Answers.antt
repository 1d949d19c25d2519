use Rattle.luf_style.proofs.BlankLaws.{all_told}
use Rattle.luf_style.proofs.blanks.unspaced.Goals as goal

pub returns : goal.returns
returns c = all_told c.args.gap c.in_ok-notes.notes c.len-count.result c.len-count.ensures c.in_ok-notes.ensures

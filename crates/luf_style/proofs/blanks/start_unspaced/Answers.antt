use Rattle.luf_style.proofs.BlankLaws.{start_told}
use Rattle.luf_style.proofs.blanks.start_unspaced.Goals as goal

pub returns : goal.returns
returns c = start_told c.args.gap c.as_slice.result.now c.in_ok-notes.notes c.first_break-first.result c.len-count.result c.told_blank.result c.as_slice.ensures c.first_break-first.ensures c.len-count.ensures
    c.in_ok-notes.ensures c.told_blank.ensures

use Rattle.luf_style.proofs.BlankLaws.{clears_more}
use Rattle.luf_style.proofs.blanks.cleared.Goals as goal

pub loop-note-preserved : goal.loop-note-preserved
loop-note-preserved c = clears_more c.args.from c.args.count c.args.notes c.loop-note.left c.pop.new.self c.loop-note.told.items c.push.new.self.items c.in-Some.note c.told_note.result c.loop-note.invariant
    c.in-Some.ensures c.len-in-Some.result c.is_outside.result c.len-in-Some.ensures c.is_outside.ensures c.told_note.ensures c.in_ok-push.ensures.items

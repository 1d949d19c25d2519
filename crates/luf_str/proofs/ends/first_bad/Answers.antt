use Rattle.luf_str.proofs.PartLaws.{short_is_not_open, closed_is_whole}
use Rattle.luf_str.proofs.ends.first_bad.Goals as goal

pub unreachable-requires : goal.unreachable-requires
unreachable-requires c = short_is_not_open c.args.spelling.now c.requires.short c.in-Open.ensures

pub returns-in-Closed-clause-none : goal.returns-in-Closed-clause-none
returns-in-Closed-clause-none c = let value = c.in-Closed.ensures.1 in (value.0, closed_is_whole c.args.spelling.now c.in-Closed.length value.0 c.requires.short value.1)

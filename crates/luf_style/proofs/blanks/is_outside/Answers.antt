use Rattle.std.proofs.Common.{sym}
use Rattle.luf_style.proofs.BlankLaws.{before_them, outside_test}
use Rattle.luf_style.proofs.blanks.is_outside.Goals as goal

pub returns-then-n-from : goal.returns-then-n-from
returns-then-n-from c = sym (before_them c.args.n c.args.from c.args.count c.if-n-from.true)

pub returns : goal.returns
returns c = outside_test c.args.n c.args.from c.args.count c.if-n-from.false

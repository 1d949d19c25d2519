use Rattle.std.proofs.Common.{sym}
use Rattle.luf_gaps.proofs.MaskLaws.{expr_end}
use Rattle.luf_gaps.proofs.mask.end_of_expr.Goals as goal

pub returns : goal.returns
returns c = sym (expr_end c.args.e.now)

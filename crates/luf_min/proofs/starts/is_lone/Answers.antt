use Rattle.std.proofs.Common.{arith}
use Rattle.luf_min.proofs.StatementLaws.{many_not_lone}
use Rattle.luf_min.proofs.starts.is_lone.Goals as goal

pub returns-in-len2-up : goal.returns-in-len2-up
returns-in-len2-up c = many_not_lone c.args.exprs.now (omega (arith, c.in-len2-up.len_at_least))

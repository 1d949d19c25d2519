use Rattle.std.proofs.Common.{arith}
use Rattle.luf_gaps.proofs.MaskLaws.{many_not_lone}
use Rattle.luf_gaps.proofs.mask.is_lone.Goals as goal

pub returns-in-len2-up : goal.returns-in-len2-up
returns-in-len2-up c = many_not_lone c.args.items.now (omega (arith, c.in-len2-up.len_at_least))

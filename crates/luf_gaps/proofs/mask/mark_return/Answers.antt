use Rattle.std.proofs.Common.{◌+◌, sym, ◌∙◌}
use Rattle.luf_bare.specs.Dropped.{between}
use Rattle.luf_gaps.proofs.MaskLaws.{last_end}
use Rattle.luf_gaps.proofs.MarkLaws.{lent}
use Rattle.luf_gaps.proofs.mask.mark_return.Goals as goal

pub returns-in-len1-up : goal.returns-in-len1-up
returns-in-len1-up c = lent (λ place. between place c.args.to) (c.end_of_expr.ensures ∙ sym (last_end (c.args.from + 1) c.args.values.now c.last-item.result c.in-len1-up.len_at_least c.last-item.is)) c.mark_between-in-len1-up.ensures

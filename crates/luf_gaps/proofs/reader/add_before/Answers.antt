use Rattle.std.proofs.Common.{sym, subst}
use Rattle.std.specs.List.{All}
use Rattle.luf_gaps.specs.inner.Within.{LiesIn}
use Rattle.luf_gaps.proofs.WithinLaws.{lead_within}
use Rattle.luf_gaps.proofs.reader.add_before.Goals as goal

pub add_remarks-requires : goal.add_remarks-requires
add_remarks-requires c = subst (λ notes. All (LiesIn c.args.src.now) notes) (sym c.lead-lead.ensures) (lead_within c.args.src.now c.args.cut.now c.args.n c.requires.cut)

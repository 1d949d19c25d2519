use Rattle.std.proofs.Common.{◌∙◌, sym, arith}
use Rattle.luf_goto.proofs.Held.{first_here, not_here}
use Rattle.luf_goto.proofs.firsts.first_spot.Goals as goal

pub returns-then-is_wanted : goal.returns-then-is_wanted
returns-then-is_wanted c =
    sym (first_here c.args.extents.now c.args.held c.args.spots.now c.in_ok-found.found.items c.loop-i.i c.index.result.now c.in_ok-found.ensures.found (omega arith) c.index.ensures (sym c.is_wanted.ensures ∙ c.if-is_wanted.true)) ∙ c.loop-i.invariant

pub loop-i-preserved : goal.loop-i-preserved
loop-i-preserved c =
    sym (not_here c.args.extents.now c.args.held c.args.spots.now c.in_ok-found.found.items c.loop-i.i c.index.result.now c.in_ok-found.ensures.found (omega arith) c.index.ensures (sym c.is_wanted.ensures ∙ c.if-is_wanted.false)) ∙ c.loop-i.invariant

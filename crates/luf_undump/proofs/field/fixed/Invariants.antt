use Rattle.std.proofs.Common.{◌≡◌, drop}
use Rattle.luf_undump.specs.Reading.{fixed_at}
use Rattle.luf_undump.proofs.field.fixed.Given as goal

abbrev pub invariant-loop-want : goal.invariant-loop-want
invariant-loop-want l = fixed_at (drop l.want-index l.wanted) l.rest ≡ fixed_at l.wanted l.bytes

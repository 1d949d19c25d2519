use Rattle.std.proofs.Common.{refl}
use Rattle.luf_style.specs.Filled as filled
use Rattle.luf_style.proofs.chance.chance_of_tight.Goals as goal

pub returns-then-needs_blank : goal.returns-then-needs_blank
returns-then-needs_blank c = λ border. filled.spaced border refl (c.needs_blank.ensures.exact.0 c.if-needs_blank.true)

pub returns-else-needs_blank : goal.returns-else-needs_blank
returns-else-needs_blank c = λ border. filled.apart border refl (c.needs_blank.ensures.apart c.if-needs_blank.false)

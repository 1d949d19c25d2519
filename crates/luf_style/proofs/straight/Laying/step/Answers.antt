use Rattle.luf_style.proofs.StraightSteps.{within_more}
use Rattle.luf_style.proofs.straight.Laying.step.Goals as goal

pub returns-in-Close-clause-within : goal.returns-in-Close-clause-within
returns-in-Close-clause-within c = λ n within. within_more n c.close.new.self (c.close.ensures.within n within)

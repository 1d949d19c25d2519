use Rattle.luafmt.proofs.Sources.{refused_answer}
use Rattle.luafmt.proofs.answer.answered.Goals as goal

pub returns-in-Err : goal.returns-in-Err
returns-in-Err c = refused_answer c.args.job c.args.name.now c.args.source.now _ c.in-Err.refusal c.in-Err.ensures.refused c.refused.ensures

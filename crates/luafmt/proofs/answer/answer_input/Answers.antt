use Rattle.std.proofs.Common.{codes}
use Rattle.luf_work.specs.declared.refusal.Refusal.TheVariants.{TooLarge}
use Rattle.luafmt.proofs.Sources.{too_large, too_long_input, refused_comes}
use Rattle.luafmt.proofs.answer.answer_input.Goals as goal

pub returns-in-Err-TooLarge-clause-comes : goal.returns-in-Err-TooLarge-clause-comes
returns-in-Err-TooLarge-clause-comes g c =
    let pulled = c.in-Err-TooLarge.ensures.pulled in
    let found = too_long_input (g.I.Source.left c.args.input.now) _ pulled.0 c.in-Err-TooLarge.field-0 c.in-Err-TooLarge.field-0-is pulled.1 pulled.2 in
    (found.0, found.1, refused_comes c.args.job (codes "-") found.0 _ TooLarge (λ _. too_large c.args.job found.0 found.2) c.in_ok-refused-in-Err-TooLarge.ensures)

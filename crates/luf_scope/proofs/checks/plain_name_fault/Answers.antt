use Rattle.std.proofs.Common.{◌∙◌}
use Rattle.std.proofs.lemmas.Result.{IfOk-weaker}
use Rattle.luf_scope.proofs.NoAttribute.{only_varargs}
use Rattle.luf_scope.proofs.checks.plain_name_fault.Goals as goal

pub returns : goal.returns
returns c = λ spelled. IfOk-weaker c.first_varargs.result _ _ (λ found is. is ∙ only_varargs spelled c.args.os.now c.requires.laid c.requires.plain) (c.first_varargs.ensures spelled)

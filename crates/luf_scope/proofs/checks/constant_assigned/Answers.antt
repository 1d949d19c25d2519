use Rattle.std.proofs.Common.{Some, None, cond, sym, ap, ◌∙◌}
use Rattle.luf_scope.specs.Local.{locals_of}
use Rattle.luf_scope.proofs.Firsts.{assigned_constant}
use Rattle.luf_scope.proofs.checks.constant_assigned.Goals as goal

pub returns-then-is_constant : goal.returns-then-is_constant
returns-then-is_constant c = λ spelled all means are. ap (λ b. cond b (Some c.in-Assigns.token) None) (sym c.if-is_constant.true) ∙ assigned_constant spelled all c.args.o c.in-Assigns.token c.args.meaning c.is_constant.result c.in-Assigns.is means (c.is_constant.ensures (locals_of spelled all) are)

pub returns-else-is_constant : goal.returns-else-is_constant
returns-else-is_constant c = λ spelled all means are. ap (λ b. cond b (Some c.in-Assigns.token) None) (sym c.if-is_constant.false) ∙ assigned_constant spelled all c.args.o c.in-Assigns.token c.args.meaning c.is_constant.result c.in-Assigns.is means (c.is_constant.ensures (locals_of spelled all) are)

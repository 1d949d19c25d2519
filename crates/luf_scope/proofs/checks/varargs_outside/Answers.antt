use Rattle.luf_scope.proofs.Functions.{tells_function}
use Rattle.luf_scope.proofs.checks.varargs_outside.Goals as goal

pub returns-in_ok-push-in-Function-clause-kept : goal.returns-in_ok-push-in-Function-clause-kept
returns-in_ok-push-in-Function-clause-kept c = λ begun later le tells. tells_function c.args.functions.now.items c.push.new.self.items begun later c.in-Function.from c.in-Function.to c.in-Function.vararg c.args.o c.in-Function.is c.in_ok-push-in-Function.ensures.items tells

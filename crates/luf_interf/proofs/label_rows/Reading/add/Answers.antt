use Rattle.std.proofs.Common.{arith}
use Rattle.luf_interf.proofs.Rows.{tells_function}
use Rattle.luf_interf.proofs.label_rows.Reading.add.Goals as goal

pub returns-in_ok-push-in-Function-clause-tells : goal.returns-in_ok-push-in-Function-clause-tells
returns-in_ok-push-in-Function-clause-tells c = λ begun later count le tells.
    let class = c.in-Some.ensures in
    tells_function c.args.self.now.holders.items c.push.new.self.items begun later c.in-Some.class c.in-Function.to c.in_ok-push-in-Function.ensures.items (omega (arith, class, count)) tells
    c.in-Function.from c.in-Function.vararg c.args.o.now c.in-Function.is

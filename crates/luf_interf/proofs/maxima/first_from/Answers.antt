use Rattle.std.proofs.Common.{sym, arith}
use Rattle.luf_interf.proofs.Above.{first_reaches, none_reaches}
use Rattle.luf_interf.proofs.maxima.first_from.Goals as goal

pub returns-then-numbers-i : goal.returns-then-numbers-i
returns-then-numbers-i c = sym (first_reaches c.args.numbers.now c.args.bound c.loop-i.i c.loop-i-test.true c.if-numbers-i.true c.loop-i.invariant)

pub returns : goal.returns
returns c = sym (none_reaches c.args.numbers.now c.args.bound (λ k within. c.loop-i.invariant k (let past = c.loop-i-test.false in omega (arith, within, past)) within))

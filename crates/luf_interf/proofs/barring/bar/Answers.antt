use Rattle.std.proofs.Common.{refl, sym, ◌∙◌, arith}
use Rattle.luf_interf.proofs.BarredNumbers.{word_with, word_without}
use Rattle.luf_interf.proofs.barring.bar.Goals as goal

-- its number is too large for any table
pub returns-in_default-clause-barred : goal.returns-in_default-clause-barred
returns-in_default-clause-barred c = λ words size are. word_without words size c.args.heads.now c.args.heads.now c.args.word.now are
    (λ k below nth. let count = are.count in let few = c.requires in c.in_default.ensures.none refl k (omega (arith, count, few, below)) nth) refl

pub returns-then-number-len-clause-barred : goal.returns-then-number-len-clause-barred
returns-then-number-len-clause-barred c = λ words size are. let count = are.count in let len = c.len.ensures in let below = c.if-number-len.true in
    word_with words size c.in-Some.number c.args.heads.now c.set.new.self c.args.word.now are (omega (arith, count, len, below)) c.in-Some.ensures.some c.set.ensures

pub returns-else-number-len-clause-barred : goal.returns-else-number-len-clause-barred
returns-else-number-len-clause-barred c = λ words size are. word_without words size c.args.heads.now c.args.heads.now c.args.word.now are
    (λ k below nth. let count = are.count in let len = c.len.ensures in let past = c.if-number-len.false in let same = sym nth.1 ∙ c.in-Some.ensures.some.1 in omega (arith, count, len, past, below, same)) refl

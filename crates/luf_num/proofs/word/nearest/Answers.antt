-- The word of the rounded bits.
use Rattle.luf_num.proofs.Rounding.{word_is_nearest, enough_bits}
use Rattle.luf_num.proofs.word.nearest.Goals as goal

pub mantissa-requires-clause-exact : goal.mantissa-requires-clause-exact
mantissa-requires-clause-exact c = λ left. enough_bits c.args.significand c.ilog2-top.result (c.requires.enough left) c.ilog2-top.ensures.next_power_gt

pub returns : goal.returns
returns c = λ n d some about.
    rw c.from-exponent.ensures (word_is_nearest c.args.significand c.args.scale c.ilog2-top.result c.mantissa.result n d c.args.left_over
    c.ilog2-top.ensures.power_le c.ilog2-top.ensures.bound c.requires.low c.requires.high c.requires.short c.mantissa.ensures some about
    (λ left. enough_bits c.args.significand c.ilog2-top.result (c.requires.enough left) c.ilog2-top.ensures.next_power_gt))

use Rattle.std.proofs.Common.{sym}
use Rattle.std.proofs.lemmas.Option.{slice_get-get_or, slice_get_past}
use Rattle.luf_ops.specs.Operation.{operations}
use Rattle.luf_ops.proofs.Numbers.{number_of-slice_get}
use Rattle.luf_ops.proofs.op.Op.from_number.Goals as goal

pub returns-then-number-lt83-clause-listed : goal.returns-then-number-lt83-clause-listed
unfolding operations
returns-then-number-lt83-clause-listed c = sym (slice_get-get_or operations c.args.number _ c.if-number-lt83.true)

pub returns-then-number-lt83-clause-number : goal.returns-then-number-lt83-clause-number
unfolding operations
returns-then-number-lt83-clause-number c = number_of-slice_get c.args.number _ (slice_get-get_or operations c.args.number _ c.if-number-lt83.true)

pub returns-else-number-lt83-clause-listed : goal.returns-else-number-lt83-clause-listed
unfolding operations
returns-else-number-lt83-clause-listed c = sym (slice_get_past operations c.args.number c.if-number-lt83.false)

use Rattle.std.proofs.Common.{◌∙◌}
use Rattle.std.proofs.lemmas.Result.{IfOk-weaker}
use Rattle.luf_scope.proofs.Counted.{laid_from_order}
use Rattle.luf_interf.specs.inner.LabelNames.{AreLabelNames}
use Rattle.luf_interf.specs.inner.LabelNumbers.{AreLeastNumbers}
use Rattle.luf_interf.proofs.Named.{rows_long, are_named}
use Rattle.luf_interf.proofs.label_names.label_names.Goals as goal

pub label_rows-requires : goal.label_rows-requires
label_rows-requires c = laid_from_order 0 c.requires.tokens c.requires.tokens c.args.os.now c.requires.order

pub numbers_of-requires-clause-blocks : goal.numbers_of-requires-clause-blocks
numbers_of-requires-clause-blocks c = rows_long c.args.os.now c.requires c.as_slice.result.now (c.as_slice.ensures.value ∙ c.in_ok-rows.ensures)

pub returns : goal.returns
returns c = λ spelled.
    IfOk-weaker c.numbers_of.result (λ numbers. AreLeastNumbers c.as_slice.result.now numbers.items) (λ numbers. AreLabelNames spelled c.args.os.now numbers.items)
    (λ numbers are. are_named c.args.os.now c.requires spelled c.as_slice.result.now numbers.items (c.as_slice.ensures.value ∙ c.in_ok-rows.ensures) are)
    c.numbers_of.ensures

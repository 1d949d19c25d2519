use Rattle.std.proofs.Common.{◌∙◌, ap, sym, Some, option_map, slice_get}
use Rattle.luf_ops.specs.Operation.{form_of, operations}
use Rattle.luf_ops.specs.Instruction.{instruction_with}
use Rattle.luf_ops.specs.declared.op.Op.{Op}
use Rattle.luf_ops.proofs.Words.{word_of-same}
use Rattle.luf_ops.proofs.instr.Instr.decode.Goals as goal

pub returns-clause-fields : goal.returns-clause-fields
returns-clause-fields c =
    let listed = c.in_ok-op.ensures.listed ∙ ap (slice_get operations) c.number_in.ensures in
    ap Some c.with_op.ensures.fields ∙ ap (option_map (λ (op : Op). instruction_with (form_of op) op c.args.word)) listed

pub returns-clause-only : goal.returns-clause-only
returns-clause-only c = λ i fits is. ap Some (word_of-same _ i c.with_op.ensures.fits fits (c.with_op.ensures.word ∙ sym is))

use Rattle.std.proofs.Common.{◌∙◌, sym, arith}
use Rattle.luf_quote.specs.Parens.{keeps_round_string, keeps_round_table}
use Rattle.luf_draft.proofs.WholeLaws.{many_by_last}
use Rattle.luf_draft.proofs.arguments.shape_for.Goals as goal

pub returns-in-len2-up : goal.returns-in-len2-up
returns-in-len2-up c =
    c.shape_by_last.ensures
    ∙ sym (many_by_last (keeps_round_string c.args.calls) (keeps_round_table c.args.calls) c.args.had c.args.items.now _ c.last-item.result (omega (arith, c.in-len2-up.len_at_least)) (omega (arith, c.in-len2-up.len_at_least)) c.last-item.is)

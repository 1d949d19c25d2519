use Rattle.std.proofs.Common.{◌∙◌, map, ap, sym, arith}
use Rattle.luf_lex.specs.Tokens.{toks_of}
use Rattle.luf_tree.specs.SyntaxOf.{expressions_of, syntax_of_expr}
use Rattle.luf_tree.proofs.SyntaxEquations as eq
use Rattle.luf_draft.specs.inner.Starts.{opens_expressions, opens_statement}
use Rattle.luf_draft.proofs.TreeReads.{stat_read}
use Rattle.luf_draft.proofs.StatementLaws.{targets_start}
use Rattle.luf_draft.proofs.starts.statement_start.Goals as goal

pub returns-in-len1-up : goal.returns-in-len1-up
returns-in-len1-up c =
    c.expression_start-in-len1-up.ensures
    ∙ targets_start (toks_of c.args.cut.now) c.as_slice.result.now c.first-item.result (omega (arith, c.in-len1-up.len_at_least)) c.first-item.is
    ∙ ap (λ es. opens_expressions (toks_of c.args.cut.now) (expressions_of (map syntax_of_expr es))) c.as_slice.ensures
    ∙ sym (ap (opens_statement (toks_of c.args.cut.now)) (stat_read c.args.s.now _ c.in-Assign.is ∙ eq.assign_syntax _ _ c.in-Assign.targets c.in-Assign.values))

use Rattle.std.proofs.Common.{◌∙◌, ap, sym}
use Rattle.luf_lex.specs.Tokens.{toks_of}
use Rattle.luf_tree.specs.SyntaxOf.{syntax_of_expr}
use Rattle.luf_tree.proofs.SyntaxEquations as eq
use Rattle.luf_draft.specs.inner.Starts.{opens_expression}
use Rattle.luf_draft.proofs.TreeReads.{expr_read}
use Rattle.luf_draft.proofs.starts.+expression_start.Goals as goal

pub returns-in-Chain : goal.returns-in-Chain
returns-in-Chain t c =
    c.expression_start.ensures
    ∙ ap (λ e. opens_expression (toks_of c.args.cut.now) (syntax_of_expr e)) c.get.ensures
    ∙ sym (ap (opens_expression (toks_of c.args.cut.now)) (expr_read c.args.e.now _ c.in-Chain.is ∙ eq.chain_syntax _ _ c.in-Chain.first c.in-Chain.rest))

pub returns-in-Power : goal.returns-in-Power
returns-in-Power t c =
    c.expression_start-in-Power.ensures
    ∙ ap (λ e. opens_expression (toks_of c.args.cut.now) (syntax_of_expr e)) c.get-in-Power.ensures
    ∙ sym (ap (opens_expression (toks_of c.args.cut.now)) (expr_read c.args.e.now _ c.in-Power.is ∙ eq.power_syntax _ _ c.in-Power.base c.in-Power.sign c.in-Power.exponent))

pub returns-in-Suffixed : goal.returns-in-Suffixed
returns-in-Suffixed t c =
    c.expression_start-in-Suffixed.ensures
    ∙ ap (λ e. opens_expression (toks_of c.args.cut.now) (syntax_of_expr e)) c.get-in-Suffixed.ensures
    ∙ sym (ap (opens_expression (toks_of c.args.cut.now)) (expr_read c.args.e.now _ c.in-Suffixed.is ∙ eq.head_suffixed_syntax _ _ c.in-Suffixed.head c.in-Suffixed.suffixes))

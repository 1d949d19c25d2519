use Rattle.std.proofs.Common.{◌∙◌, map, ap, sym}
use Rattle.luf_lex.specs.Tokens.{toks_of}
use Rattle.luf_tree.specs.declared.tree.ExprKind.TheViews.{out-Expr}
use Rattle.luf_tree.specs.TokenSyntax.{from_to}
use Rattle.luf_tree.specs.SyntaxOf.{operations_of, suffixes_of, syntax_of_expr, syntax_of_step, syntax_of_suffix}
use Rattle.luf_tree.proofs.SyntaxEquations as eq
use Rattle.luf_scope.proofs.TreeReads.{expr_read}
use Rattle.luf_min.specs.inner.Items.{opens_first, items_in_expression}
use Rattle.luf_min.proofs.StatementLaws.{chain_begun, power_begun, suffixed_begun}
use Rattle.luf_min.proofs.starts.+expression_start.Goals as goal

pub returns-in-Chain : goal.returns-in-Chain
returns-in-Chain t c =
    c.expression_start.ensures
    ∙ ap (λ e. opens_first (toks_of c.args.cut.now) (items_in_expression (toks_of c.args.cut.now) (syntax_of_expr e))) c.get.ensures
    ∙ sym (ap (λ e. opens_first (toks_of c.args.cut.now) (items_in_expression (toks_of c.args.cut.now) e)) (expr_read c.args.e.now _ c.in-Chain.is ∙ eq.chain_syntax _ _ c.in-Chain.first c.in-Chain.rest)
    ∙ chain_begun (toks_of c.args.cut.now) (from_to (out-Expr c.args.e.now).from (out-Expr c.args.e.now).to) (syntax_of_expr c.in-Chain.first) (operations_of (map syntax_of_step c.in-Chain.rest)))

pub returns-in-Power : goal.returns-in-Power
returns-in-Power t c =
    c.expression_start-in-Power.ensures
    ∙ ap (λ e. opens_first (toks_of c.args.cut.now) (items_in_expression (toks_of c.args.cut.now) (syntax_of_expr e))) c.get-in-Power.ensures
    ∙ sym (ap (λ e. opens_first (toks_of c.args.cut.now) (items_in_expression (toks_of c.args.cut.now) e)) (expr_read c.args.e.now _ c.in-Power.is ∙ eq.power_syntax _ _ c.in-Power.base c.in-Power.sign c.in-Power.exponent)
    ∙ power_begun (toks_of c.args.cut.now) (from_to (out-Expr c.args.e.now).from (out-Expr c.args.e.now).to) (syntax_of_expr c.in-Power.base) c.in-Power.sign (syntax_of_expr c.in-Power.exponent))

pub returns-in-Suffixed : goal.returns-in-Suffixed
returns-in-Suffixed t c =
    c.expression_start-in-Suffixed.ensures
    ∙ ap (λ e. opens_first (toks_of c.args.cut.now) (items_in_expression (toks_of c.args.cut.now) (syntax_of_expr e))) c.get-in-Suffixed.ensures
    ∙ sym (ap (λ e. opens_first (toks_of c.args.cut.now) (items_in_expression (toks_of c.args.cut.now) e)) (expr_read c.args.e.now _ c.in-Suffixed.is ∙ eq.head_suffixed_syntax _ _ c.in-Suffixed.head c.in-Suffixed.suffixes)
    ∙ suffixed_begun (toks_of c.args.cut.now) (from_to (out-Expr c.args.e.now).from (out-Expr c.args.e.now).to) (syntax_of_expr c.in-Suffixed.head) (suffixes_of (map syntax_of_suffix c.in-Suffixed.suffixes)))

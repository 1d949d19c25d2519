use Rattle.std.proofs.Common.{false, map, ap, ◌∙◌}
use Rattle.luf_lex.specs.Tokens.{toks_of}
use Rattle.luf_tree.specs.declared.tree.ExprKind.TheViews.{out-Block}
use Rattle.luf_tree.specs.TokenSyntax.{from_to}
use Rattle.luf_tree.specs.SyntaxOf.{statements_of, syntax_of_stat}
use Rattle.luf_quote.specs.Parens.{keeps_round_string, keeps_round_table}
use Rattle.luf_draft.specs.inner.Marks.{are_empty, marks_in_main, marks_in_statements}
use Rattle.luf_draft.specs.inner.Runs.{source_opened, source_closed}
use Rattle.luf_draft.proofs.TreeReads.{block_read}
use Rattle.luf_draft.proofs.Added.{ends, then, all_of, lent, lent_on}
use Rattle.luf_draft.proofs.WholeLaws.{source_is}
use Rattle.luf_draft.proofs.drafting.of_main.Goals as goal

pub returns : goal.returns
returns c = all_of _ _ _ _ _ (ap (marks_in_main (toks_of c.args.cut.now) (keeps_round_string c.args.calls) (keeps_round_table c.args.calls)) (block_read c.args.b.now) ∙ source_is (toks_of c.args.cut.now) (keeps_round_string c.args.calls) (keeps_round_table c.args.calls) (from_to (out-Block c.args.b.now).from (out-Block c.args.b.now).to) (statements_of (map syntax_of_stat (out-Block c.args.b.now).stats))) (then _ _ _ _ _ _ (lent_on source_opened (are_empty (statements_of (map syntax_of_stat (out-Block c.args.b.now).stats))) _ _ _ (c.are_empty-none.ensures ∙ ap (λ ss. are_empty (statements_of (map syntax_of_stat ss))) c.as_slice-stats.ensures) c.in_ok-open_source.ensures) (then _ _ _ _ _ _ (lent_on (λ ss. marks_in_statements (toks_of c.args.cut.now) (keeps_round_string c.args.calls) (keeps_round_table c.args.calls) false (statements_of (map syntax_of_stat ss))) ((out-Block c.args.b.now).stats) _ _ _ c.as_slice-stats.ensures c.in_ok-of_stats.ensures) (ends _ _ _ _ (lent source_closed (are_empty (statements_of (map syntax_of_stat (out-Block c.args.b.now).stats))) _ _ _ _ (c.are_empty-none.ensures ∙ ap (λ ss. are_empty (statements_of (map syntax_of_stat ss))) c.as_slice-stats.ensures) c.close_source.ensures))))

use Rattle.std.proofs.Common.{sym, ◌∙◌}
use Rattle.luf_parse.proofs.AllTokens.{short_exactly}
use Rattle.luf_exact.proofs.ExactParse.{exact_stop, exact_short}
use Rattle.luf_exact.specs.Exact.{IsExactCause}
use Rattle.luf_descent.proofs.Exactness.{passed}
use Rattle.luf_lex.specs.Tokens.{toks_of}
use Rattle.luf_parse.proofs.whole.whole.Goals as goal

pub returns-in_err-block-clause-exact : goal.returns-in_err-block-clause-exact
returns-in_err-block-clause-exact c = passed (IsExactCause (toks_of c.args.cut.now)) _ c.from_residual.ensures.1 (exact_stop (toks_of c.args.cut.now) _ c.in_err-block.ensures.stops)

pub returns-then-block-tokens-clause-exact : goal.returns-then-block-tokens-clause-exact
returns-then-block-tokens-clause-exact c =
    let h = c.in_ok-block.ensures in
    short_exactly (c.refusal.ensures h.ok.ends.within) (exact_short h.ok.is h.ok.ends.within (λ e. c.if-block-tokens.true (e ∙ sym c.tokens.ensures.count)) h.ok.level h.known)

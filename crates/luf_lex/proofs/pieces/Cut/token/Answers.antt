use Rattle.std.proofs.Common.{sym, ◌∙◌, ap}
use Rattle.luf_lex.specs.Tokens.{tok_of}
use Rattle.luf_lex.proofs.TokenLemmas.{tok_from, no_tok_from, no_tok}
use Rattle.luf_lex.proofs.pieces.Cut.token.Goals as goal

pub returns-in_err-tok : goal.returns-in_err-tok
returns-in_err-tok c =
    c.from_residual.ensures ∙ sym (no_tok_from c.args.self.now c.args.n (sym c.in_err-tok.ensures))

pub returns-in-Token : goal.returns-in-Token
returns-in-Token c =
    sym (tok_from c.args.self.now c.args.n c.in_ok-tok.field-0 (sym c.in_ok-tok.ensures) ∙ ap tok_of c.in-Token.is)

pub returns-in_default : goal.returns-in_default
returns-in_default c =
    sym (tok_from c.args.self.now c.args.n c.in_ok-tok.field-0 (sym c.in_ok-tok.ensures) ∙ no_tok c.in_ok-tok.field-0.kind c.in_default.not-Token)

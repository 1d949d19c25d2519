use Rattle.std.proofs.Common.{sym, ◌∙◌, ap, arith}
use Rattle.std.specs.Prelude.{slice_get}
use Rattle.luf_lex.specs.Tokens.{tokens_of}
use Rattle.luf_lex.proofs.FilledLemmas.{tokens_filled}
use Rattle.luf_lex.proofs.TokenLemmas.{indexed_within, indexed, not_indexed}
use Rattle.luf_lex.proofs.pieces.Cut.piece_of.Goals as goal

pub index-requires-then-n-len : goal.index-requires-then-n-len
index-requires-then-n-len c =
    omega (arith, indexed_within c.self.inside.tokens.items c.self.inside.solid.items c.args.n c.index.result.now c.self.invariant.0.places (omega arith) c.index.ensures)

pub returns-then-n-len : goal.returns-then-n-len
returns-then-n-len c =
    indexed c.self.inside.tokens.items c.self.inside.solid.items c.args.n c.index.result.now c.index-then-n-len.result.now c.self.invariant.0.places (omega arith) c.index.ensures c.index-then-n-len.ensures
    ∙ ap (λ ts. slice_get ts c.args.n) (sym (tokens_filled 0 c.self.inside.solid.items c.self.inside.end))
    ∙ ap (λ ps. slice_get (tokens_of ps) c.args.n) c.self.view_is

pub returns-else-n-len : goal.returns-else-n-len
returns-else-n-len c =
    sym (not_indexed c.self.inside.tokens.items c.self.inside.solid.items c.args.n c.self.invariant.0.places (omega arith))
    ∙ ap (λ ts. slice_get ts c.args.n) (sym (tokens_filled 0 c.self.inside.solid.items c.self.inside.end))
    ∙ ap (λ ps. slice_get (tokens_of ps) c.args.n) c.self.view_is

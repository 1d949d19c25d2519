use Rattle.std.proofs.Common.{◌≡◌, ◌≤◌, length, arith, ap, sym, ◌∙◌}
use Rattle.luf_lex.specs.Tokens.{toks_of}
use Rattle.luf_lex.proofs.FilledLemmas.{toks_filled}
use Rattle.luf_lex.proofs.TokenLemmas.{length_places, length_toks-le}
use Rattle.luf_lex.proofs.pieces.Cut.tokens.Goals as goal

pub overflow_cast-result : goal.overflow_cast-result
overflow_cast-result c =
    let pieces = c.self.inside.solid.items in
    let count : length c.self.inside.tokens.items ≡ length (toks_of pieces) = ap length c.self.invariant.0.places ∙ length_places 0 pieces in
    let few : length (toks_of pieces) ≤ length pieces = length_toks-le pieces in
    omega (arith, c.self.invariant.0.few)

pub returns : goal.returns
returns c =
    let pieces = c.self.inside.solid.items in
    let same : length (toks_of pieces) ≡ length (toks_of c.args.self.now) = ap length (sym (toks_filled 0 pieces c.self.inside.end)) ∙ ap (λ ps. length (toks_of ps)) c.self.view_is in
    let count : length c.self.inside.tokens.items ≡ length (toks_of pieces) = ap length c.self.invariant.0.places ∙ length_places 0 pieces in
    let fewer : length (toks_of pieces) ≤ length pieces = length_toks-le pieces in
    record { count = omega arith; few = omega (arith, c.self.invariant.0.few) }

use Rattle.std.proofs.Common.{◌∙◌, ◌++◌, ◌∷◌, [], ap, arith}
use Rattle.luf_lex.specs.declared.token.Piece.{Piece}
use Rattle.luf_lex.proofs.GrowingLemmas.{grown_token}
use Rattle.luf_lex.proofs.growing.Growing.push_token.Goals as goal

pub returns-clause-grown : goal.returns-clause-grown
returns-clause-grown c =
    grown_token c.args.self.now.tokens.items c.args.self.now.comments.items c.args.self.now.pieces.items c.piece.result c.args.tok _ _
    (ap (λ (p : Piece). p.kind) c.piece.ensures)
    (c.in_ok-push.ensures.items ∙ ap (λ n. c.args.self.now.tokens.items ++ n ∷ []) (omega (arith, c.len.ensures)))
    c.in_ok-push-2.ensures.items c.requires.grown

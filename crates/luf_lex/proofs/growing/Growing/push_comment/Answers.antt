use Rattle.std.proofs.Common.{◌∙◌, ◌++◌, ◌∷◌, [], ap, arith}
use Rattle.luf_lex.specs.declared.token.Piece.{Piece}
use Rattle.luf_lex.proofs.GrowingLemmas.{grown_comment}
use Rattle.luf_lex.proofs.growing.Growing.push_comment.Goals as goal

pub returns-clause-grown : goal.returns-clause-grown
returns-clause-grown c =
    grown_comment c.args.self.now.tokens.items c.args.self.now.comments.items c.args.self.now.pieces.items c.piece.result _ _
    (ap (λ (p : Piece). p.kind) c.piece.ensures)
    (c.in_ok-push.ensures.items ∙ ap (λ n. c.args.self.now.comments.items ++ n ∷ []) (omega (arith, c.len.ensures)))
    c.in_ok-push-2.ensures.items c.requires.grown

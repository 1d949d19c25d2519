use Rattle.std.proofs.Common.{◌∙◌, ap}
use Rattle.luf_lex.specs.Note.{is_comment}
use Rattle.luf_lex.specs.Tokens.{is_token}
use Rattle.luf_lex.specs.declared.token.Piece.{Piece}
use Rattle.luf_lex.proofs.GrowingLemmas.{grown_other}
use Rattle.luf_lex.proofs.growing.Growing.push_other.Goals as goal

pub returns-clause-grown : goal.returns-clause-grown
returns-clause-grown c =
    grown_other c.args.self.now.tokens.items c.args.self.now.comments.items c.args.self.now.pieces.items c.piece.result _
    (ap (λ (p : Piece). is_token p.kind) c.piece.ensures ∙ c.requires.token)
    (ap (λ (p : Piece). is_comment p.kind) c.piece.ensures ∙ c.requires.comment)
    c.in_ok-push.ensures.items c.requires.grown

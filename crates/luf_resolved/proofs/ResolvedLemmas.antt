-- A source has one cut, so with one tree it resolves to one program.
use Rattle.std.proofs.Common.{List, ap, sym, ◌∙◌}
use Rattle.luf_lex.specs.declared.token.Piece.{Piece}
use Rattle.luf_tree.specs.SyntaxOf.{syntax_of}
use Rattle.luf_lex.proofs.OneCut.{one_cut}
use Rattle.luf_resolved.specs.Resolved.{resolved}
use Rattle.luf_scope.specs.Links.{spelling_in}
use Rattle.luf_resolved.specs.ResolvedLaws.{OneMeaning}

pub one_meaning : OneMeaning
one_meaning source chunk program other a b = sym a.is ∙ ap (λ (pieces : List Piece). resolved (spelling_in source pieces) (syntax_of chunk)) (one_cut source a.pieces b.pieces a.cut b.cut) ∙ b.is

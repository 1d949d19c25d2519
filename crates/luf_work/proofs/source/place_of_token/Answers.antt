use Rattle.std.proofs.Common.{ap, ◌∙◌, arith, Some, None}
use Rattle.luf_text.specs.Place.{place_in}
use Rattle.luf_lex.proofs.SpellingLemmas.{span_within}
use Rattle.luf_work.proofs.RefusalLemmas.{start_is}
use Rattle.luf_work.proofs.source.place_of_token.Goals as goal

pub place_of-requires-clause-within : goal.place_of-requires-clause-within
place_of-requires-clause-within c =
    let inside = span_within c.args.src.now c.args.pieces.now c.args.token c.in-Some.span c.requires.cut c.in-Some.ensures in
    omega arith

pub returns-in-Some : goal.returns-in-Some
returns-in-Some c = c.place_of.ensures ∙ ap (place_in c.args.src.now) (start_is c.args.src.now c.args.pieces.now c.args.token (Some c.in-Some.span) c.in-Some.ensures)

pub returns-in-None : goal.returns-in-None
returns-in-None c = c.place_of-in-None.ensures ∙ ap (place_in c.args.src.now) (start_is c.args.src.now c.args.pieces.now c.args.token None c.in-None.ensures)

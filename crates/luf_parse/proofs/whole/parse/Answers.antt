use Rattle.luf_lex.specs.Tokens.{toks_of}
use Rattle.luf_parse.proofs.AllTokens.{refused_exactly}
use Rattle.luf_parse.proofs.Answered.{answered}
use Rattle.luf_parse.proofs.whole.parse.Goals as goal

pub returns-clause-refused : goal.returns-clause-refused
returns-clause-refused c = refused_exactly (toks_of c.args.cut.now) _ c.whole.ensures.exact

pub returns-clause-complete : goal.returns-clause-complete
returns-clause-complete c = answered _ c.whole.ensures.tree (refused_exactly (toks_of c.args.cut.now) _ c.whole.ensures.exact)

use Rattle.luf_lex.specs.First as fault
use Rattle.luf_lex.proofs.StringLemmas.{first_long}
use Rattle.luf_lex.proofs.string.long_string.Goals as goal

pub returns-in-Some : goal.returns-in-Some
returns-in-Some c = first_long c.args.text.now c.in-Some.length c.requires c.in-Some.ensures.0 c.in-Some.ensures.1

pub returns-in-None : goal.returns-in-None
returns-in-None c = fault.open_long c.args.text.now c.in-None.ensures

use Rattle.luf_lex.specs.First as fault
use Rattle.luf_lex.proofs.StringLemmas.{first_short, starts_quoted}
use Rattle.luf_lex.proofs.string.short_string.Goals as goal

pub short_end-requires : goal.short_end-requires
short_end-requires c = let starts = starts_quoted c.args.text.now c.requires in record { some = starts.0; quote = starts.1 }

pub returns-in-Closed : goal.returns-in-Closed
returns-in-Closed c = first_short c.args.text.now c.in-Closed.length c.requires c.in-Closed.ensures.0 c.in-Closed.ensures.1

pub returns-in-Bad : goal.returns-in-Bad
returns-in-Bad c = fault.bad_escape c.args.text.now c.in-Bad.at c.in-Bad.ensures

pub returns-in-Open : goal.returns-in-Open
returns-in-Open c = fault.open_string c.args.text.now c.in-Open.ensures

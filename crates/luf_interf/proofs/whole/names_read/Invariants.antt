use Rattle.luf_lex.specs.Tokens.{toks_of}
use Rattle.luf_interf.specs.inner.Told.{name_told, AreToldTo}
use Rattle.luf_interf.proofs.whole.names_read.Given as goal

-- the names of the tokens so far are told
abbrev pub invariant-loop-n : goal.invariant-loop-n
invariant-loop-n l = AreToldTo (name_told (toks_of l.cut) l.l l.j l.locals.items l.labels.items) l.n l.found

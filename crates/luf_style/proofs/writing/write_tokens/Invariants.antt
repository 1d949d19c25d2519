use Rattle.luf_lex.specs.Tokens.{toks_of, spellings_of}
use Rattle.luf_style.specs.inner.Written.{quote_in}
use Rattle.luf_style.proofs.MadeLaws.{AreMade}
use Rattle.luf_style.proofs.writing.write_tokens.Given as goal

abbrev pub invariant-loop-n : goal.invariant-loop-n
invariant-loop-n l = AreMade (quote_in l.style) (toks_of l.cut) (spellings_of l.src l.cut) l.n l.made

use Rattle.std.proofs.lemmas.Bool.{false≢true}
use Rattle.luf_lex.proofs.NumeralLemmas.{numeral_fault}
use Rattle.luf_lex.proofs.numeral.numeral.Goals as goal

pub returns-in-None : goal.returns-in-None
returns-in-None c =
    numeral_fault c.args.text.now c.scan-len.result c.requires c.scan-len.ensures.whole (λ form. false≢true (c.in-None.ensures.form.1 form))

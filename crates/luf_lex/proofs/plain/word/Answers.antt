use Rattle.luf_lex.proofs.PlainLemmas.{letter_group, keyword_first, name_first}
use Rattle.luf_lex.proofs.plain.word.Goals as goal

pub returns-in-Some : goal.returns-in-Some
returns-in-Some c = keyword_first c.args.text.now c.word_run-len.result c.in-Some.word (letter_group c.args.text.now c.requires) c.requires c.word_run-len.ensures.count c.in-Some.ensures

pub returns-in-None : goal.returns-in-None
returns-in-None c = name_first c.args.text.now c.word_run-len.result (letter_group c.args.text.now c.requires) c.requires c.word_run-len.ensures.count c.in-None.ensures

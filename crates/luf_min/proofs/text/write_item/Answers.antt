use Rattle.std.proofs.Common.{sym}
use Rattle.luf_lex.specs.declared.token.Tok.TheVariants.{Word, Sign}
use Rattle.luf_min.proofs.text.write_item.Goals as goal

pub write_word-requires-clause-right : goal.write_word-requires-clause-right
write_word-requires-clause-right c = (Word c.in-Word.word, sym c.word_spelling.ensures)

pub write_word-requires-in-Sign-clause-right : goal.write_word-requires-in-Sign-clause-right
write_word-requires-in-Sign-clause-right c = (Sign c.in-Sign.sign, sym c.sign_spelling.ensures)

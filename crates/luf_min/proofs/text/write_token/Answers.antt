use Rattle.std.proofs.Common.{◌∙◌, ap, sym, subst}
use Rattle.std.specs.Option.{option_copied}
use Rattle.luf_lex.specs.Spelling.{IsName}
use Rattle.luf_lex.specs.declared.token.Tok.TheVariants.{Name}
use Rattle.luf_guard.proofs.Spellings.{spelling_at}
use Rattle.luf_min.proofs.NewSpelling.{name_spelling}
use Rattle.luf_min.proofs.TextLemmas.{counted}
use Rattle.luf_min.proofs.text.write_token.Goals as goal

pub write_word-requires-clause-right : goal.write_word-requires-clause-right
write_word-requires-clause-right c = (Name, subst IsName (sym c.as_slice.ensures) (name_spelling c.in-Some-default.name c.in-Some-default.ensures.name.0 c.in-Some-default.ensures.name.1))

pub write_word-requires-in-None-Some-clause-right : goal.write_word-requires-in-None-Some-clause-right
write_word-requires-in-None-Some-clause-right c = spelling_at c.args.src.now c.args.cut.now c.requires.cut c.args.n c.in-None-Some.spelling.now (sym c.spelling.ensures ∙ ap option_copied c.in-None-Some.is-1)

pub returns-in-None-None-clause-ok : goal.returns-in-None-None-clause-ok
returns-in-None-None-clause-ok c = absurd (counted c.args.src.now c.args.cut.now c.args.n c.requires.within (sym (ap option_copied c.in-None-None.is-1) ∙ c.spelling.ensures))

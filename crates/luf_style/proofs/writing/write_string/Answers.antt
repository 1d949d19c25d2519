use Rattle.std.proofs.Common.{inl}
use Rattle.luf_str.proofs.Apart.{short_is_spelled}
use Rattle.luf_style.proofs.WrittenLaws.{requoted_whole}
use Rattle.luf_style.proofs.writing.write_string.Goals as goal

pub quotes-requires-clause-spelling : goal.quotes-requires-clause-spelling
quotes-requires-clause-spelling c = inl (short_is_spelled c.args.spelling.now c.requires.token.0 c.requires.token.1)

pub requote-requires-clause-spelling : goal.requote-requires-clause-spelling
requote-requires-clause-spelling c = inl (short_is_spelled c.args.spelling.now c.requires.token.0 c.requires.token.1)

pub returns : goal.returns
returns c =
    let spelled = short_is_spelled c.args.spelling.now c.requires.token.0 c.requires.token.1 in
    requoted_whole c.args.style c.args.spelling.now c.quotes.result c.choose-quote.result c.in_ok-written.written.items c.requote.new.into.items c.from_vec.result
    (c.quotes.ensures.single spelled) (c.quotes.ensures.double spelled) c.choose-quote.ensures c.in_ok-written.ensures.items c.in_ok-requote.ensures.ok c.from_vec.ensures

use Rattle.std.proofs.Common.{◌∙◌, refl, sym}
use Rattle.std.proofs.lemmas.Slice.Eq.{bytes_eq-Decides}
use Rattle.luf_lex.specs.Tokens.{toks_of, spellings_of}
use Rattle.luf_lex.specs.declared.token.Tok.TheVariants.{Short}
use Rattle.luf_style.specs.inner.Written.{quote_in}
use Rattle.luf_style.proofs.MadeLaws.{is_made, on_ok_three, not_made, other_token, same_string_token}
use Rattle.luf_style.proofs.WrittenLaws.{quote_in_is_quote, token_spelled}
use Rattle.luf_style.proofs.writing.make_text.Goals as goal

pub returns-in_default : goal.returns-in_default
returns-in_default c =
    not_made (quote_in c.args.style) (toks_of c.args.cut.now) (spellings_of c.args.src.now c.args.cut.now) c.args.into.now c.args.n c.requires.few
    (other_token (quote_in c.args.style) (toks_of c.args.cut.now) (spellings_of c.args.src.now c.args.cut.now) c.args.n (c.in_default.ensures.other refl))

pub write_string-requires-clause-token : goal.write_string-requires-clause-token
write_string-requires-clause-token c = token_spelled c.args.src.now c.args.cut.now c.requires.cut c.args.n _ c.in-Some.spelling.now (sym c.in-Some.ensures.token) (sym c.in-Some.ensures.spelling)

pub returns-then-eq : goal.returns-then-eq
returns-then-eq c =
    let quote = quote_in c.args.style in
    let toks = toks_of c.args.cut.now in
    let spellings = spellings_of c.args.src.now c.args.cut.now in
    let same = sym c.as_slice.ensures ∙ (bytes_eq-Decides c.as_slice.result.now c.in-Some.spelling.now).0 (sym c.eq.ensures ∙ c.if-eq.true) in
    not_made quote toks spellings c.args.into.now c.args.n c.requires.few
    (same_string_token quote toks spellings c.args.n c.in-Some.spelling.now c.in_ok-text.text c.in-Some.ensures.token c.in-Some.ensures.spelling c.in_ok-text.ensures same)

pub returns : goal.returns
returns c =
    let spelled = token_spelled c.args.src.now c.args.cut.now c.requires.cut c.args.n Short c.in-Some.spelling.now (sym c.in-Some.ensures.token) (sym c.in-Some.ensures.spelling) in
    on_ok_three c.put.result
    (λ few same text. is_made (quote_in c.args.style) (quote_in_is_quote c.args.style) (toks_of c.args.cut.now) (spellings_of c.args.src.now c.args.cut.now) c.args.into.now c.put.new.self c.args.n
    c.in-Some.spelling.now c.in_ok-text.text c.in-Some.ensures.token c.in-Some.ensures.spelling spelled c.in_ok-text.ensures few same (text ∙ c.as_slice-2.ensures))
    c.put.ensures.few c.put.ensures.same c.put.ensures.text

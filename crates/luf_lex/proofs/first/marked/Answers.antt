use Rattle.std.proofs.Common.{true, false, sym, ◌∙◌}
use Rattle.luf_byte.specs.Class.{is_line_byte}
use Rattle.luf_lex.specs.First.{no_token}
use Rattle.luf_lex.proofs.RunLemmas.{begins_with}
use Rattle.luf_lex.proofs.PlainLemmas.{line_group, line_end_first, sign_first, none_first}
use Rattle.luf_lex.proofs.first.marked.Goals as goal

pub returns-then-is_line_byte : goal.returns-then-is_line_byte
returns-then-is_line_byte c =
    let text = c.args.text.now in
    let line = begins_with is_line_byte text true c.requires.some (sym c.is_line_byte.ensures ∙ c.if-is_line_byte.true) in
    line_end_first text c.line_end_length.result (line_group text line) line c.line_end_length.ensures.value

pub returns-in-Some : goal.returns-in-Some
returns-in-Some c =
    let text = c.args.text.now in
    let no_line = begins_with is_line_byte text false c.requires.some (sym c.is_line_byte.ensures ∙ c.if-is_line_byte.false) in
    sign_first text c.in-Some.sign c.in-Some.len (sym c.in-Other.ensures) c.requires.letter c.requires.blank no_line c.in-Some.ensures.0 c.in-Some.ensures.1 c.in-Some.ensures.2

pub returns-in-None : goal.returns-in-None
returns-in-None c =
    let text = c.args.text.now in
    let no_line = begins_with is_line_byte text false c.requires.some (sym c.is_line_byte.ensures ∙ c.if-is_line_byte.false) in
    no_token text (sym c.in-Other.ensures) (none_first text (sym c.in-Other.ensures) c.requires.letter c.requires.blank no_line c.in-None.ensures)

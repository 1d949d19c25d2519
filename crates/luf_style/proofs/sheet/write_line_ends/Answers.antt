-- One line end, or two.
use Rattle.std.proofs.Common.{◌∙◌, [], ◌++◌, Bool, cond, ap, sym, append-nil}
use Rattle.std.proofs.lemmas.Result.{on_ok_weaker}
use Rattle.luf_doc.specs.Layout.{written_line_end}
use Rattle.luf_style.proofs.sheet.write_line_ends.Goals as goal

pub returns-then-blank-clause-behind : goal.returns-then-blank-clause-behind
returns-then-blank-clause-behind c =
    on_ok_weaker c.write_line_end-then-blank.result
    (λ second page. second page ∙ (λ i. c.in_ok-write_line_end.ensures.behind page i ++ cond (sym c.if-blank.true i) (written_line_end page) []))
    c.write_line_end-then-blank.ensures.behind

pub returns-clause-behind : goal.returns-clause-behind
returns-clause-behind c = λ page.
    let first = c.args.into.now.behind ++ written_line_end page in
    c.in_ok-write_line_end.ensures.behind page ∙ sym (append-nil first) ∙ ap (λ (b : Bool). first ++ cond b (written_line_end page) []) (sym c.if-blank.false)

-- The line ends and the indentation are the break.
use Rattle.std.proofs.Common.{refl, ◌∙◌, ◌++◌, ap}
use Rattle.luf_doc.specs.Layout.{written_indentation}
use Rattle.luf_style.proofs.SheetLaws.{break_shows}
use Rattle.luf_style.proofs.sheet.Sheet.break_line.Goals as goal

pub returns-in_ok-write_indentation-clause-shown : goal.returns-in_ok-write_indentation-clause-shown
returns-in_ok-write_indentation-clause-shown c = λ done shown.
    break_shows c.args.page.now c.args.self.now _ c.args.level c.args.blank done shown c.if-self.true
    (c.in_ok-write_indentation.ensures.behind ∙ ap (λ bs. bs ++ written_indentation c.args.page.now c.args.level) (c.in_ok-write_line_ends.ensures.behind c.args.page.now))
    c.saturating_mul-self.ensures refl

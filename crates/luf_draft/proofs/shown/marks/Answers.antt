use Rattle.std.proofs.Common.{ap, ◌∙◌, map}
use Rattle.std.proofs.lemmas.Result.{IfOk-weaker}
use Rattle.luf_tree.specs.SyntaxOf.{syntax_of}
use Rattle.luf_lex.specs.Tokens.{toks_of}
use Rattle.luf_quote.specs.Parens.{keeps_round_string, keeps_round_table}
use Rattle.luf_draft.specs.Flat.{shown}
use Rattle.luf_draft.proofs.FlatLaws.{marks_are_flat}
use Rattle.luf_draft.proofs.shown.marks.Goals as goal

pub returns : goal.returns
returns c =
    IfOk-weaker c.read.result _ _
    (λ found is written alike. ap (map (shown written)) is ∙ marks_are_flat (toks_of c.args.cut.now) (keeps_round_string c.args.calls) (keeps_round_table c.args.calls) written alike (syntax_of c.args.c.now))
    c.read.ensures

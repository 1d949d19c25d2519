use Rattle.std.proofs.Common.{[], ap, get_or, ◌∙◌}
use Rattle.luf_lex.specs.Tokens.{spellings_of}
use Rattle.luf_style.proofs.MadeLaws.{made_at, spelled_there, spelled_nowhere}
use Rattle.luf_style.proofs.TextLaws.{is_nothing, is_something}
use Rattle.luf_style.proofs.written.Written.get.Goals as goal

pub returns-then-not-is_empty : goal.returns-then-not-is_empty
returns-then-not-is_empty c = made_at c.self.inside.made (spellings_of c.self.inside.src.now c.self.inside.cut.now) c.args.n c.get-made.result.now c.get-made.ensures (is_something c.get-made.result.now _ c.is_empty.ensures c.if-not-is_empty.true) ∙ ap (λ ts. get_or ts c.args.n []) c.self.view_is

pub returns-in-Some : goal.returns-in-Some
returns-in-Some c =
    spelled_there c.self.inside.made (spellings_of c.self.inside.src.now c.self.inside.cut.now) c.args.n c.get-made.result.now c.get-made.ensures c.in-Some.spelling.now (is_nothing c.get-made.result.now _ c.is_empty.ensures c.if-not-is_empty.false) c.in-Some.ensures
    ∙ ap (λ ts. get_or ts c.args.n []) c.self.view_is

pub returns-in-None : goal.returns-in-None
returns-in-None c =
    spelled_nowhere c.self.inside.made (spellings_of c.self.inside.src.now c.self.inside.cut.now) c.args.n c.get-made.result.now c.get-made.ensures (is_nothing c.get-made.result.now _ c.is_empty.ensures c.if-not-is_empty.false) c.in-None.ensures
    ∙ ap (λ ts. get_or ts c.args.n []) c.self.view_is
